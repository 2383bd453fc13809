use Rattle.tb_party_tests.proofs.sessions.talking.one_session.Given as goal

-- the front of the opening
abbrev pub ghosts-talk_to_custodian : goal.ghosts-talk_to_custodian
ghosts-talk_to_custodian g a = record { name = a.opening.name }
