use Rattle.tb_party_tests.proofs.sessions.talking.two_sessions.Given as goal

-- the front of the opening
abbrev pub ghosts-talk_twice : goal.ghosts-talk_twice
ghosts-talk_twice g a = record { name = a.opening.name }
