use Rattle.tb_party_tests.proofs.sessions.talking.talk.Given as goal

-- the ledger of the blank
abbrev pub ghosts-talk_with : goal.ghosts-talk_with
ghosts-talk_with g a = record { name = a.blank.name; parts = a.blank.parts }
