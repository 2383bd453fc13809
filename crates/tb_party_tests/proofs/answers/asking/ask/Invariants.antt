use Rattle.tb_party_tests.proofs.answers.asking.ask.Given as goal

-- the ledger of the blank
abbrev pub ghosts-ask_with : goal.ghosts-ask_with
ghosts-ask_with g a = record { name = a.blank.name; parts = a.blank.parts }
