use Rattle.tb_party_tests.proofs.answers.scripts.run.Given as goal

-- the ledger of the blank
abbrev pub ghosts-run_with : goal.ghosts-run_with
ghosts-run_with g a = record { name = a.blank.name; parts = a.blank.parts }
