use Rattle.tb_top_tests.proofs.running.status_of.Given as goal

-- the ledger of the blank
abbrev pub ghosts-count_in_memory : goal.ghosts-count_in_memory
ghosts-count_in_memory g a = record { name = a.blank.name; parts = a.blank.parts }
