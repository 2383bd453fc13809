use Rattle.tb_cell_tests.proofs.mixed_batches.is_wanted.Given as goal

-- the ledger of the blank
abbrev pub ghosts-has_records : goal.ghosts-has_records
ghosts-has_records a = record { name = a.blank.name; parts = a.blank.parts }
