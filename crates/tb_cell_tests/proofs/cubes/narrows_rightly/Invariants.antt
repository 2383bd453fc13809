use Rattle.tb_cell_tests.proofs.cubes.narrows_rightly.Given as goal

-- the ledger of the blank
abbrev pub ghosts-is_right_narrowed : goal.ghosts-is_right_narrowed
ghosts-is_right_narrowed g a = record { name = a.blank.name; parts = a.blank.parts }
