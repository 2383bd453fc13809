use Rattle.tb_cell_tests.proofs.packed_cubes.keeps_over.Given as goal

-- the ledger of the blank
abbrev pub ghosts-keeps_of : goal.ghosts-keeps_of
ghosts-keeps_of g a = record { name = a.blank.name; parts = a.blank.parts }
