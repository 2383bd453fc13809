use Rattle.tb_unit_tests.proofs.making.cells_of.Given as goal

-- the ledger of the blank
abbrev pub ghosts-counted : goal.ghosts-counted
ghosts-counted a = record { name = a.blank.name; parts = a.blank.parts }
