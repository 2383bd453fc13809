use Rattle.tb_cell_tests.proofs.cubes.thousands_are_right.Given as goal

-- the ledger of the blank
abbrev pub ghosts-is_right_in_parts : goal.ghosts-is_right_in_parts
ghosts-is_right_in_parts g a = record { name = a.blank.name; parts = a.blank.parts }
