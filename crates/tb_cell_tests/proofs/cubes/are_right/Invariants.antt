use Rattle.tb_cell_tests.proofs.cubes.are_right.Given as goal

-- the ledgers of the blanks
abbrev pub ghosts-is_right : goal.ghosts-is_right
ghosts-is_right g a = record { name = a.blank.name; parts = a.blank.parts }

abbrev pub ghosts-is_right_in_parts : goal.ghosts-is_right_in_parts
ghosts-is_right_in_parts g a = record { name = a.blank.name; parts = a.blank.parts }
