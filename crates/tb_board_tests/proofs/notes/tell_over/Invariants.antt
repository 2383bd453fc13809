use Rattle.tb_board_tests.proofs.notes.tell_over.Given as goal

-- the front of the opening
abbrev pub ghosts-tell_by_note : goal.ghosts-tell_by_note
ghosts-tell_by_note g a = record { name = a.opening.name }
