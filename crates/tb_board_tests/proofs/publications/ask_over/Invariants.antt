use Rattle.tb_board_tests.proofs.publications.ask_over.Given as goal

-- the front of the opening
abbrev pub ghosts-ask_beside_publications : goal.ghosts-ask_beside_publications
ghosts-ask_beside_publications g a = record { name = a.opening.name }
