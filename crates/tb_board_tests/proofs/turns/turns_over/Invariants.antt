use Rattle.tb_board_tests.proofs.turns.turns_over.Given as goal

-- the front of the opening
abbrev pub ghosts-turn_by_turn : goal.ghosts-turn_by_turn
ghosts-turn_by_turn g a = record { name = a.opening.name }
