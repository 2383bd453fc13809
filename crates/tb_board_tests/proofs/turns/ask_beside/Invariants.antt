use Rattle.tb_board_tests.proofs.turns.ask_beside.Given as goal

-- the ledger of the blank
abbrev pub ghosts-ask_often : goal.ghosts-ask_often
ghosts-ask_often g a = record { name = a.blank.name; parts = a.blank.parts }
