use Rattle.tb_cell_tests.proofs.past_releases.wrong_after.Given as goal

-- the ledger of the blank
abbrev pub ghosts-wrong_release : goal.ghosts-wrong_release
ghosts-wrong_release a = record { name = a.blank.name; parts = a.blank.parts }
