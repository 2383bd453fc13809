use Rattle.tb_party_tests.proofs.lanes.making.run_open.Given as goal

-- the front of the opening
abbrev pub ghosts-run_past : goal.ghosts-run_past
ghosts-run_past g a = record { name = a.opening.name }
