use Rattle.tb_lanes.proofs.lane.run_lane.Given as goal

-- the ledger of the blank
abbrev pub ghosts-run_counted : goal.ghosts-run_counted
ghosts-run_counted g a = record { name = a.blank.name; parts = a.blank.parts }
