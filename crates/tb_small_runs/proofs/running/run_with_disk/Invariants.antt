use Rattle.tb_small_runs.proofs.running.run_with_disk.Given as goal

-- the ledger of the blank
abbrev pub ghosts-count_surely : goal.ghosts-count_surely
ghosts-count_surely g a = record { name = a.blank.name; parts = a.blank.parts }
