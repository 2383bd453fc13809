use Rattle.tb_serve.proofs.workers.work_as.Given as goal

-- the ledger of the blank
abbrev pub ghosts-work_counted : goal.ghosts-work_counted
ghosts-work_counted g a = record { name = a.blank.name; parts = a.blank.parts }
