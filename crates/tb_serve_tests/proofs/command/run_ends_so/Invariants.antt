use Rattle.tb_serve_tests.proofs.command.run_ends_so.Given as goal

-- the ledger of the blank
abbrev pub ghosts-files_end_so : goal.ghosts-files_end_so
ghosts-files_end_so g a = record { name = a.blank.name; parts = a.blank.parts }
