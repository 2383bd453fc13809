use Rattle.tb_serve_tests.proofs.unspoiled.holds_into_nothing.Given as goal

-- the ledger of the blank
abbrev pub ghosts-into_nothing : goal.ghosts-into_nothing
ghosts-into_nothing g a = record { name = a.blank.name; parts = a.blank.parts }
