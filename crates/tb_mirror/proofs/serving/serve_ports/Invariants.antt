use Rattle.tb_mirror.proofs.serving.serve_ports.Given as goal

-- the front of the opening
abbrev pub ghosts-serve_opened : goal.ghosts-serve_opened
ghosts-serve_opened g a = record { name = a.opening.name }
