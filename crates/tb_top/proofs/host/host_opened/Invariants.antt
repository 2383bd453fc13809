use Rattle.tb_top.proofs.host.host_opened.Given as goal

-- the front of the opening
abbrev pub ghosts-host_on_board : goal.ghosts-host_on_board
ghosts-host_on_board g a = record { name = a.opening.name }
