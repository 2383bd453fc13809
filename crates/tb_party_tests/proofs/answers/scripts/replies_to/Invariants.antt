use Rattle.tb_party_tests.proofs.answers.scripts.replies_to.Given as goal

-- the front of the opening
abbrev pub ghosts-run : goal.ghosts-run
ghosts-run g a = record { name = a.opening.name }
