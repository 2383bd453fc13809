use Rattle.tb_party_tests.proofs.answers.homes.homes_over.Given as goal

-- the front of the opening
abbrev pub ghosts-are_answered_over : goal.ghosts-are_answered_over
ghosts-are_answered_over g a = record { name = a.opening.name }
