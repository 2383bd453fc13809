use Rattle.tb_party_tests.proofs.answers.past.past_over.Given as goal

-- the front of the opening
abbrev pub ghosts-are_equal_over : goal.ghosts-are_equal_over
ghosts-are_equal_over g a = record { name = a.opening.name }
