use Rattle.tb_party_tests.proofs.answers.wider.is_asked_over.Given as goal

-- the front of the opening
abbrev pub ghosts-asks_over : goal.ghosts-asks_over
ghosts-asks_over g a = record { name = a.opening.name }
