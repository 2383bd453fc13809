use Rattle.tb_party_tests.proofs.answers.sinks.is_published_over.Given as goal

-- the front of the opening
abbrev pub ghosts-is_published : goal.ghosts-is_published
ghosts-is_published g a = record { name = a.opening.name }
