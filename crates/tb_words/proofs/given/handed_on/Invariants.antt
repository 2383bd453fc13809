use Rattle.std.proofs.Common.{◌≡◌, map, take, string_bytes}
use Rattle.tb_words.specs.Words.{handed}
use Rattle.tb_words.proofs.given.handed_on.Given as goal

-- the words so far
abbrev pub invariant-loop-word : goal.invariant-loop-word
invariant-loop-word l = map (λ s. s.now) l.handed.items ≡ map (λ s. handed (string_bytes s)) (take l.word-index l.words)
