use Rattle.std.proofs.Common.{◌≡◌, ◌∷◌, map, take, string_bytes}
use Rattle.clap.specs.Words.{found_of, rows_of}
use Rattle.tb_words.specs.Positions.{value_at}
use Rattle.tb_words.proofs.given.words_at.Given as goal

-- the name, and what stands at the positions so far
abbrev pub invariant-loop-position : goal.invariant-loop-position
invariant-loop-position l = map string_bytes l.words.items
    ≡ l.name ∷ map (λ s. value_at (rows_of (found_of l.found)) s.now) (take l.position-index l.positions)
