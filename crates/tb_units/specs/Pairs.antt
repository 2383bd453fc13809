-- Pairs of numbers, looked up by their first numbers.
use Rattle.std.specs.Prelude.{◌≡◌, ◌==◌, ◌<◌, ℕ, Bool, List, length, slice_index_or}
use Rattle.std.specs.List.{list_any}
use Rattle.tb_model.specs.Units.{PairValue}

-- whether a number stands first in one of the pairs
abbrev pub has_first : List PairValue → ℕ → Bool
has_first pairs n = list_any (λ p. n == p.0) pairs

-- the pair at a place
abbrev pub pair_at : List PairValue → ℕ → PairValue
pair_at pairs i = slice_index_or pairs i (0, 0)

-- a number stands first in the pair at a place
abbrev pub IsAt : List PairValue → ℕ → ℕ → Type 0
IsAt pairs n i = (i < length pairs) × ((pair_at pairs i).0 ≡ n)
