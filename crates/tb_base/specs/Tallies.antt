-- What stands at one place, where a column of places and one of record keys lie side by side.
use Rattle.std.specs.Prelude.{◌≡◌, ◌+◌, ◌%◌, ◌==◌, ◌<◌, ℕ, List, length, map, zip}
use Rattle.std.specs.List.{filter, sum, sum_by}
use Rattle.tb_base.specs.declared.cells.Cell.{Cell}
use Rattle.tb_base.specs.declared.keys.TheConstants.{MOST_KEYS}
use Rattle.tb_base.specs.Parts.{modulus, part_at, weight, Part}

-- the keys of the positions whose place is this one
abbrev pub keys_at : ℕ → List ℕ → List ℕ → List ℕ
keys_at place places keys = map (λ p. p.1) (filter (λ p. p.0 == place) (zip places keys))

-- the cell of these positions: how many they are, and the sum of their keys modulo the
-- largest key range
abbrev pub tally_of : ℕ → List ℕ → List ℕ → Cell
tally_of place places keys = record {
  count = length (keys_at place places keys);
  key = sum (keys_at place places keys) % MOST_KEYS;
}

-- what the positions of a place add to a part of its cell
abbrev pub tallied_at : Part → ℕ → List ℕ → List ℕ → ℕ
tallied_at p place places keys = sum_by (weight p) (keys_at place places keys)

-- each of the new cells is the old one with the positions whose place is its number
abbrev pub AreTallied : List Cell → List ℕ → List ℕ → List Cell → Type 0
AreTallied old places keys new =
    (p : Part) (i : ℕ) → i < length old
    → part_at p new i % modulus p ≡ (part_at p old i + tallied_at p i places keys) % modulus p
