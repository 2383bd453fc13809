-- The places of a table with Total, from those without.
use Rattle.std.specs.Prelude.{◌≡◌, ◌+◌, ◌-◌, ◌*◌, ◌/◌, ◌%◌, ◌<◌, ◌==◌, ℕ}
use Rattle.std.specs.Prelude.{List, [], ◌∷◌, length, if◌then◌else◌}
use Rattle.std.specs.List.{sum_by, range_with_len}
use Rattle.tb_base.specs.declared.cells.Cell.{Cell}
use Rattle.tb_base.specs.Parts.{modulus, part_at, Part}
use Rattle.tb_model.specs.RowMajor.{product}

-- the sum of f over the places that lie in place i, where the dimensions have these sizes and
-- Total is the last entry of each
unfoldable pub total_at : List ℕ → (ℕ → ℕ) → ℕ → ℕ
total_at [] f i = f i
total_at (n ∷ ns) f i =
    if (i / product ns == n - 1)
    then sum_by (λ e. total_at ns (λ j. f (e * product ns + j)) (i % product ns))
    (range_with_len 0 n)
    else total_at ns (λ j. f (i / product ns * product ns + j)) (i % product ns)

-- each number is above 0
abbrev pub AreSome : List ℕ → Type 0
AreSome [] = Unit {0}
AreSome (n ∷ ns) = (0 < n) × AreSome ns

-- each new cell is the sum of the old ones that lie in its place, each part modulo its modulus
abbrev pub AreTotals : List ℕ → List Cell → List Cell → Type 0
AreTotals ns old new =
    (p : Part) (i : ℕ) → i < length old
    → part_at p new i % modulus p ≡ total_at ns (part_at p old) i % modulus p

-- the old cells are the sums of the new ones
abbrev pub WereTotals : List ℕ → List Cell → List Cell → Type 0
WereTotals ns old new =
    (p : Part) (i : ℕ) → i < length old
    → part_at p old i % modulus p ≡ total_at ns (part_at p new) i % modulus p
