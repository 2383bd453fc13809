-- The places to which the number of a place leads: its own, and those with Total in place of some
-- of its entries. Total is the last entry of each dimension.
use Rattle.std.specs.Prelude.{◌≡◌, ◌+◌, ◌-◌, ◌*◌, ◌/◌, ◌%◌, ◌<◌, ◌==◌, ◌||◌, ℕ, Bool}
use Rattle.std.specs.Prelude.{List, [], ◌∷◌, drop, length, slice_index}
use Rattle.tb_model.specs.RowMajor.{product}

-- the number of the place with Total in place of the entry of a dimension that has n, where these
-- are the sizes of those after it
abbrev pub raised : ℕ → List ℕ → ℕ → ℕ
raised n ns x = x / (n * product ns) * (n * product ns) + (n - 1) * product ns + x % product ns

-- whether a number leads to the place of another, where the dimensions that have Total and may be
-- raised have these sizes
unfoldable pub meets : List ℕ → ℕ → ℕ → Bool
meets [] x i = x == i
meets (n ∷ ns) x i = meets ns x i || meets ns (raised n ns x) i

-- the number with Total in place of the entry of dimension d
abbrev pub raised_at : List ℕ → ℕ → ℕ → ℕ
raised_at sizes d x = raised (slice_index sizes d) (drop (d + 1) sizes) x

-- for each dimension in turn the raised number of each place, one after the other
pub record AreRaised (sizes : List ℕ) (places : ℕ) (ups : List ℕ) : Type 0 where
  pub long : length ups ≡ length sizes * places
  pub raised : (d x : ℕ) → d < length sizes → x < places
      → slice_index ups (d * places + x) ≡ raised_at sizes d x
  pub below : (d x : ℕ) → d < length sizes → x < places → raised_at sizes d x < places
