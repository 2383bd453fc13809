-- Marks at the places of a table: which thing was last counted at each place, by its stamp.
use Rattle.std.specs.Prelude.{◌≡◌, ◌+◌, ◌%◌, ◌<◌, ◌==◌, ◌&&◌, ℕ, Bool, not, cond}
use Rattle.std.specs.Prelude.{List, length, slice_index}
use Rattle.tb_base.specs.declared.cells.Cell.{Cell}
use Rattle.tb_base.specs.Parts.{modulus, part_at, weight, Part}

-- the thing of this stamp and this key is counted at a place exactly where it leads there and
-- wasn't counted there yet
pub record IsMarked (hit : ℕ → Bool) (stamp key : ℕ) (seen : List ℕ) (cells : List Cell)
    (seen' : List ℕ) (cells' : List Cell) (i : ℕ) : Type 0 where
  pub stamps : slice_index seen' i ≡ cond (hit i) stamp (slice_index seen i)
  pub parts : (p : Part) → part_at p cells' i % modulus p
      ≡ (part_at p cells i
      + cond (hit i && not (slice_index seen i == stamp)) (weight p key) 0) % modulus p

-- so it is at each place
abbrev pub AreMarked : (ℕ → Bool) → ℕ → ℕ → List ℕ → List Cell → List ℕ → List Cell → Type 0
AreMarked hit stamp key seen cells seen' cells' =
    (i : ℕ) → i < length cells → IsMarked hit stamp key seen cells seen' cells' i
