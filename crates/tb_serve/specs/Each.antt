-- Lists that are changed element by element.
use Rattle.std.specs.Prelude.{◌≡◌, ℕ, ◌<◌, List, length, slice_index_or}

-- two lists of one length, of which each element of the second stands to that of the first as a
-- relation of their place says
pub record Each {A : Type 0} (R : ℕ → A → A → Type 0) (before after : List A) : Type 0 where
  pub same_length : length after ≡ length before
  pub at : (i : ℕ) (d : A) → i < length before
      → R i (slice_index_or before i d) (slice_index_or after i d)
