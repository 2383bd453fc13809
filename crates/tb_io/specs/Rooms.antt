-- The bytes that were read ahead, and the line that was cut off them.
use Rattle.std.specs.Prelude.{◌≡◌, ℕ, ◌<◌, ◌++◌, false, List, length, take, slice_index}
use Rattle.std.specs.Prelude.{Option, None, Some}
use Rattle.tb_io.specs.Lines.{has_line_feed}
use Rattle.tb_io.specs.Sources.{Gave, IsAtEnd}
use Rattle.tb_io.specs.declared.read.Read.{Read}
use Rattle.tb_io.specs.declared.read.Read.TheVariants.{Got, End, Failed}

-- the last line, and the bytes after it
pub record RoomValue : Type 0 where
  pub line : List ℕ
  pub ahead : List ℕ

-- the first line feed stands at this place, or there is none
abbrev pub IsFirstFeed : List ℕ → Option ℕ → Type 0
IsFirstFeed bytes None = has_line_feed bytes ≡ false
IsFirstFeed bytes (Some i) =
    (i < length bytes) × (slice_index bytes i ≡ 10) × (has_line_feed (take i bytes) ≡ false)

-- what a read adds to the bytes that were read ahead: what the source gave
abbrev pub Fills : Read → Option (List ℕ) → Option (List ℕ) → List ℕ → List ℕ → Type 0
Fills (Got n) before after old new =
    (given : List ℕ) × (0 < length given) × (new ≡ old ++ given) × Gave before after given
Fills End before after old new = (new ≡ old) × IsAtEnd before × (after ≡ before)
Fills Failed before after old new = (new ≡ old) × (after ≡ before)
