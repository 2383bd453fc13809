-- What a call of `next_line` says of the bytes still to come.
use Rattle.std.specs.Prelude.{◌≡◌, ◌≢◌, ℕ, ◌+◌, ◌<◌, ◌≤◌, Bool, true, false, not, List, [], ◌++◌}
use Rattle.std.specs.Prelude.{length, Option, None, Some}
use Rattle.tb_io.specs.Lines.{has_line_feed, line_of, rest_of}
use Rattle.tb_io.specs.Sources.{Gave}
use Rattle.tb_io.specs.declared.limits.TheConstants.{MOST_LINE_BYTES}
use Rattle.tb_io.specs.declared.line_reader.NextLine.{NextLine}
use Rattle.tb_io.specs.declared.line_reader.NextLine.TheVariants.{Line, End, TooLong, ReadFault}

-- from the stream at the call to the line and the stream at the return: the first line, which is
-- short enough, and what follows it; or nothing was left; or the first line is too long; or a fault
-- came. But for a line the stream stays.
abbrev pub IsNext : NextLine → List ℕ → List ℕ → List ℕ → Type 0
IsNext Line stream line after =
    (stream ≢ []) × (line ≡ line_of stream) × (length line ≤ MOST_LINE_BYTES)
    × (after ≡ rest_of stream)
IsNext End stream line after = (stream ≡ []) × (after ≡ stream)
IsNext TooLong stream line after = (MOST_LINE_BYTES < length (line_of stream)) × (after ≡ stream)
IsNext ReadFault stream line after = after ≡ stream

-- the same of a stream, where the source tells it
abbrev pub IsNextOf : NextLine → Option (List ℕ) → List ℕ → Option (List ℕ) → Type 0
IsNextOf next None line after = after ≡ None
IsNextOf next (Some stream) line after =
    (left : List ℕ) × (after ≡ Some left) × IsNext next stream line left

-- whether a reader has ended, by what a call returned of the bytes at hand: the end, or a line that
-- no line feed ends
abbrev pub has_ended : NextLine → List ℕ → Bool
has_ended Line bytes = not (has_line_feed bytes)
has_ended End bytes = true
has_ended TooLong bytes = false
has_ended ReadFault bytes = false

-- the source gave some bytes, with those read ahead at the call no more than a longest line and
-- its line feed, and what was returned is so of these bytes, whether or not the source tells what
-- it has left; where a fault came, no line feed is among them; and they tell whether the reader has
-- ended
pub record Takes (next : NextLine) (before after : Option (List ℕ)) (old line new : List ℕ)
    (ended : Bool) : Type 0 where
  pub given : List ℕ
  pub gave : Gave before after given
  pub few : length old + length given ≤ MOST_LINE_BYTES + 1
  pub is_next : IsNext next (old ++ given) line new
  pub no_feed : next ≡ ReadFault → has_line_feed new ≡ false
  pub has_ended : ended ≡ has_ended next (old ++ given)
