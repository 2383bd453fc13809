-- Bytes cut into lines.
use Rattle.std.specs.Prelude.{ℕ, ◌-◌, Bool, ◌==◌, if◌then◌else◌, List, [], ◌∷◌, length, take}
use Rattle.std.specs.Prelude.{slice_index}
use Rattle.std.specs.List.{list_any}

abbrev pub is_line_feed : ℕ → Bool
is_line_feed b = b == 10

-- whether a line feed is among the bytes
abbrev pub has_line_feed : List ℕ → Bool
has_line_feed bytes = list_any is_line_feed bytes

-- the first line: the bytes before the first line feed, or all where there is none
abbrev pub line_of : List ℕ → List ℕ
line_of [] = []
line_of (b ∷ bytes) = if is_line_feed b then [] else b ∷ line_of bytes

-- what follows the first line: the bytes after the first line feed
abbrev pub rest_of : List ℕ → List ℕ
rest_of [] = []
rest_of (b ∷ bytes) = if is_line_feed b then bytes else rest_of bytes

-- a line without one carriage return at its end
abbrev pub without_return : List ℕ → List ℕ
without_return line =
    if slice_index line (length line - 1) == 13 then take (length line - 1) line else line
