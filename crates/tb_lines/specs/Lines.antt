-- What a line is by itself. A line is its bytes without its end.
use Rattle.std.specs.Prelude.{◌||◌, ◌==◌, ℕ, Bool, false, List, [], ◌∷◌}
use Rattle.std.specs.List.{list_all}
use Rattle.tb_base.specs.Bytes.{is_blank}

-- the first byte is `#`
abbrev pub is_comment : List ℕ → Bool
is_comment [] = false
is_comment (c ∷ line) = c == 35

-- A line of blanks alone, or whose first byte is `#`, is passed over.
abbrev pub is_passed_over : List ℕ → Bool
is_passed_over line = list_all is_blank line || is_comment line
