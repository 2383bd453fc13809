-- What a line of a script is by itself. A line is its bytes without its end.
use Rattle.std.specs.Prelude.{◌&&◌, ◌||◌, not, ℕ, Bool, false, List, [], ◌∷◌, length, drop}
use Rattle.std.specs.Prelude.{bytes_eq, codes, nat_le, nat_lt}
use Rattle.std.specs.Char.{is_ascii_alphabetic, is_ascii_alphanumeric}
use Rattle.std.specs.List.{before_first, list_all}
use Rattle.tb_base.specs.Bytes.{is_blank, begins_blank, after_blanks}
use Rattle.tb_io.specs.declared.limits.TheConstants.{MOST_LINE_BYTES}
use Rattle.tb_script.specs.declared.limits.TheConstants.{MOST_LANE_BYTES}
use Rattle.tb_lines.specs.Lines.{is_passed_over}

-- A line that is exactly `--` ends a phase.
abbrev pub is_phase_end : List ℕ → Bool
is_phase_end line = bytes_eq line (codes "--")

-- Every other line is a lane's.
abbrev pub is_lane_line : List ℕ → Bool
is_lane_line line = not (is_phase_end line || is_passed_over line)

-- the first word of a line: what stands before its first blank
abbrev pub first_word : List ℕ → List ℕ
first_word line = before_first is_blank line

-- what follows the first word
abbrev pub after_word : List ℕ → List ℕ
after_word line = drop (length (first_word line)) line

-- the name of the line's lane
abbrev pub lane_of : List ℕ → List ℕ
lane_of line = first_word line

-- the lane's line: what follows the blanks after the first word, to the end
abbrev pub line_of : List ℕ → List ℕ
line_of line = after_blanks (after_word line)

-- A lane's name is an ASCII letter and more letters and digits, and not too long.
abbrev pub is_lane_name : List ℕ → Bool
is_lane_name [] = false
is_lane_name (c ∷ name) =
    is_ascii_alphabetic c && nat_le (length (c ∷ name)) MOST_LANE_BYTES
    && list_all is_ascii_alphanumeric name

-- A lane's line is well formed where it doesn't begin with a blank, its first word is a lane's
-- name, and not only blanks follow that word.
abbrev pub is_well_formed : List ℕ → Bool
is_well_formed line =
    not (begins_blank line) && is_lane_name (first_word line)
    && not (list_all is_blank (after_word line))

-- the line has too many bytes
abbrev pub is_too_long : List ℕ → Bool
is_too_long line = nat_lt MOST_LINE_BYTES (length line)
