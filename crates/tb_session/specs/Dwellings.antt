-- A line that asks for a table of dwellings, and the query as which it is read.
use Rattle.std.specs.Prelude.{ℕ, List, ◌++◌, ◌-◌, bytes_eq, codes, length, take, drop, if◌then◌else◌}
use Rattle.std.specs.Prelude.{Option, Some, None}
use Rattle.std.specs.List.{position_or_len}
use Rattle.tb_base.specs.Bytes.{after_blanks, is_blank}
use Rattle.tb_model.specs.Setups.{SetupValue}
use Rattle.tb_model.specs.Units.{UnitsValue}
use Rattle.tb_session.specs.PastLines.{after_word}

-- the first word of a line
abbrev pub first_of : List ℕ → List ℕ
first_of line = take (position_or_len is_blank (after_blanks line)) (after_blanks line)

-- the blanks in front of it
abbrev pub blanks_before : List ℕ → List ℕ
blanks_before line = take (length line - length (after_blanks line)) line

-- the dwellings of which a line asks for a table: those of the setup, where its first word is
-- `dwellings`
abbrev pub homes_asked : SetupValue → List ℕ → Option UnitsValue
homes_asked setup line =
    if bytes_eq (first_of line) (codes "dwellings") then setup.units else None

-- a line with `table` in place of its first word
abbrev pub as_table : List ℕ → List ℕ
as_table line = blanks_before line ++ codes "table" ++ after_word line

-- the query as which a line is read that asks for a table of these dwellings, or of persons
abbrev pub read_as : Option UnitsValue → List ℕ → List ℕ
read_as None line = line
read_as (Some units) line = as_table line
