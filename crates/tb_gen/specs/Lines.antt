-- Lines of the generated files.
use Rattle.std.specs.Prelude.{ℕ, List, flat_map}
use Rattle.std.specs.List.{join_with_byte, range_with_len}
use Rattle.tb_model.specs.Texts.{line_text}

-- a line of fields, parted by commas
abbrev pub fields_line : List (List ℕ) → List ℕ
fields_line fields = line_text (join_with_byte 44 fields)

-- some lines for each of the numbers from 0 that are below a bound, in order
unfoldable pub each_below : ℕ → (ℕ → List ℕ) → List ℕ
each_below n lines = flat_map lines (range_with_len 0 n)
