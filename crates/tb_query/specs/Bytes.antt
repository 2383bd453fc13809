-- The bytes of a query line.
use Rattle.std.specs.Prelude.{ℕ, ◌+◌, ◌==◌, ◌||◌, not, Bool, List, Option, position}
use Rattle.std.specs.Option.{option_map}
use Rattle.std.specs.Char.{is_ascii_alphanumeric}
use Rattle.tb_base.specs.Bytes.{is_text_byte}

-- the number, from 1, of the first byte that is no text
abbrev pub first_not_text : List ℕ → Option ℕ
first_not_text line = option_map (λ i. i + 1) (position (λ b. not (is_text_byte b)) line)

-- an ASCII letter or digit, or `_`, `-`, `+` or `.`
unfoldable pub is_word_byte : ℕ → Bool
is_word_byte b = is_ascii_alphanumeric b || (b == 95) || (b == 45) || (b == 43) || (b == 46)
