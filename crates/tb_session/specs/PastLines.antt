-- A line `at N QUERY`: the number that it names, and the query in it.
use Rattle.std.specs.Prelude.{ℕ, List, [], ◌∷◌, drop, bytes_eq, codes, if◌then◌else◌}
use Rattle.std.specs.Prelude.{Option, None}
use Rattle.std.specs.List.{position_or_len}
use Rattle.tb_base.specs.Bytes.{after_blanks, is_blank}
use Rattle.tb_base.specs.Numbers.{number_of}

-- the number that words name, where the first is `at` and the second is a number
abbrev pub past_number : List (List ℕ) → Option ℕ
past_number [] = None
past_number (word ∷ []) = None
past_number (word ∷ next ∷ words) =
    if bytes_eq word (codes "at") then number_of next else None

-- what follows the first word of a text
abbrev pub after_word : List ℕ → List ℕ
after_word text = drop (position_or_len is_blank (after_blanks text)) (after_blanks text)

-- the query in a line `at N QUERY`: what follows the number's last digit
abbrev pub past_query : List ℕ → List ℕ
past_query line = after_word (after_word line)
