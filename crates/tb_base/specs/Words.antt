-- The words of a line.
use Rattle.std.specs.Prelude.{ℕ, Bool, true, false, List, [], ◌∷◌, filter}
use Rattle.std.specs.List.{slice_split}
use Rattle.tb_base.specs.Bytes.{is_blank}

-- whether something stands between two blanks
abbrev pub is_word : List ℕ → Bool
is_word [] = false
is_word (b ∷ bs) = true

-- the words of a line: what blanks separate
unfoldable pub words_of : List ℕ → List (List ℕ)
words_of line = filter is_word (slice_split is_blank line)
