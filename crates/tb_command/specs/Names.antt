-- The names of files among the arguments.
use Rattle.std.specs.Prelude.{ℕ, ◌==◌, Bool, false, not, List, [], ◌∷◌, get_or, Option, Some, None, bytes_eq, codes, if◌then◌else◌}

-- the argument at a place, and none where it isn't there: the command's name stands at 0
abbrev pub word_at : List (List ℕ) → ℕ → List ℕ
word_at words i = get_or words i []

-- whether an argument is a file's name: it isn't empty and doesn't begin with a minus sign
abbrev pub is_file_name : List ℕ → Bool
is_file_name [] = false
is_file_name (c ∷ name) = not (c == 45)

-- whether an argument is `-`, which stands for no file where there may be none
abbrev pub is_dash : List ℕ → Bool
is_dash word = bytes_eq word (codes "-")

-- the file that an argument names
abbrev pub file_named : List ℕ → Option (List ℕ)
file_named word = if is_file_name word then Some word else None

-- the same where there may be none, for which `-` stands
abbrev pub file_or_dash : List ℕ → Option (Option (List ℕ))
file_or_dash word =
    if is_dash word then Some None
    else if is_file_name word then Some (Some word) else None
