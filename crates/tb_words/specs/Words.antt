-- The words of a command, as they are handed to clap.
use Rattle.std.specs.Prelude.{◌≡◌, ◌⊎◌, ◌==◌, ℕ, Bool, true, false, not, List, [], ◌∷◌, length, map, codes, is_some, if◌then◌else◌}
use Rattle.std.specs.List.{list_all}
use Rattle.tb_command.specs.Commands.{command_of}
use Rattle.tb_command.specs.Forms.{FormValue, forms}
use Rattle.tb_command.specs.Names.{is_dash}
use Rattle.tb_command.specs.Positions.{gen_positions, positions_of}

-- the words are those of a command
abbrev pub IsCommand : List (List ℕ) → Type 0
IsCommand words = is_some (command_of words) ≡ true

-- a word as it is handed on: `-`, which clap would take for the beginning of an option, is `none`
abbrev pub handed : List ℕ → List ℕ
handed word = if is_dash word then codes "none" else word

abbrev pub handed_on : List (List ℕ) → List (List ℕ)
handed_on words = map handed words

-- a word that can't be taken for an option: it isn't empty and doesn't begin with a minus sign
abbrev pub is_plain : List ℕ → Bool
is_plain [] = false
is_plain (c ∷ word) = not (c == 45)

-- the words are a command's: its name, and so many plain words
abbrev pub AreOf : List ℕ → ℕ → List (List ℕ) → Type 0
AreOf name count words =
    (values : List (List ℕ)) × (words ≡ name ∷ values) × (length values ≡ count)
    × (list_all is_plain values ≡ true)

-- the words are those of one of these rows, or of `gen`
abbrev pub AreOfOne : List FormValue → List (List ℕ) → Type 0
AreOfOne [] words = AreOf (codes "gen") (length gen_positions) words
AreOfOne (f ∷ rows) words = AreOf f.name (length (positions_of f)) words ⊎ AreOfOne rows words

-- the words are those of one of the commands
abbrev pub AreCommand : List (List ℕ) → Type 0
AreCommand words = AreOfOne forms words
