-- The bytes of edits, as a payload of the journal has them. Numbers have their greatest byte first.
use Rattle.std.specs.Prelude.{ℕ, ℤ, List, ◌∷◌, ◌++◌, length}
use Rattle.std.specs.List.{flat_map}
use Rattle.std.specs.Int.{Width, w16, w32, cast_unsigned, to_be_bytes}
use Rattle.tb_release.specs.declared.edits.Edit.{Edit}
use Rattle.tb_release.specs.declared.edits.Edit.TheVariants.{Add, Drop, Amend, Pvalue}
use Rattle.tb_release.specs.declared.edits.Edit.TheVariants.{Oldest, Threshold}

-- how many there are, in a number of that width, and then each
abbrev pub counted : {A : Type 0} → Width → (A → List ℕ) → List A → List ℕ
counted w text list = to_be_bytes w (length list) ++ flat_map text list

-- a setting is its variable and its new category
abbrev pub setting : ℕ × ℕ → List ℕ
setting set = to_be_bytes w16 set.0 ++ to_be_bytes w16 set.1

-- a number with a sign is its two's complement
abbrev pub signed : ℤ → List ℕ
signed z = to_be_bytes w16 (cast_unsigned w16 z)

-- an edit is a byte for its kind, and then its fields
abbrev pub edit_spelled : Edit → List ℕ
edit_spelled (Add person key codes) =
    1 ∷ to_be_bytes w32 person ++ to_be_bytes w16 key ++ counted w16 (to_be_bytes w16) codes
edit_spelled (Drop person) = 2 ∷ to_be_bytes w32 person
edit_spelled (Amend person sets) = 3 ∷ to_be_bytes w32 person ++ counted w16 setting sets
edit_spelled (Pvalue row key pvalue) =
    4 ∷ to_be_bytes w16 row ++ to_be_bytes w16 key ++ signed pvalue
edit_spelled (Threshold value) = 5 ∷ to_be_bytes w32 value
edit_spelled (Oldest oldest) = 6 ∷ to_be_bytes w32 oldest

-- a payload is how many edits there are, and then each; nothing follows the last
abbrev pub spelled : List Edit → List ℕ
spelled edits = counted w32 edit_spelled edits
