-- How long spellings are.
use Rattle.std.proofs.Common.{◌≡◌, ◌*◌, ◌+◌, ℕ, List, [], ◌∷◌, length, arith}
use Rattle.std.specs.List.{flat_map}
use Rattle.std.specs.Int.{w16, to_be_bytes}
use Rattle.tb_release.specs.declared.edits.Edit.TheVariants.{Add, Amend}
use Rattle.tb_spelling.specs.Spelling.{setting, edit_spelled}

flat-codes : (xs : List ℕ) → length (flat_map (to_be_bytes w16) xs) ≡ 2 * length xs
flat-codes [] = omega arith
flat-codes (x ∷ xs) = omega (arith, flat-codes xs)

flat-sets : (xs : List (ℕ × ℕ)) → length (flat_map setting xs) ≡ 4 * length xs
flat-sets [] = omega arith
flat-sets (x ∷ xs) = omega (arith, flat-sets xs)

pub length-add : (person key : ℕ) (codes : List ℕ) → length (edit_spelled (Add person key codes)) ≡ 9 + 2 * length codes
length-add person key codes = omega (arith, flat-codes codes)

pub length-amend : (person : ℕ) (sets : List (ℕ × ℕ)) → length (edit_spelled (Amend person sets)) ≡ 7 + 4 * length sets
length-amend person sets = omega (arith, flat-sets sets)
