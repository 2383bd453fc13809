-- Which edits have a payload, and which can be written.
use Rattle.std.specs.Prelude.{◌≡◌, ◌≤◌, ◌<◌, ◌^◌, ℕ, List, length, map, nat_eq, All}
use Rattle.std.specs.Prelude.{FitsSigned, Result, Ok, Err}
use Rattle.std.specs.List.{IsDistinct}
use Rattle.std.specs.Int.{w16}
use Rattle.tb_release.specs.declared.edits.Edit.{Edit}
use Rattle.tb_release.specs.declared.edits.Edit.TheVariants.{Add, Drop, Amend, Pvalue}
use Rattle.tb_release.specs.declared.edits.Edit.TheVariants.{Oldest, Threshold}
use Rattle.tb_release.specs.declared.limits.TheConstants.{MOST_EDITS}
use Rattle.tb_spelling.specs.declared.limits.TheConstants.{MOST_PARTS}
use Rattle.tb_spelling.specs.declared.fault.PayloadFault.{PayloadFault}
use Rattle.tb_spelling.specs.declared.fault.PayloadFault.TheVariants.{Bad, Memory}
use Rattle.tb_spelling.specs.Spelling.{spelled}

-- the variables that are set
abbrev pub variables_set : List (ℕ × ℕ) → List ℕ
variables_set sets = map (λ s. s.0) sets

-- some variables are set, and none twice
pub record SetsEachOnce (sets : List (ℕ × ℕ)) : Type 0 where
  pub some : 0 < length sets
  pub once : IsDistinct nat_eq (variables_set sets)

-- a number fits two bytes, or four
abbrev pub InTwoBytes : ℕ → Type 0
InTwoBytes n = n < 2 ^ 16

abbrev pub InFourBytes : ℕ → Type 0
InFourBytes n = n < 2 ^ 32

-- a setting's variable and its category fit two bytes each
abbrev pub IsSetting : ℕ × ℕ → Type 0
IsSetting set = InTwoBytes set.0 × InTwoBytes set.1

-- each number of an edit fits its field, and an amend sets some variables and none twice
abbrev pub IsInFormat : Edit → Type 0
IsInFormat (Add person key codes) =
    InFourBytes person × InTwoBytes key × InTwoBytes (length codes) × All InTwoBytes codes
IsInFormat (Drop person) = InFourBytes person
IsInFormat (Amend person sets) =
    InFourBytes person × InTwoBytes (length sets) × All IsSetting sets × SetsEachOnce sets
IsInFormat (Pvalue row key pvalue) = InTwoBytes row × InTwoBytes key × FitsSigned w16 pvalue
IsInFormat (Threshold value) = InFourBytes value
IsInFormat (Oldest oldest) = InFourBytes oldest

-- the bytes are the payload of these edits: there are some, and not too many
pub record IsPayload (bytes : List ℕ) (edits : List Edit) : Type 0 where
  pub some : 0 < length edits
  pub few : length edits ≤ MOST_EDITS
  pub in_format : All IsInFormat edits
  pub is_spelled : bytes ≡ spelled edits

-- an edit isn't too long to be written, and an amend sets some variables and none twice
abbrev pub CanBeWritten : Edit → Type 0
CanBeWritten (Add person key codes) = length codes ≤ MOST_PARTS
CanBeWritten (Drop person) = Unit {0}
CanBeWritten (Amend person sets) = (length sets ≤ MOST_PARTS) × SetsEachOnce sets
CanBeWritten (Pvalue row key pvalue) = Unit {0}
CanBeWritten (Threshold value) = Unit {0}
CanBeWritten (Oldest oldest) = Unit {0}

-- there are some edits, and each can be written
pub record CanBeSpelled (edits : List Edit) : Type 0 where
  pub some : 0 < length edits
  pub each : All CanBeWritten edits

-- how bytes are read: edits come where the bytes are their payload, and `Bad` where they are that
-- of no edits; want of memory says nothing of them
abbrev pub IsRead : List ℕ → Result (List Edit) PayloadFault → Type 0
IsRead bytes (Ok edits) = IsPayload bytes edits
IsRead bytes (Err Bad) = (edits : List Edit) → ¬ IsPayload bytes edits
IsRead bytes (Err Memory) = Unit {0}
