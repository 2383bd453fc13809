-- Which edits are possible, and why one isn't.
use Rattle.std.specs.Prelude.{◌≡◌, ◌<◌, ◌≤◌, ℕ, ◌+◌, ◌==◌, ◌||◌, nat_le, nat_lt, Bool, true, false}
use Rattle.std.specs.Prelude.{not}
use Rattle.std.specs.Prelude.{if◌then◌else◌, List, [], ◌∷◌, length, Option, Some, None}
use Rattle.std.specs.Option.{option_map_or}
use Rattle.std.specs.FinMap as finmap
use Rattle.tb_base.specs.Persons.{has_person}
use Rattle.tb_model.specs.Releases.{KeyBook, ReleaseValue}
use Rattle.tb_release.specs.declared.edits.Edit.{Edit}
use Rattle.tb_release.specs.declared.edits.Edit.TheVariants.{Add, Drop, Amend, Pvalue}
use Rattle.tb_release.specs.declared.edits.Edit.TheVariants.{Oldest, Threshold}
use Rattle.tb_release.specs.declared.fault.EditFaultKind.{EditFaultKind}
use Rattle.tb_release.specs.declared.fault.EditFaultKind.TheVariants as kind
use Rattle.tb_release.specs.Edits.{edited}

-- whether a key book has another key for a person
abbrev pub has_other_key : KeyBook → ℕ → ℕ → Bool
has_other_key book person key =
    option_map_or (λ old. not (old == key)) (finmap.get book person) false

-- an add is possible where the person has no record, the key book has no other key for the person,
-- and there are fewer records than there may be
pub record CanAdd (release : ReleaseValue) (person key : ℕ) : Type 0 where
  pub new : has_person release.records person ≡ false
  pub same_key : has_other_key release.key_book person key ≡ false
  pub room : length release.records < release.most

-- releases may be taken back before this one where none of those is shown again, and it is no later
-- than the next
pub record CanTakeBack (release : ReleaseValue) (oldest : ℕ) : Type 0 where
  pub low : release.rules.oldest ≤ oldest
  pub high : oldest ≤ release.number + 1

-- an edit is possible: a drop or an amend where the person has a record, releases are taken back as
-- they may be, and a pvalue and a threshold are set always
abbrev pub IsPossible : ReleaseValue → Edit → Type 0
IsPossible release (Add person key codes) = CanAdd release person key
IsPossible release (Drop person) = has_person release.records person ≡ true
IsPossible release (Amend person sets) = has_person release.records person ≡ true
IsPossible release (Pvalue row key pvalue) = Unit {0}
IsPossible release (Threshold value) = Unit {0}
IsPossible release (Oldest oldest) = CanTakeBack release oldest

-- each edit is possible on the release that those before it left
abbrev pub ArePossible : ReleaseValue → List Edit → Type 0
ArePossible release [] = Unit {0}
ArePossible release (edit ∷ edits) =
    IsPossible release edit × ArePossible (edited release edit) edits

-- why an edit isn't possible, if it isn't
abbrev pub refusal : ReleaseValue → Edit → Option EditFaultKind
refusal release (Add person key codes) =
    if has_person release.records person then Some kind.PersonThere
    else if has_other_key release.key_book person key then Some kind.KeyChanged
    else if nat_le release.most (length release.records) then Some kind.TooMany
    else None
refusal release (Drop person) =
    if has_person release.records person then None else Some kind.NoSuchPerson
refusal release (Amend person sets) =
    if has_person release.records person then None else Some kind.NoSuchPerson
refusal release (Pvalue row key pvalue) = None
refusal release (Threshold value) = None
refusal release (Oldest oldest) =
    if nat_lt oldest release.rules.oldest || nat_lt (release.number + 1) oldest
    then Some kind.BadRelease
    else None

-- why the first edit that isn't possible isn't, with its number, where the first of all has this
-- number
abbrev pub first_refusal : ℕ → ReleaseValue → List Edit → Option (EditFaultKind × ℕ)
first_refusal number release [] = None
first_refusal number release (edit ∷ edits) =
    option_map_or (λ why. Some (why, number)) (refusal release edit)
    (first_refusal (number + 1) (edited release edit) edits)
