-- The faults of an edit line, in their order, and what a line reads as.
use Rattle.std.specs.Prelude.{◌≡◌, ◌||◌, ℕ, Bool, false, not, if◌then◌else◌, List, [], ◌∷◌}
use Rattle.std.specs.Prelude.{Option, Some, None, is_none, nat_le}
use Rattle.std.specs.List.{list_any}
use Rattle.std.specs.Option.{is_some, option_or}
use Rattle.tb_base.specs.Numbers.{number_of, signed_of}
use Rattle.tb_base.specs.Rules.{can_be_set}
use Rattle.tb_base.specs.declared.keys.Keys.{Keys}
use Rattle.tb_base.specs.declared.limits.TheConstants.{MOST_THRESHOLD}
use Rattle.tb_model.specs.Schemas.{SchemaValue}
use Rattle.tb_records.specs.People.{key_of, person_of}
use Rattle.tb_release.specs.declared.edits.Edit.{Edit}
use Rattle.tb_revise.specs.declared.fault.EditTextFault.{EditTextFault}
use Rattle.tb_revise.specs.declared.fault.EditTextFault.TheVariants as faults
use Rattle.tb_revise.specs.Grammar.{NamedSetting, NamedEdit, NamedAdd, NamedDrop, NamedAmend}
use Rattle.tb_revise.specs.Grammar.{NamedOldest, NamedPvalue, NamedThreshold, Spells, settings_of}
use Rattle.tb_revise.specs.Meanings.{categories_named, category_named, category_set, edit_meant}
use Rattle.tb_revise.specs.Meanings.{key_meant, number_meant, sets_meant, signed_meant}
use Rattle.tb_revise.specs.Meanings.{variable_named}

-- whether a number is bad: a person is none from 1 on, a key is none below the key range, a row or
-- a pvalue is none, or no such pvalue may be set there, a threshold is none up to the greatest, or
-- a release is none
abbrev pub has_bad_number : Keys → NamedEdit → Bool
has_bad_number keys (NamedAdd person key settings) =
    is_none (person_of person) || is_none (key_of keys key)
has_bad_number keys (NamedDrop person) = is_none (person_of person)
has_bad_number keys (NamedAmend person settings) = is_none (person_of person)
has_bad_number keys (NamedPvalue row key pvalue) =
    is_none (number_of row) || is_none (key_of keys key) || is_none (signed_of pvalue)
    || not (can_be_set (number_meant row) (key_meant keys key) (signed_meant pvalue))
has_bad_number keys (NamedThreshold value) =
    is_none (number_of value) || not (nat_le (number_meant value) MOST_THRESHOLD)
has_bad_number keys (NamedOldest release) = is_none (number_of release)

-- whether a setting's name is no variable
abbrev pub has_unknown_name : SchemaValue → List NamedSetting → Bool
has_unknown_name schema settings = list_any (λ s. is_none (variable_named schema s)) settings

-- whether a setting's code is no code of its variable
abbrev pub has_unknown_code : SchemaValue → List NamedSetting → Bool
has_unknown_code schema settings = list_any (λ s. is_none (category_named schema s)) settings

-- whether a variable is set twice: once more by a later setting
abbrev pub sets_twice : List (ℕ × ℕ) → Bool
sets_twice [] = false
sets_twice (s ∷ sets) = is_some (category_set sets s.0) || sets_twice sets

-- whether an add doesn't set every variable
abbrev pub misses_variable : SchemaValue → NamedEdit → Bool
misses_variable schema (NamedAdd person key settings) =
    is_none (categories_named schema settings)
misses_variable schema (NamedDrop person) = false
misses_variable schema (NamedAmend person settings) = false
misses_variable schema (NamedPvalue row key pvalue) = false
misses_variable schema (NamedThreshold value) = false
misses_variable schema (NamedOldest release) = false

-- the first fault of settings by themselves
abbrev pub settings_refusal : SchemaValue → List NamedSetting → Option EditTextFault
settings_refusal schema settings =
    if has_unknown_name schema settings then Some faults.UnknownName
    else if has_unknown_code schema settings then Some faults.UnknownCode
    else if sets_twice (sets_meant schema settings) then Some faults.Repeated
    else None

-- the fault, where it is so
abbrev pub fault_if : Bool → EditTextFault → Option EditTextFault
fault_if so fault = if so then Some fault else None

-- the first fault of a line that spells this edit
abbrev pub refusal : SchemaValue → NamedEdit → Option EditTextFault
refusal schema edit =
    if has_bad_number schema.keys edit then Some faults.BadNumber
    else option_or (settings_refusal schema (settings_of edit))
    (fault_if (misses_variable schema edit) faults.Missing)

-- the line reads as the edit
pub record Reads (schema : SchemaValue) (line : List ℕ) (edit : Edit) : Type 0 where
  pub named : NamedEdit
  pub spelled : Spells line named
  pub no_fault : refusal schema named ≡ None
  pub means : edit_meant schema named ≡ edit

-- this is the line's first fault: it spells no edit, or it spells one that has this fault; want of
-- memory says nothing of the line
abbrev pub IsRefused : SchemaValue → List ℕ → EditTextFault → Type 0
IsRefused schema line faults.Syntax = (named : NamedEdit) → ¬ Spells line named
IsRefused schema line faults.Memory = Unit {0}
IsRefused schema line fault =
    (named : NamedEdit) × Spells line named × (refusal schema named ≡ Some fault)

-- this is the fault, unless memory ran out
abbrev pub RefusesBy : EditTextFault → Option EditTextFault → Type 0
RefusesBy faults.Memory fault = Unit {0}
RefusesBy by fault = fault ≡ Some by
