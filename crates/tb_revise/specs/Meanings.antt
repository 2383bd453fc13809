-- What the words of an edit stand for over a schema.
use Rattle.std.specs.Prelude.{ℕ, ℤ, pos, ◌==◌, List, [], Option, find, length, map, unwrap_or}
use Rattle.std.specs.List.{range_with_len}
use Rattle.std.specs.Option.{option_map}
use Rattle.tb_base.specs.Lists.{all_some}
use Rattle.tb_base.specs.Numbers.{number_of, signed_of}
use Rattle.tb_base.specs.declared.keys.Keys.{Keys}
use Rattle.tb_model.specs.declared.names.NameOf.TheVariants as name_of
use Rattle.tb_model.specs.Schemas.{SchemaValue}
use Rattle.tb_records.specs.People.{key_of, person_of}
use Rattle.tb_release.specs.declared.edits.Edit.{Edit}
use Rattle.tb_release.specs.declared.edits.Edit.TheVariants.{Add, Drop, Amend, Pvalue}
use Rattle.tb_release.specs.declared.edits.Edit.TheVariants.{Oldest, Threshold}
use Rattle.tb_schema.specs.Names.{code_in, place_in, variable_names}
use Rattle.tb_revise.specs.Grammar.{NamedSetting, NamedEdit, NamedAdd, NamedDrop, NamedAmend}
use Rattle.tb_revise.specs.Grammar.{NamedOldest, NamedPvalue, NamedThreshold}

-- the variable that a setting names, if there is one
unfoldable pub variable_named : SchemaValue → NamedSetting → Option ℕ
variable_named schema s = place_in (variable_names schema.variables) s.name

-- the same, where there is one
abbrev pub variable_meant : SchemaValue → NamedSetting → ℕ
variable_meant schema s = unwrap_or (variable_named schema s) 0

-- the category of that variable whose code the setting gives, if there is one
unfoldable pub category_named : SchemaValue → NamedSetting → Option ℕ
category_named schema s = code_in schema (name_of.Variable (variable_meant schema s)) s.code

-- the variable and the category that a setting stands for, where both are there
abbrev pub set_meant : SchemaValue → NamedSetting → ℕ × ℕ
set_meant schema s = (variable_meant schema s, unwrap_or (category_named schema s) 0)

abbrev pub sets_meant : SchemaValue → List NamedSetting → List (ℕ × ℕ)
sets_meant schema settings = map (set_meant schema) settings

-- the category to which settings set a variable, if they set it
abbrev pub category_set : List (ℕ × ℕ) → ℕ → Option ℕ
category_set sets v = option_map (λ s. s.1) (find (λ s. s.0 == v) sets)

-- the categories to which settings set so many variables, if they set each
abbrev pub categories_set : List (ℕ × ℕ) → ℕ → Option (List ℕ)
categories_set sets count = all_some (map (category_set sets) (range_with_len 0 count))

-- the categories to which an add sets the variables, if it sets every one
abbrev pub categories_named : SchemaValue → List NamedSetting → Option (List ℕ)
categories_named schema settings =
    categories_set (sets_meant schema settings) (length schema.variables)

-- a person, and a key below a key range, where the words are such numbers
abbrev pub person_meant : List ℕ → ℕ
person_meant word = unwrap_or (person_of word) 0

abbrev pub key_meant : Keys → List ℕ → ℕ
key_meant keys word = unwrap_or (key_of keys word) 0

-- a number and a signed number, where the words are such numbers
abbrev pub number_meant : List ℕ → ℕ
number_meant word = unwrap_or (number_of word) 0

abbrev pub signed_meant : List ℕ → ℤ
signed_meant word = unwrap_or (signed_of word) (pos 0)

-- the edit that the words stand for, where they have no fault
abbrev pub edit_meant : SchemaValue → NamedEdit → Edit
edit_meant schema (NamedAdd person key settings) =
    Add (person_meant person) (key_meant schema.keys key)
    (unwrap_or (categories_named schema settings) [])
edit_meant schema (NamedDrop person) = Drop (person_meant person)
edit_meant schema (NamedAmend person settings) =
    Amend (person_meant person) (sets_meant schema settings)
edit_meant schema (NamedPvalue row key pvalue) =
    Pvalue (number_meant row) (key_meant schema.keys key) (signed_meant pvalue)
edit_meant schema (NamedThreshold value) = Threshold (number_meant value)
edit_meant schema (NamedOldest release) = Oldest (number_meant release)
