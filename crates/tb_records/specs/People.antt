-- What microdata says: its records, or its first fault.
use Rattle.std.specs.Prelude.{◌==◌, ℕ, List, [], ◌∷◌, ◌++◌, codes, drop, length, map, zip, Option, Some, None, Result, Ok, Err, nat_le, nat_lt, get_or, option_and_then, if◌then◌else◌}
use Rattle.tb_base.specs.Keys.{key_range}
use Rattle.tb_base.specs.Lists.{all_some}
use Rattle.tb_base.specs.Numbers.{number_of}
use Rattle.tb_base.specs.Persons.{has_person}
use Rattle.tb_base.specs.declared.keys.Keys.{Keys}
use Rattle.tb_base.specs.declared.records.Record.{Record}
use Rattle.tb_model.specs.Schemas.{SchemaValue, VariableValue}
use Rattle.tb_rows.specs.Formats.{Format, value_of}
use Rattle.tb_rows.specs.declared.fault.Fault.{Fault}
use Rattle.tb_schema.specs.Names.{place_in}
use Rattle.tb_records.specs.declared.fault.PeopleKind.{PeopleKind}
use Rattle.tb_records.specs.declared.fault.PeopleKind.TheVariants.{BadHeader, BadPerson, BadKey, UnknownCode, PersonTwice, BadCsv, TooMany}

-- a person is a number from 1 on
abbrev pub person_of : List ℕ → Option ℕ
person_of text = option_and_then (λ n. if n == 0 then None else Some n) (number_of text)

-- a record key is a number below the key range
abbrev pub key_of : Keys → List ℕ → Option ℕ
key_of keys text =
    option_and_then (λ n. if nat_lt n (key_range keys) then Some n else None) (number_of text)

-- the category of a variable whose code is this field, if there is one
abbrev pub category_under : VariableValue × List ℕ → Option ℕ
category_under d = place_in (map (λ c. c.code) d.0.categories) d.1

-- each variable's category, by its field, if each field is one of its variable's codes
abbrev pub categories_under : SchemaValue → List (List ℕ) → Option (List ℕ)
categories_under schema fields = all_some (map category_under (zip schema.variables fields))

-- the record with these parts, or the first fault: the part that is missing
abbrev pub record_of : Option ℕ → Option ℕ → Option (List ℕ) → Result Record PeopleKind
record_of (Some person) (Some key) (Some categories) =
    Ok (record { person = person; key = key; codes = categories })
record_of (Some person) (Some key) None = Err UnknownCode
record_of (Some person) None categories = Err BadKey
record_of None key categories = Err BadPerson

-- the record of a person, a key and a field for each variable, or the first fault that they have
-- by themselves
abbrev pub record_in : SchemaValue → List (List ℕ) → Result Record PeopleKind
record_in schema fields =
    record_of (person_of (get_or fields 0 [])) (key_of schema.keys (get_or fields 1 []))
    (categories_under schema (drop 2 fields))

-- the records with one more, or its fault beside those before it and the limit
abbrev pub and_record : ℕ → List Record → Record → Result (List Record) PeopleKind
and_record most people one =
    if has_person people one.person then Err PersonTwice
    else if nat_le most (length people) then Err TooMany
    else Ok (people ++ one ∷ [])

-- how microdata over a classification is read
abbrev pub people_file : SchemaValue → Format Record (List Record) (List Record) PeopleKind
people_file schema = record {
  columns = codes "person" ∷ codes "record_key" ∷ map (λ v. v.name) schema.variables;
  line_in = record_in schema;
  start = [];
  add = λ _ people one. and_record schema.persons people one;
  finish = λ people. Ok people;
  bad_header = BadHeader;
  bad_csv = BadCsv;
}

-- what a file says
abbrev pub people_of : SchemaValue → List ℕ → Result (List Record) (Fault PeopleKind)
people_of schema bytes = value_of (people_file schema) bytes
