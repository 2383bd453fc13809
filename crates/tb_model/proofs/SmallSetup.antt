-- A small setup with worked tables.
use Rattle.std.specs.Prelude.{ℕ, ℤ, pos, negsuc, List, [], ◌∷◌, codes, false, true, None}
use Rattle.tb_base.specs.declared.keys.Keys.TheVariants.{K256, K4096}
use Rattle.tb_base.specs.declared.records.Record.{Record}
use Rattle.tb_model.specs.declared.names.NameOf.{NameOf}
use Rattle.tb_model.specs.declared.names.NameOf.TheVariants as name_of
use Rattle.tb_model.specs.Schemas.{SchemaValue, CategoryValue}
use Rattle.tb_model.specs.declared.names.PerturbationLine.{PerturbationLine}
use Rattle.tb_model.specs.Queries.{QueryValue}
use Rattle.tb_model.specs.Setups.{SetupValue}

abbrev pub category : List ℕ → List ℕ → CategoryValue
category code label = record { code = code; label = label }

abbrev pub line : ℕ → ℕ → ℤ → PerturbationLine
line pcv ckey pvalue = record { pcv = pcv; ckey = ckey; pvalue = pvalue }

abbrev pub person : ℕ → ℕ → List ℕ → Record
person number key codes' = record { person = number; key = key; codes = codes' }

abbrev pub schema : SchemaValue
schema = record {
  keys = K256;
  persons = 1000000;
  variables =
      record { name = codes "SEX"; categories = category (codes "1") (codes "Male") ∷ category (codes "2") (codes "Female") ∷ [] }
      ∷ record { name = codes "AGE"; categories = category (codes "0-15") (codes "Under 16") ∷ category (codes "16-64") (codes "Working age") ∷ category (codes "65+") (codes "65 and over") ∷ [] }
      ∷ record { name = codes "AREA"; categories = category (codes "E1") (codes "North, rural") ∷ category (codes "E2") (codes "South") ∷ [] }
      ∷ [];
  recodes = record { name = codes "AGE2"; variable = 1; groups = codes "young" ∷ codes "old" ∷ []; group_of = 0 ∷ 1 ∷ 1 ∷ [] } ∷ [];
}

abbrev pub lines : List PerturbationLine
lines = line 3 64 (negsuc 1) ∷ line 1 7 (pos 1) ∷ line 4 71 (pos 2) ∷ line 3 127 (pos 3) ∷ line 2 27 (negsuc 0) ∷ []

abbrev pub records : List Record
records =
    person 101 200 (0 ∷ 0 ∷ 0 ∷ [])
    ∷ person 102 100 (0 ∷ 1 ∷ 0 ∷ [])
    ∷ person 103 20 (0 ∷ 2 ∷ 1 ∷ [])
    ∷ person 104 7 (1 ∷ 1 ∷ 1 ∷ [])
    ∷ []

-- the setup with these lines of the perturbation table
abbrev pub setup : List PerturbationLine → SetupValue
setup listed = record { schema = schema; lines = listed; units = None }

-- the same with the key range 4096
abbrev pub wide_setup : List PerturbationLine → SetupValue
wide_setup listed = record (setup listed) { schema = record schema { keys = K4096 } }

abbrev pub sex : NameOf
sex = name_of.Variable 0

abbrev pub age : NameOf
age = name_of.Variable 1

abbrev pub area : NameOf
area = name_of.Variable 2

abbrev pub age2 : NameOf
age2 = name_of.Recode 0

-- table OF, and with totals
abbrev pub table : List NameOf → QueryValue
table of = record { dimensions = of; filters = []; totals = false; labels = false }

abbrev pub with_totals : QueryValue → QueryValue
with_totals query = record query { totals = true }

abbrev pub with_labels : QueryValue → QueryValue
with_labels query = record query { labels = true }

abbrev pub where_in : QueryValue → NameOf → List ℕ → QueryValue
where_in query of categories = record query { filters = record { of = of; negated = false; codes = categories } ∷ [] }

abbrev pub where_not_in : QueryValue → NameOf → List ℕ → QueryValue
where_not_in query of categories = record query { filters = record { of = of; negated = true; codes = categories } ∷ [] }
