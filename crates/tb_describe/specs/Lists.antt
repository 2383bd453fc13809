-- The lists that tell what may be asked: the variables and recodes, and the categories of one.
use Rattle.std.specs.Prelude.{ℕ, List, [], ◌∷◌, ◌++◌, length, map, flat_map, codes, decimal}
use Rattle.std.specs.Prelude.{slice_index_or}
use Rattle.std.specs.List.{range_with_len}
use Rattle.csv.specs.Writing.{default_writer, row_text}
use Rattle.tb_model.specs.declared.names.NameOf.{NameOf}
use Rattle.tb_model.specs.declared.names.NameOf.TheVariants as name_of
use Rattle.tb_model.specs.Schemas.{SchemaValue, base_of, category_count, codes_of, labels_of}
use Rattle.tb_model.specs.Schemas.{name_text, recoded}
use Rattle.tb_model.specs.Texts.{line_text}

-- the name of the variable that a name stands for or recodes
abbrev pub base_name : SchemaValue → NameOf → NameOf
base_name schema of = name_of.Variable (base_of schema of)

-- a variable, or a recode of which
abbrev pub kind_text : SchemaValue → NameOf → List ℕ
kind_text schema (name_of.Variable v) = codes "variable"
kind_text schema (name_of.Recode r) =
    codes "recode of " ++ name_text schema (base_name schema (name_of.Recode r))

-- the record of a name: its kind, and how many categories or groups it has
abbrev pub name_record : SchemaValue → NameOf → List (List ℕ)
name_record schema of =
    name_text schema of ∷ kind_text schema of ∷ decimal (category_count schema of) ∷ []

-- those of the variables, and then of the recodes, in the schema's order
abbrev pub name_records : SchemaValue → List (List (List ℕ))
name_records schema =
    map (λ v. name_record schema (name_of.Variable v))
    (range_with_len 0 (length schema.variables))
    ++ map (λ r. name_record schema (name_of.Recode r)) (range_with_len 0 (length schema.recodes))

-- the record of a category of a variable: under the variable's name its code and its label; under
-- a recode's its group and its code
abbrev pub category_record : SchemaValue → NameOf → ℕ → List (List ℕ)
category_record schema (name_of.Variable v) k =
    slice_index_or (codes_of schema (name_of.Variable v)) k []
    ∷ slice_index_or (labels_of schema (name_of.Variable v)) k [] ∷ []
category_record schema (name_of.Recode r) k =
    let of = name_of.Recode r in
    slice_index_or (codes_of schema of) (recoded schema of k) []
    ∷ slice_index_or (codes_of schema (base_name schema of)) k [] ∷ []

-- what the two fields of such a record are
abbrev pub category_columns : NameOf → List (List ℕ)
category_columns (name_of.Variable v) = codes "code" ∷ codes "label" ∷ []
category_columns (name_of.Recode r) = codes "group" ∷ codes "code" ∷ []

-- records as `csv` writes them
abbrev pub records_text : List (List (List ℕ)) → List ℕ
records_text records = flat_map (row_text default_writer) records

-- a list: the line that asks for it, what the fields of its records are, the records, and `.`
abbrev pub list_text : List ℕ → List (List ℕ) → List (List (List ℕ)) → List ℕ
list_text line columns records =
    line_text line ++ records_text (columns ∷ records) ++ line_text (codes ".")

-- the list of all names
abbrev pub names_text : SchemaValue → List ℕ
names_text schema =
    list_text (codes "describe") (codes "name" ∷ codes "kind" ∷ codes "categories" ∷ [])
    (name_records schema)

-- the list under one name: each category of its variable, in the variable's order
abbrev pub categories_text : SchemaValue → NameOf → List ℕ
categories_text schema of =
    list_text (codes "describe " ++ name_text schema of) (category_columns of)
    (map (category_record schema of)
    (range_with_len 0 (category_count schema (base_name schema of))))
