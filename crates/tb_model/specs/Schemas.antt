-- A classification: its key range, the variables with their categories, and the recodes that group
-- the categories of a variable.
use Rattle.std.specs.Prelude.{ℕ, List, [], length, map, slice_index, slice_index_or}
use Rattle.tb_base.specs.declared.keys.Keys.{Keys}
use Rattle.tb_model.specs.declared.names.NameOf.{NameOf}
use Rattle.tb_model.specs.declared.names.NameOf.TheVariants as name_of

-- a category of a variable
pub record CategoryValue : Type 0 where
  pub code : List ℕ
  pub label : List ℕ

-- a variable with its categories in order; category numbers are places in this list
pub record VariableValue : Type 0 where
  pub name : List ℕ
  pub categories : List CategoryValue

-- a recode of a variable: its groups' codes in order, and for each category of the variable the
-- number of its group
pub record RecodeValue : Type 0 where
  pub name : List ℕ
  pub variable : ℕ
  pub groups : List (List ℕ)
  pub group_of : List ℕ

-- the key range, how many persons there may be at most, and the variables and the recodes, each in
-- the order of first appearance in its file
pub record SchemaValue : Type 0 where
  pub keys : Keys
  pub persons : ℕ
  pub variables : List VariableValue
  pub recodes : List RecodeValue

-- the variable of a number
abbrev pub variable_at : SchemaValue → ℕ → VariableValue
variable_at schema v = slice_index_or schema.variables v (record { name = []; categories = [] })

-- the recode of a number
abbrev pub recode_at : SchemaValue → ℕ → RecodeValue
recode_at schema r =
    slice_index_or schema.recodes r
    (record { name = []; variable = 0; groups = []; group_of = [] })

-- the text of a name
abbrev pub name_text : SchemaValue → NameOf → List ℕ
name_text schema (name_of.Variable v) = (variable_at schema v).name
name_text schema (name_of.Recode r) = (recode_at schema r).name

-- the variable that a name stands for or recodes
abbrev pub base_of : SchemaValue → NameOf → ℕ
base_of schema (name_of.Variable v) = v
base_of schema (name_of.Recode r) = (recode_at schema r).variable

-- the category under a name, where its variable has this one: for a recode the category's group
abbrev pub recoded : SchemaValue → NameOf → ℕ → ℕ
recoded schema (name_of.Variable v) category = category
recoded schema (name_of.Recode r) category = slice_index (recode_at schema r).group_of category

-- the category under a name, where `at` gives each variable's category
abbrev pub category_of : SchemaValue → NameOf → (ℕ → ℕ) → ℕ
category_of schema of at = recoded schema of (at (base_of schema of))

-- the codes of a name's categories, or of its groups
abbrev pub codes_of : SchemaValue → NameOf → List (List ℕ)
codes_of schema (name_of.Variable v) = map (λ c. c.code) (variable_at schema v).categories
codes_of schema (name_of.Recode r) = (recode_at schema r).groups

-- the same with a variable's labels in place of its codes
abbrev pub labels_of : SchemaValue → NameOf → List (List ℕ)
labels_of schema (name_of.Variable v) = map (λ c. c.label) (variable_at schema v).categories
labels_of schema (name_of.Recode r) = (recode_at schema r).groups

-- how many categories, or groups, a name has
abbrev pub category_count : SchemaValue → NameOf → ℕ
category_count schema of = length (codes_of schema of)

-- for each variable how many categories it has
abbrev pub shape_of : SchemaValue → List ℕ
shape_of schema = map (λ v. length v.categories) schema.variables
