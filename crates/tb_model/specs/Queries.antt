-- A query and its filters.
use Rattle.std.specs.Prelude.{ℕ, ◌==◌, Bool, not, if◌then◌else◌, List}
use Rattle.std.specs.List.{list_any, list_all}
use Rattle.tb_model.specs.declared.names.NameOf.{NameOf}
use Rattle.tb_model.specs.declared.names.Filter.{Filter}
use Rattle.tb_model.specs.Schemas.{SchemaValue, category_of}

-- the dimensions of the table, the filters on its records, whether it has totals, and whether it
-- has labels in place of codes
pub record QueryValue : Type 0 where
  pub dimensions : List NameOf
  pub filters : List Filter
  pub totals : Bool
  pub labels : Bool

-- whether a filter is passed, where `at` gives each variable's category
abbrev pub passes : SchemaValue → Filter → (ℕ → ℕ) → Bool
passes schema filter at =
    let listed = list_any (λ code. code == category_of schema filter.of at) filter.codes in
    if filter.negated then not listed else listed

-- whether each of a query's filters is passed
abbrev pub passes_all : SchemaValue → QueryValue → (ℕ → ℕ) → Bool
passes_all schema query at = list_all (λ filter. passes schema filter at) query.filters
