-- What a query asks of a record, worked out once for each category.
use Rattle.std.specs.Prelude.{◌+◌, ◌==◌, ◌||◌, ℕ, Bool, cond, nat_le}
use Rattle.std.specs.Prelude.{List, [], length, map, filter, slice_index, slice_index_or}
use Rattle.std.specs.Prelude.{Option, Some, None, if◌then◌else◌}
use Rattle.std.specs.List.{list_any, range_with_len}
use Rattle.tb_model.specs.declared.names.NameOf.{NameOf}
use Rattle.tb_model.specs.declared.names.Filter.{Filter}
use Rattle.tb_model.specs.Schemas.{SchemaValue, base_of, category_count, recoded, shape_of}
use Rattle.tb_model.specs.Queries.{QueryValue, passes}
use Rattle.tb_model.specs.RowMajor.{product}
use Rattle.tb_grid.specs.declared.products.TheConstants.{MOST_CELLS}

-- a dimension: the variable under it, how many categories it has, and which of them each category
-- of the variable falls in
pub record DimensionValue : Type 0 where
  pub variable : ℕ
  pub categories : ℕ
  pub entries : List ℕ

-- a filter: the variable under it, and whether each category of the variable passes
pub record ConditionValue : Type 0 where
  pub variable : ℕ
  pub passed : List Bool

-- a plan: how many categories each variable has, the dimensions and the filters, and whether there
-- are totals
pub record PlanValue : Type 0 where
  pub shape : List ℕ
  pub dimensions : List DimensionValue
  pub filters : List ConditionValue
  pub totals : Bool

-- the dimension of a name: each category of its variable falls in the category under the name
abbrev pub dimension_of : SchemaValue → NameOf → DimensionValue
dimension_of schema of =
    record {
      variable = base_of schema of;
      categories = category_count schema of;
      entries = map (recoded schema of)
          (range_with_len 0 (slice_index (shape_of schema) (base_of schema of)));
    }

-- what a filter says of each category of its variable
abbrev pub condition_of : SchemaValue → Filter → ConditionValue
condition_of schema filter =
    record {
      variable = base_of schema filter.of;
      passed = map (λ c. passes schema filter (λ _. c))
          (range_with_len 0 (slice_index (shape_of schema) (base_of schema filter.of)));
    }

-- the plan of a query over a schema
abbrev pub plan_of : SchemaValue → QueryValue → PlanValue
plan_of schema query =
    record {
      shape = shape_of schema;
      dimensions = map (dimension_of schema) query.dimensions;
      filters = map (condition_of schema) query.filters;
      totals = query.totals;
    }

-- the dimension at a number, and the filter
abbrev pub dimension_at : PlanValue → ℕ → DimensionValue
dimension_at plan d =
    slice_index_or plan.dimensions d (record { variable = 0; categories = 0; entries = [] })

abbrev pub condition_at : PlanValue → ℕ → ConditionValue
condition_at plan f = slice_index_or plan.filters f (record { variable = 0; passed = [] })

-- how many entries a dimension has, Total counted
abbrev pub entry_count : Bool → DimensionValue → ℕ
entry_count totals d = d.categories + cond totals 1 0

-- how many entries each dimension has
abbrev pub sizes : PlanValue → List ℕ
sizes plan = map (entry_count plan.totals) plan.dimensions

-- how many places there are
abbrev pub place_count : PlanValue → ℕ
place_count plan = product (sizes plan)

-- whether a variable is under a dimension or a filter
abbrev pub uses : PlanValue → ℕ → Bool
uses plan v =
    list_any (λ d. d.variable == v) plan.dimensions || list_any (λ f. f.variable == v) plan.filters

-- those variables, in ascending order
abbrev pub vars_of : PlanValue → List ℕ
vars_of plan = filter (uses plan) (range_with_len 0 (length plan.shape))

-- a number, and none where it is above the most
abbrev pub up_to : ℕ → ℕ → Option ℕ
up_to most n = if nat_le n most then Some n else None

-- how many cells the cube over the plan's variables has; none where it would be too large
abbrev pub cube_cells_of : PlanValue → Option ℕ
cube_cells_of plan = up_to MOST_CELLS (product (map (slice_index plan.shape) (vars_of plan)))
