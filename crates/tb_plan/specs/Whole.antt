-- What is true of each plan.
use Rattle.std.specs.Prelude.{◌≡◌, ◌<◌, ◌≤◌, ℕ, List, length, slice_index}
use Rattle.std.specs.List.{AllByRecursion}
use Rattle.tb_schema.specs.declared.limits.TheConstants.{MOST_VARIABLES}
use Rattle.tb_query.specs.declared.limits.TheConstants.{MOST_DIMENSIONS, MOST_FILTERS}
use Rattle.tb_query.specs.declared.limits.TheConstants.{MOST_PLACES}
use Rattle.tb_plan.specs.Plans.{DimensionValue, ConditionValue, PlanValue, place_count}

-- a dimension has an entry, one of its own, for each category of its variable
pub record IsDimension (shape : List ℕ) (d : DimensionValue) : Type 0 where
  pub there : d.variable < length shape
  pub long : length d.entries ≡ slice_index shape d.variable
  pub within : (c : ℕ) → c < length d.entries → slice_index d.entries c < d.categories
  pub some : 0 < d.categories

-- a filter says of each category of its variable whether it passes
pub record IsCondition (shape : List ℕ) (f : ConditionValue) : Type 0 where
  pub there : f.variable < length shape
  pub long : length f.passed ≡ slice_index shape f.variable

-- each of the dimensions, and each of the filters, is as above
abbrev pub AreDimensions : List ℕ → List DimensionValue → Type 0
AreDimensions shape ds = AllByRecursion (IsDimension shape) ds

abbrev pub AreConditions : List ℕ → List ConditionValue → Type 0
AreConditions shape fs = AllByRecursion (IsCondition shape) fs

-- the dimensions and filters are as above, and they, the variables and the places are not too many
pub record IsPlan (plan : PlanValue) : Type 0 where
  pub dimensions : AreDimensions plan.shape plan.dimensions
  pub filters : AreConditions plan.shape plan.filters
  pub few_dimensions : length plan.dimensions ≤ MOST_DIMENSIONS
  pub few_filters : length plan.filters ≤ MOST_FILTERS
  pub few_places : place_count plan ≤ MOST_PLACES
  pub few_variables : length plan.shape ≤ MOST_VARIABLES
