-- A plan's parts as the definitions see them.
use Rattle.std.specs.Prelude.{◌≡◌, ◌<◌, ℕ, Bool, true, List, [], map, length, slice_index_or}
use Rattle.std.specs.Prelude.{Option}
use Rattle.std.specs.declared.vec.Vec.{Vec}
use Rattle.tb_grid.specs.Totals.{AreSome}
use Rattle.tb_plan.specs.declared.dimension.Dimension.{Dimension}
use Rattle.tb_plan.specs.declared.condition.Condition.{Condition}
use Rattle.tb_plan.specs.Plans.{DimensionValue, ConditionValue, PlanValue}
use Rattle.tb_plan.specs.Plans.{sizes, uses, vars_of, cube_cells_of}
use Rattle.tb_plan.specs.Whole.{IsPlan}
use Rattle.tb_plan.specs.Steps.{steps_of}

abbrev pub dimension_view : Dimension → DimensionValue
dimension_view d =
    record { variable = d.variable; categories = d.categories; entries = d.entries.items }

abbrev pub condition_view : Condition → ConditionValue
condition_view f = record { variable = f.variable; passed = f.passed.items }

abbrev pub plan_view : List ℕ → List Dimension → List Condition → Bool → PlanValue
plan_view shape dimensions filters totals =
    record {
      shape = shape;
      dimensions = map dimension_view dimensions;
      filters = map condition_view filters;
      totals = totals;
    }

abbrev pub items_of : {A : Type 0} → Vec ℕ A → List ℕ
items_of v = v.items

-- a list of steps at the number of each variable that is used
abbrev pub AreSteps : PlanValue → ℕ → List (List ℕ) → Type 0
AreSteps plan n all =
    (length all ≡ n)
    × ((v : ℕ) → v < n → uses plan v ≡ true → slice_index_or all v [] ≡ steps_of plan v)

-- what a plan keeps beside its axes
pub record IsWorkedOut (plan : PlanValue) (sizes' vars : List ℕ) (steps : List (List ℕ))
    (cube : Option ℕ) : Type 0 where
  pub plan_is : IsPlan plan
  pub sizes_are : sizes' ≡ sizes plan
  pub some : AreSome sizes'
  pub vars_are : vars ≡ vars_of plan
  pub steps_are : AreSteps plan (length plan.shape) steps
  pub cube_is : cube ≡ cube_cells_of plan
