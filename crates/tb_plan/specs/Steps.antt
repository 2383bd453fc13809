-- The number of a record's place, as a sum of one step for each variable.
use Rattle.std.specs.Prelude.{◌+◌, ◌*◌, ◌==◌, ℕ, Bool, false, cond}
use Rattle.std.specs.Prelude.{List, [], ◌∷◌, map, slice_index, slice_index_or}
use Rattle.std.specs.List.{sum_by, range_with_len}
use Rattle.tb_model.specs.RowMajor.{product}
use Rattle.tb_plan.specs.Plans.{DimensionValue, ConditionValue, PlanValue}
use Rattle.tb_plan.specs.Plans.{entry_count, place_count, vars_of}

-- what the dimensions over a variable add to a place's number for one of its categories
abbrev pub dimension_step : Bool → List DimensionValue → ℕ → ℕ → ℕ
dimension_step totals [] v c = 0
dimension_step totals (d ∷ ds) v c =
    cond (d.variable == v) (slice_index d.entries c * product (map (entry_count totals) ds)) 0
    + dimension_step totals ds v c

-- what the filters over it add: each that fails leads past all the places
abbrev pub filter_step : ℕ → List ConditionValue → ℕ → ℕ → ℕ
filter_step places [] v c = 0
filter_step places (f ∷ fs) v c =
    cond (f.variable == v) (cond (slice_index_or f.passed c false) 0 places) 0
    + filter_step places fs v c

-- both
abbrev pub step_at : PlanValue → ℕ → ℕ → ℕ
step_at plan v c =
    dimension_step plan.totals plan.dimensions v c
    + filter_step (place_count plan) plan.filters v c

-- a variable's steps, one for each of its categories
abbrev pub steps_of : PlanValue → ℕ → List ℕ
steps_of plan v = map (step_at plan v) (range_with_len 0 (slice_index plan.shape v))

-- the number to which the categories lead: that of their place without Total, or one past all
-- places where a filter fails
abbrev pub number_at : PlanValue → (ℕ → ℕ) → ℕ
number_at plan at = sum_by (λ v. step_at plan v (at v)) (vars_of plan)
