-- The cells of a query's table as the program counts them.
use Rattle.std.specs.Prelude.{◌≡◌, ℕ}
use Rattle.std.specs.Arc.{arc_value}
use Rattle.tb_base.specs.Records.{AllFit}
use Rattle.tb_base.specs.Rules.{RulesValue}
use Rattle.tb_cube.specs.Cubes.{CubeValue, cube_over, unpacked}
use Rattle.tb_model.specs.Places.{cells_of}
use Rattle.tb_model.specs.Queries.{QueryValue}
use Rattle.tb_model.specs.Releases.{ReleaseValue}
use Rattle.tb_model.specs.Schemas.{SchemaValue}
use Rattle.tb_plan.specs.Plans.{PlanValue, plan_of, vars_of}
use Rattle.tb_release.specs.Releases.{IsSound}
use Rattle.tb_tables.specs.declared.count.Counted.{Counted}

-- a cube over the plan's variables is that of this sound release, whose number and rules stand
-- beside it
pub record IsPlansCube (plan : PlanValue) (release : ReleaseValue) (cube : CubeValue) (n : ℕ)
    (rules : RulesValue) : Type 0 where
  pub sound : IsSound release
  pub fit : AllFit plan.shape release.records
  pub counted : unpacked cube ≡ cube_over plan.shape (vars_of plan) release.records
  pub number : n ≡ release.number
  pub same_rules : rules ≡ release.rules

-- they are counted over this sound release, whose number and rules stand beside them: those of the
-- definitions, for any schema and query of which this is the plan
pub record IsCounted (plan : PlanValue) (release : ReleaseValue) (counted : Counted) : Type 0 where
  pub sound : IsSound release
  pub number : counted.number ≡ release.number
  pub rules : arc_value counted.rules ≡ release.rules
  pub cells : (schema : SchemaValue) (query : QueryValue) → plan ≡ plan_of schema query
      → counted.cells.items ≡ cells_of schema query release.records
