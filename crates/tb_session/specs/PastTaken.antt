-- What was taken for a line `at N QUERY`, and the chain that was handed out after it.
use Rattle.std.specs.Prelude.{◌≡◌, ◌≢◌, ◌≤◌, List, None, length}
use Rattle.std.specs.Arc.{arc_value}
use Rattle.tb_board.specs.Holders.{HolderValue}
use Rattle.tb_core.specs.Takes.{IsTaken, number_of, release_in}
use Rattle.tb_core.specs.declared.desk.Taken.{Taken}
use Rattle.tb_model.specs.Releases.{ReleaseValue}
use Rattle.tb_plan.specs.Plans.{PlanValue, cube_cells_of, vars_of}
use Rattle.tb_release.specs.Batches.{BatchValue}
use Rattle.tb_release.specs.Revised.{IsRevised, release_at}
use Rattle.tb_session.specs.declared.count_past.Past.{Past}

-- what was taken is of a chain, for a plan: a release of the chain, and for a plan whose cube isn't
-- too large perhaps a cube that leads there
pub record IsTakenFor (plan : PlanValue) (base : ReleaseValue) (chain : List BatchValue)
    (taken : Taken) : Type 0 where
  pub revised : IsRevised plan.shape base chain
  pub there : number_of taken ≤ length chain
  pub release : release_in taken ≡ release_at base chain (number_of taken)
  pub by_cube : cube_cells_of plan ≢ None → IsTaken plan.shape base chain (vars_of plan) taken

-- the release 0 and the batches that were handed out
abbrev pub base_in : Past → ReleaseValue
base_in past = arc_value past.chain.base

abbrev pub chain_in : Past → List BatchValue
chain_in past = past.chain.batches

-- what was taken for a plan is of the chain that was handed out
abbrev pub IsPast : PlanValue → Past → Type 0
IsPast plan past = IsTakenFor plan (base_in past) (chain_in past) past.taken

-- and that is all that was seen
pub record IsPastOf (plan : PlanValue) (seen : HolderValue) (past : Past) : Type 0 where
  pub taken : IsPast plan past
  pub base : base_in past ≡ seen.start.base
  pub batches : chain_in past ≡ seen.list
