use Rattle.std.proofs.Common.{length, arith}
use Rattle.tb_plan.specs.Plans.{uses}
use Rattle.tb_plan.proofs.Sets.{filter-few}
use Rattle.tb_plan.proofs.plan.Plan.vars.Goals as goal

pub returns-clause-few : goal.returns-clause-few
returns-clause-few c =
    let plan = c.self.inside.axes in
    rw c.self.invariant.vars_are (omega (arith, filter-few (uses plan) 0 (length plan.shape), c.self.invariant.plan_is.few_variables))
