use Rattle.std.proofs.Common.{length, arith}
use Rattle.std.proofs.lemmas.Nat.{mul-le}
use Rattle.tb_plan.proofs.Parts.{filter-step-le}
use Rattle.tb_plan.proofs.steps.filter_step.Goals as goal

pub overflow_add-step : goal.overflow_add-step
overflow_add-step c =
    let all = filter-step-le c.args.places c.args.axes.now.filters c.args.v c.args.c in
    let few = mul-le (length c.args.axes.now.filters) c.args.places 16 1000000 (omega arith) (omega arith) in
    omega (arith, all, few)

pub returns-clause-few : goal.returns-clause-few
returns-clause-few c =
    let all = filter-step-le c.args.places c.args.axes.now.filters c.args.v c.args.c in
    let few = mul-le (length c.args.axes.now.filters) c.args.places 16 1000000 (omega arith) (omega arith) in
    omega (arith, all, few)
