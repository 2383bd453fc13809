use Rattle.std.proofs.Common.{get_or, ap, ◌∙◌, arith}
use Rattle.tb_scan.proofs.Used.{has-step}
use Rattle.tb_scan.proofs.put.step_of.Goals as goal

pub at-requires : goal.at-requires
at-requires c = (has-step c.args.plan.now c.args.steps.now c.args.v c.args.one.now c.requires.steps c.requires.there c.requires.fits).there

pub bounds-steps-at : goal.bounds-steps-at
bounds-steps-at c = omega (arith, (has-step c.args.plan.now c.args.steps.now c.args.v c.args.one.now c.requires.steps c.requires.there c.requires.fits).known, c.at.ensures)

pub returns-clause-step : goal.returns-clause-step
returns-clause-step c =
    ap (λ k. get_or c.args.steps.now k 0) c.at.ensures
    ∙ (has-step c.args.plan.now c.args.steps.now c.args.v c.args.one.now c.requires.steps c.requires.there c.requires.fits).step
