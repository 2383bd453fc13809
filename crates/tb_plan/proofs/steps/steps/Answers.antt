use Rattle.std.proofs.Common.{◌+◌, refl}
use Rattle.tb_plan.specs.Steps.{step_at}
use Rattle.tb_plan.proofs.Parts.{push-range}
use Rattle.tb_plan.proofs.steps.steps.Goals as goal

pub loop-c-preserved : goal.loop-c-preserved
loop-c-preserved c =
    push-range (step_at c.args.axes.now c.args.v) c.loop-c.c c.loop-c.steps.items c.push.new.self.items (c.dimension_step.result + c.filter_step.result) c.loop-c.invariant (rw (c.dimension_step.ensures.step, c.filter_step.ensures.step, c.requires.places) refl) c.in_ok-push.ensures.items
