use Rattle.std.proofs.Common.{Vec, Global, ap, ◌∙◌, ℕ}
use Rattle.tb_plan.specs.Plans.{uses}
use Rattle.tb_plan.proofs.Sets.{filter-ascends}
use Rattle.tb_plan.proofs.Parts.{push-filter, skip-filter}
use Rattle.tb_plan.proofs.steps.vars.Goals as goal
use Rattle.tb_plan.proofs.steps.vars.Goals.{then-uses+in_ok-push, else-uses}

pub loop-v-preserved : goal.loop-v-preserved
loop-v-preserved c = elim c.if-uses.branch [
  | then-uses+in_ok-push w ↦
      ap (λ (x : Vec ℕ Global). x.items) w.numbers-is ∙ push-filter (uses c.args.axes.now) c.loop-v.v c.loop-v.numbers.items w.push.new.self.items c.loop-v.invariant w.if-uses.ensures w.in_ok-push.ensures.items
  | else-uses w ↦ ap (λ (x : Vec ℕ Global). x.items) w.numbers-is ∙ skip-filter (uses c.args.axes.now) c.loop-v.v c.loop-v.numbers.items c.loop-v.invariant w.if-uses.ensures
]

pub of-requires : goal.of-requires
of-requires c = rw (c.as_slice.ensures.value, c.loop-v.invariant) (filter-ascends (uses c.args.axes.now) 0 c.loop-v.v)
