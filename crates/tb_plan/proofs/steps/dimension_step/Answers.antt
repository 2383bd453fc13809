use Rattle.std.proofs.Common.{sym, ◌∙◌, arith}
use Rattle.tb_plan.proofs.Parts.{sizes-some, step-here, step-past, dimension-step-le}
use Rattle.tb_plan.proofs.steps.dimension_step.Goals as goal
use Rattle.tb_plan.proofs.steps.dimension_step.Goals.{then-variable-v, else-variable-v}

pub places_from-requires-clause-some : goal.places_from-requires-clause-some
places_from-requires-clause-some c = rw c.requires.sizes (sizes-some c.args.axes.now.totals c.args.axes.now.shape c.args.axes.now.dimensions c.dims-d-end.ensures.plan.dimensions)

pub overflow_add-step : goal.overflow_add-step
overflow_add-step c =
    let more = step-here c.args.axes.now c.args.sizes.now c.loop-d.d c.args.v c.args.c c.entry.result c.places_from.result (omega arith) c.requires.sizes (sym c.variable.ensures ∙ c.if-variable-v.true) c.entry.ensures.entry c.places_from.ensures.places in
    let all = dimension-step-le c.args.axes.now.totals c.args.axes.now.shape c.args.axes.now.dimensions c.args.v c.args.c c.dims-d-end.ensures.plan.dimensions c.requires.category in
    omega (arith, more, all, c.dims-d-end.ensures.plan.few_places)

pub loop-d-preserved : goal.loop-d-preserved
loop-d-preserved c = elim c.if-variable-v.branch [
  | then-variable-v w ↦
      let more = step-here c.args.axes.now c.args.sizes.now c.loop-d.d c.args.v c.args.c w.entry.result w.places_from.result (omega arith) c.requires.sizes (sym c.variable.ensures ∙ w.if-variable-v.true) w.entry.ensures.entry w.places_from.ensures.places in
      let step = w.step-is in
      omega (arith, more, step)
  | else-variable-v w ↦
      let more = step-past c.args.axes.now c.loop-d.d c.args.v c.args.c (omega arith) (λ e. w.if-variable-v.false (c.variable.ensures ∙ e)) in
      let step = w.step-is in
      omega (arith, more, step)
]

pub returns-clause-few : goal.returns-clause-few
returns-clause-few c =
    let all = dimension-step-le c.args.axes.now.totals c.args.axes.now.shape c.args.axes.now.dimensions c.args.v c.args.c c.dims-d-end.ensures.plan.dimensions c.requires.category in
    omega (arith, all, c.dims-d-end.ensures.plan.few_places)
