use Rattle.std.proofs.Common.{◌≡◌, ℕ, List, ◌+◌, ◌*◌, ◌%◌, ◌<◌, length, drop, ap, sym, subst, ◌∙◌, arith}
use Rattle.tb_base.specs.declared.cells.Cell.{Cell}
use Rattle.tb_base.specs.Parts.{part_at, modulus}
use Rattle.tb_plan.specs.Steps.{step_at}
use Rattle.tb_rollup.specs.Rolling.{spread, Stands}
use Rattle.tb_rollup.proofs.Added.{next-known, next-is}
use Rattle.tb_rollup.proofs.Descent.{all-down, descent, gone-down, left-out, low-category, room-for, stands-next, there-in}
use Rattle.tb_rollup.proofs.walk.roll_rows.Goals as goal
use Rattle.tb_rollup.proofs.walk.roll_rows.Goals.{then-to-cells, else-to-cells}

pub at-v-requires : goal.at-v-requires
at-v-requires c =
    let below : c.args.j < length c.args.cube.now.vars = omega (arith, c.requires.last.there, c.requires.depth) in
    rw c.vars.ensures.vars below

pub at-n-requires : goal.at-n-requires
at-n-requires c =
    let below : c.args.j < length c.args.cube.now.vars = omega (arith, c.requires.last.there, c.requires.depth) in
    rw c.shape.ensures (there-in c.args.cube.now c.vars.result.now c.args.j c.at-v.result c.vars.ensures.cube.there c.vars.ensures.vars
    c.at-v.ensures below)

pub steps_if_used-steps-requires : goal.steps_if_used-steps-requires
steps_if_used-steps-requires c =
    let below : c.args.j < length c.args.cube.now.vars = omega (arith, c.requires.last.there, c.requires.depth) in
    rw (← c.requires.stands.shape) (there-in c.args.cube.now c.vars.result.now c.args.j c.at-v.result c.vars.ensures.cube.there
    c.vars.ensures.vars c.at-v.ensures below)

pub next-to-requires-clause-category : goal.next-to-requires-clause-category
next-to-requires-clause-category c =
    let below : c.args.j < length c.args.cube.now.vars = omega (arith, c.requires.last.there, c.requires.depth) in
    let d = descent c.args.cube.now c.args.plan.now (length c.args.cells.now) c.args.j c.args.k c.args.base c.at-v.result c.at-n.result
    c.vars.result.now c.shape.result.now below c.requires.stands c.vars.ensures.vars c.shape.ensures c.at-v.ensures c.at-n.ensures in
    next-known _ c.args.plan.now c.at-v.result c.loop-c.c _
    (low-category c.args.cube.now c.args.plan.now (length c.args.cells.now) c.args.j c.args.k c.args.base c.at-v.result c.at-n.result d
    c.loop-c.c c.loop-c-test.true) c.steps_if_used-steps.ensures

pub overflow_mul-k : goal.overflow_mul-k
overflow_mul-k c =
    let below : c.args.j < length c.args.cube.now.vars = omega (arith, c.requires.last.there, c.requires.depth) in
    let d = descent c.args.cube.now c.args.plan.now (length c.args.cells.now) c.args.j c.args.k c.args.base c.at-v.result c.at-n.result
    c.vars.result.now c.shape.result.now below c.requires.stands c.vars.ensures.vars c.shape.ensures c.at-v.ensures c.at-n.ensures in
    omega (
      arith,
      room-for c.args.cube.now c.args.plan.now (length c.args.cells.now) c.args.j c.args.k c.args.base c.at-v.result
          c.at-n.result d c.loop-c.c c.loop-c-test.true,
    )

pub overflow_add-k : goal.overflow_add-k
overflow_add-k c =
    let below : c.args.j < length c.args.cube.now.vars = omega (arith, c.requires.last.there, c.requires.depth) in
    let d = descent c.args.cube.now c.args.plan.now (length c.args.cells.now) c.args.j c.args.k c.args.base c.at-v.result c.at-n.result
    c.vars.result.now c.shape.result.now below c.requires.stands c.vars.ensures.vars c.shape.ensures c.at-v.ensures c.at-n.ensures in
    omega (
      arith,
      room-for c.args.cube.now c.args.plan.now (length c.args.cells.now) c.args.j c.args.k c.args.base c.at-v.result
          c.at-n.result d c.loop-c.c c.loop-c-test.true,
    )

pub loop-c-preserved : goal.loop-c-preserved
loop-c-preserved c = λ p i inside.
    let below : c.args.j < length c.args.cube.now.vars = omega (arith, c.requires.last.there, c.requires.depth) in
    let d = descent c.args.cube.now c.args.plan.now (length c.args.cells.now) c.args.j c.args.k c.args.base c.at-v.result c.at-n.result
    c.vars.result.now c.shape.result.now below c.requires.stands c.vars.ensures.vars c.shape.ensures c.at-v.ensures c.at-n.ensures in
    let to : c.next-to.result ≡ c.args.base + step_at c.args.plan.now c.at-v.result c.loop-c.c = next-is _ c.args.plan.now c.at-v.result
    c.loop-c.c c.args.base c.next-to.result _ (low-category c.args.cube.now c.args.plan.now (length c.args.cells.now) c.args.j c.args.k
    c.args.base c.at-v.result c.at-n.result d c.loop-c.c c.loop-c-test.true) c.steps_if_used-steps.ensures c.next-to.ensures in
    let f : ℕ → ℕ = part_at p c.args.cube.now.cells in
    let before : i < length c.loop-c.cells = omega (arith, inside, c.if-to-cells.auto.cells, c.loop-c.auto.cells) in
    elim c.if-to-cells.branch [
      | then-to-cells w ↦
          gone-down c.args.cube.now c.args.plan.now (length c.args.cells.now) c.args.j c.args.k c.args.base c.at-v.result c.at-n.result d f
          (modulus p) i (part_at p c.args.cells.now i) c.loop-c.c c.next-to.result (part_at p c.loop-c.cells i)
          (part_at p c.if-to-cells.cells i) to (c.loop-c.invariant p i before)
          (ap (λ (cells : List Cell). part_at p cells i % modulus p) w.cells-is ∙ w.roll_last.ensures p i before
          ∙ ap (λ a. (part_at p c.loop-c.cells i + spread c.args.plan.now (drop a c.args.cube.now.vars) f
          (c.args.k * c.at-n.result + c.loop-c.c) c.next-to.result i) % modulus p) (sym c.requires.depth))
      | else-to-cells w ↦
          ap (λ (cells : List Cell). part_at p cells i % modulus p) w.cells-is
          ∙ left-out c.args.cube.now c.args.plan.now (length c.args.cells.now) c.args.j c.args.k c.args.base c.at-v.result c.at-n.result d
          f (modulus p) i (part_at p c.args.cells.now i) c.loop-c.c c.next-to.result (part_at p c.loop-c.cells i) to
          (omega (arith, before, w.if-to-cells.false)) (c.loop-c.invariant p i before)
    ]

pub returns : goal.returns
returns c = λ p i inside.
    let below : c.args.j < length c.args.cube.now.vars = omega (arith, c.requires.last.there, c.requires.depth) in
    let d = descent c.args.cube.now c.args.plan.now (length c.args.cells.now) c.args.j c.args.k c.args.base c.at-v.result c.at-n.result
    c.vars.result.now c.shape.result.now below c.requires.stands c.vars.ensures.vars c.shape.ensures c.at-v.ensures c.at-n.ensures in
    all-down c.args.cube.now c.args.plan.now (length c.args.cells.now) c.args.j c.args.k c.args.base c.at-v.result c.at-n.result d
    (part_at p c.args.cube.now.cells) (modulus p) i (part_at p c.args.cells.now i) c.loop-c.c (part_at p c.loop-c.cells i)
    (omega (arith, c.loop-c-test.false, c.loop-c.auto.c-end)) (c.loop-c.invariant p i (omega (arith, inside, c.loop-c.auto.cells)))

pub roll_last-requires : goal.roll_last-requires
roll_last-requires c =
    let below : c.args.j < length c.args.cube.now.vars = omega (arith, c.requires.last.there, c.requires.depth) in
    let d = descent c.args.cube.now c.args.plan.now (length c.args.cells.now) c.args.j c.args.k c.args.base c.at-v.result c.at-n.result
    c.vars.result.now c.shape.result.now below c.requires.stands c.vars.ensures.vars c.shape.ensures c.at-v.ensures c.at-n.ensures in
    let stands = stands-next c.args.cube.now c.args.plan.now (length c.args.cells.now) c.args.j c.args.k c.args.base c.at-v.result
    c.at-n.result d c.loop-c.c c.next-to.result (length c.loop-c.cells) c.loop-c-test.true c.loop-c.auto.cells c.if-to-cells.true in
    record { dense = c.requires.dense; last = c.requires.last; stands = subst (λ a. Stands c.args.cube.now c.args.plan.now (length c.loop-c.cells) a (c.args.k * c.at-n.result + c.loop-c.c) c.next-to.result) c.requires.depth stands }
