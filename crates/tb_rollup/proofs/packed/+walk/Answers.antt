use Rattle.std.proofs.Common.{◌≡◌, ℕ, List, ◌+◌, ◌*◌, ◌<◌, length, drop, refl, ap, sym, subst, ◌∙◌, arith}
use Rattle.tb_cube.specs.Cubes.{cell_count}
use Rattle.tb_cube.specs.declared.packing.KeptCell.{KeptCell}
use Rattle.tb_rollup.specs.Rolling.{kept_after, AreAdded, AreBetween}
use Rattle.tb_rollup.proofs.Added.{last-runs, next-known, next-is}
use Rattle.tb_rollup.proofs.Descent.{descent, low-category}
use Rattle.tb_plan.specs.Steps.{step_at}
use Rattle.tb_rollup.proofs.ToCome.{added-then, before-next, between-after, category-past, room-end, run-is, run-past, GoesOn}
use Rattle.tb_rollup.proofs.packed.+walk.Goals as goal
use Rattle.tb_rollup.proofs.packed.+walk.Goals.{then-to-cells+then-begins_before, else-to-cells, else-to-cells-via-then-to-cells+else-begins_before, else-to-cells-via-else-to-cells}

pub returns-then-last-eq1-clause-left : goal.returns-then-last-eq1-clause-left
returns-then-last-eq1-clause-left t c =
    let long : ℕ = length c.args.last.now.steps.now in
    let one : long ≡ long * c.args.last.now.run = sym (ap (λ r. long * r) c.if-last-eq1.true ∙ (let e : long * 1 ≡ long = omega arith in e)) in
    let row : long ≡ cell_count c.args.plan.now.shape (drop c.args.j c.args.cube.now.vars) =
    one ∙ sym (last-runs c.args.plan.now c.args.cube.now.vars c.args.last.now.at c.args.last.now.steps.now c.args.last.now.run c.requires.last).count
    ∙ ap (λ j. cell_count c.args.plan.now.shape (drop j c.args.cube.now.vars)) (sym c.if-j-last.true) in
    subst (λ m. AreBetween ((c.args.k + 1) * m) (length c.args.cube.now.cells) c.add_cells.result.now) row c.add_cells.ensures.left

pub returns-else-last-eq1-clause-left : goal.returns-else-last-eq1-clause-left
returns-else-last-eq1-clause-left t c =
    let row = sym (last-runs c.args.plan.now c.args.cube.now.vars c.args.last.now.at c.args.last.now.steps.now c.args.last.now.run c.requires.last).count
    ∙ ap (λ j. cell_count c.args.plan.now.shape (drop j c.args.cube.now.vars)) (sym c.if-j-last.true) in
    subst (λ m. AreBetween ((c.args.k + 1) * m) (length c.args.cube.now.cells) c.add_runs.result.now) row c.add_runs.ensures.left

pub next-to-requires-clause-category : goal.next-to-requires-clause-category
next-to-requires-clause-category t c =
    let below : c.args.j < length c.args.cube.now.vars = omega (arith, c.requires.last.there, c.requires.depth, c.if-j-last.false) in
    let d = descent c.args.cube.now c.args.plan.now (length c.args.cells.now) c.args.j c.args.k c.args.base c.at-v.result c.at-n.result
    c.vars.result.now c.shape.result.now below c.requires.stands.stands c.vars.ensures.vars c.shape.ensures c.at-v.ensures c.at-n.ensures in
    next-known _ c.args.plan.now c.at-v.result c.loop-c.c _
    (low-category c.args.cube.now c.args.plan.now (length c.args.cells.now) c.args.j c.args.k c.args.base c.at-v.result c.at-n.result d
    c.loop-c.c c.loop-c-test.true) c.steps_if_used-steps.ensures

pub overflow_mul-end-in-loop-c : goal.overflow_mul-end-in-loop-c
overflow_mul-end-in-loop-c t c =
    let below : c.args.j < length c.args.cube.now.vars = omega (arith, c.requires.last.there, c.requires.depth, c.if-j-last.false) in
    let d = descent c.args.cube.now c.args.plan.now (length c.args.cells.now) c.args.j c.args.k c.args.base c.at-v.result c.at-n.result
    c.vars.result.now c.shape.result.now below c.requires.stands.stands c.vars.ensures.vars c.shape.ensures c.at-v.ensures c.at-n.ensures in
    let run = run-is c.args.cube.now c.args.plan.now (length c.args.cells.now) c.args.j c.args.k c.args.base c.at-v.result c.at-n.result c.args.kept.now d c.requires.stands c.loop-c.c c.run-run.result c.loop-c-test.true c.run-run.ensures in
    omega (arith, room-end c.args.cube.now c.args.plan.now (length c.args.cells.now) c.args.j c.args.k c.args.base c.at-v.result c.at-n.result c.args.kept.now d c.requires.stands c.loop-c.c c.loop-c-test.true, ap (λ m. (c.args.k * c.at-n.result + c.loop-c.c + 1) * m) run)

pub walk-left-requires : goal.walk-left-requires
walk-left-requires t c =
    let below : c.args.j < length c.args.cube.now.vars = omega (arith, c.requires.last.there, c.requires.depth, c.if-j-last.false) in
    let d = descent c.args.cube.now c.args.plan.now (length c.args.cells.now) c.args.j c.args.k c.args.base c.at-v.result c.at-n.result
    c.vars.result.now c.shape.result.now below c.requires.stands.stands c.vars.ensures.vars c.shape.ensures c.at-v.ensures c.at-n.ensures in
    let to : c.next-to.result ≡ c.args.base + step_at c.args.plan.now c.at-v.result c.loop-c.c = next-is _ c.args.plan.now c.at-v.result
    c.loop-c.c c.args.base c.next-to.result _ (low-category c.args.cube.now c.args.plan.now (length c.args.cells.now) c.args.j c.args.k
    c.args.base c.at-v.result c.at-n.result d c.loop-c.c c.loop-c-test.true) c.steps_if_used-steps.ensures c.next-to.ensures in
    let stands = before-next c.args.cube.now c.args.plan.now (length c.args.cells.now) c.args.j c.args.k c.args.base c.at-v.result c.at-n.result c.args.kept.now d c.requires.stands
    c.loop-c.c c.next-to.result (length c.loop-c.cells) c.loop-c.left.now c.loop-c-test.true c.loop-c.auto.cells c.if-to-cells.true to c.loop-c.invariant.between in
    (omega (arith, c.requires.depth, c.if-j-last.false), (c.requires.last, (omega (arith, c.requires.depth, c.if-j-last.false), stands)))

pub loop-c-preserved : goal.loop-c-preserved
loop-c-preserved t c =
    let below : c.args.j < length c.args.cube.now.vars = omega (arith, c.requires.last.there, c.requires.depth, c.if-j-last.false) in
    let d = descent c.args.cube.now c.args.plan.now (length c.args.cells.now) c.args.j c.args.k c.args.base c.at-v.result c.at-n.result
    c.vars.result.now c.shape.result.now below c.requires.stands.stands c.vars.ensures.vars c.shape.ensures c.at-v.ensures c.at-n.ensures in
    let to : c.next-to.result ≡ c.args.base + step_at c.args.plan.now c.at-v.result c.loop-c.c = next-is _ c.args.plan.now c.at-v.result
    c.loop-c.c c.args.base c.next-to.result _ (low-category c.args.cube.now c.args.plan.now (length c.args.cells.now) c.args.j c.args.k
    c.args.base c.at-v.result c.at-n.result d c.loop-c.c c.loop-c-test.true) c.steps_if_used-steps.ensures c.next-to.ensures in
    let left : List KeptCell = c.loop-c.left.now in
    let after : ℕ = cell_count c.args.plan.now.shape (drop (c.args.j + 1) c.args.cube.now.vars) in
    let start : ℕ = (c.args.k * c.at-n.result + c.loop-c.c) * after in
    let end : ℕ = (c.args.k * c.at-n.result + c.loop-c.c + 1) * after in
    let long : ℕ = length c.args.cube.now.cells in
    let run : (c.args.k * c.at-n.result + c.loop-c.c + 1) * c.run-run.result ≡ end =
    ap (λ m. (c.args.k * c.at-n.result + c.loop-c.c + 1) * m) (run-is c.args.cube.now c.args.plan.now (length c.args.cells.now) c.args.j c.args.k c.args.base c.at-v.result c.at-n.result c.args.kept.now d c.requires.stands c.loop-c.c c.run-run.result c.loop-c-test.true c.run-run.ensures) in
    let next : end ≡ (c.args.k * c.at-n.result + (c.loop-c.c + 1)) * after =
    ap (λ m. m * after) (let e : c.args.k * c.at-n.result + c.loop-c.c + 1 ≡ c.args.k * c.at-n.result + (c.loop-c.c + 1) = omega arith in e) in
    let step : GoesOn c.args.plan.now c.args.cube.now.vars long end left c.loop-c.cells c.if-to-cells.left.now c.if-to-cells.cells =
    elim c.if-to-cells.branch [
      | then-to-cells+then-begins_before w ↦
          rw (w.left-is, w.cells-is) (record { between = w.walk-left.ensures.left; added = w.walk-left.ensures.added })
      | else-to-cells w ↦
          let skipped : w.skip_before-left.result.now ≡ kept_after end left = w.skip_before-left.ensures ∙ ap (λ e. kept_after e left) run in
          let between : AreBetween end long (kept_after end left) = between-after start long end left c.loop-c.invariant.between in
          rw (w.left-is, w.cells-is, skipped)
          (elim w.else-to-cells.branch [
            | else-to-cells-via-then-to-cells+else-begins_before w' ↦
                let none : kept_after end left ≡ left = sym (ap (λ e. kept_after e left) run) ∙ w'.begins_before.ensures w'.if-begins_before.false in
                record {
                  between = between;
                  added = subst (λ ks. AreAdded c.args.plan.now c.args.cube.now.vars left c.loop-c.cells ks c.loop-c.cells) (sym none) (λ p i inside. refl);
                }
            | else-to-cells-via-else-to-cells w' ↦
                record {
                  between = between;
                  added = run-past c.args.plan.now c.args.cube.now.vars left c.loop-c.cells start end long c.loop-c.invariant.between
                      (λ q from low. omega (arith, w'.if-to-cells.false, category-past c.args.cube.now c.args.plan.now (length c.args.cells.now) c.args.j c.args.k c.args.base c.at-v.result c.at-n.result c.args.kept.now d c.requires.stands c.loop-c.c c.next-to.result q c.loop-c-test.true to from low));
                }
          ])
    ] in
    record {
      between = subst (λ m. AreBetween m long c.if-to-cells.left.now) next step.between;
      added = added-then c.args.plan.now c.args.cube.now.vars c.args.kept.now left c.if-to-cells.left.now c.args.cells.now c.loop-c.cells c.if-to-cells.cells c.loop-c.auto.cells c.loop-c.invariant.added step.added;
    }
