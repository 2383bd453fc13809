use Rattle.std.proofs.Common.{◌≡◌, ℕ, List, ◌+◌, ◌*◌, ◌≤◌, ◌<◌, length, refl, sym, subst, arith}
use Rattle.std.specs.Prelude.{slice_index}
use Rattle.std.proofs.lemmas.Nat.{mul-le}
use Rattle.tb_cube.specs.declared.packing.KeptCell.{KeptCell}
use Rattle.tb_cube.specs.Walks.{led_to}
use Rattle.tb_rollup.specs.Rolling.{forks_of, kept_after, AreAdded, AreBetween}
use Rattle.tb_rollup.proofs.ToCome.{added-then, between-after, from-none, place-leads, row-few, row-inside, row-starts, run-added, run-past}
use Rattle.tb_rollup.proofs.packed.add_runs.Goals as goal
use Rattle.tb_rollup.proofs.packed.add_runs.Goals.{then-to-cells, else-to-cells}

pub overflow_mul-from : goal.overflow_mul-from
overflow_mul-from c =
    omega (arith, row-few c.args.cube.now c.args.plan.now (length c.args.cells.now) c.args.last.now.at c.args.k c.args.base c.args.last.now.steps.now c.args.last.now.run c.args.kept.now c.requires.last c.requires.stands)

pub overflow_mul-from-2 : goal.overflow_mul-from-2
overflow_mul-from-2 c =
    let row : ℕ = length c.args.last.now.steps.now * c.args.last.now.run in
    let next : (c.args.k + 1) * row ≡ c.args.k * row + row = omega arith in
    omega (arith, next, c.requires.stands.stands.small, row-inside c.args.cube.now c.args.plan.now (length c.args.cells.now) c.args.last.now.at c.args.k c.args.base c.args.last.now.steps.now c.args.last.now.run c.args.kept.now c.requires.last c.requires.stands)

pub loop-c-init : goal.loop-c-init
loop-c-init c =
    let row : ℕ = length c.args.last.now.steps.now * c.args.last.now.run in
    let start : c.args.k * row ≡ c.args.k * row + 0 * c.args.last.now.run = omega arith in
    record {
      between = subst (λ m. AreBetween m (length c.args.cube.now.cells) c.args.kept.now) start
          (row-starts c.args.cube.now c.args.plan.now (length c.args.cells.now) c.args.last.now.at c.args.k c.args.base c.args.last.now.steps.now c.args.last.now.run c.args.kept.now c.requires.last c.requires.stands);
      added = λ p i below. refl;
    }

pub overflow_mul-c : goal.overflow_mul-c
overflow_mul-c c =
    let low : (c.loop-c.c + 1) * c.args.last.now.run ≤ length c.args.last.now.steps.now * c.args.last.now.run = mul-le (c.loop-c.c + 1) c.args.last.now.run (length c.args.last.now.steps.now) c.args.last.now.run (omega (arith, c.loop-c-test.true)) (omega arith) in
    omega (arith, low, row-few c.args.cube.now c.args.plan.now (length c.args.cells.now) c.args.last.now.at c.args.k c.args.base c.args.last.now.steps.now c.args.last.now.run c.args.kept.now c.requires.last c.requires.stands)

pub overflow_add-from : goal.overflow_add-from
overflow_add-from c =
    let row : ℕ = length c.args.last.now.steps.now * c.args.last.now.run in
    let next : (c.args.k + 1) * row ≡ c.args.k * row + row = omega arith in
    let low : (c.loop-c.c + 1) * c.args.last.now.run ≤ row = mul-le (c.loop-c.c + 1) c.args.last.now.run (length c.args.last.now.steps.now) c.args.last.now.run (omega (arith, c.loop-c-test.true)) (omega arith) in
    omega (arith, low, next, c.requires.stands.stands.small, row-inside c.args.cube.now c.args.plan.now (length c.args.cells.now) c.args.last.now.at c.args.k c.args.base c.args.last.now.steps.now c.args.last.now.run c.args.kept.now c.requires.last c.requires.stands)

pub loop-c-preserved : goal.loop-c-preserved
loop-c-preserved c =
    let left : List KeptCell = c.loop-c.left.now in
    let row : ℕ = length c.args.last.now.steps.now * c.args.last.now.run in
    let start : ℕ = c.args.k * row + c.loop-c.c * c.args.last.now.run in
    let end : ℕ = c.args.k * row + (c.loop-c.c + 1) * c.args.last.now.run in
    let long : ℕ = length c.args.cube.now.cells in
    let to : ℕ = c.args.base + slice_index c.args.last.now.steps.now c.loop-c.c in
    let leads : (q : ℕ) → start ≤ q → q < end → led_to (forks_of c.args.plan.now c.args.cube.now.vars) q ≡ to = λ q from below.
    place-leads c.args.cube.now c.args.plan.now (length c.args.cells.now) c.args.last.now.at c.args.k c.args.base c.args.last.now.steps.now c.args.last.now.run c.args.kept.now c.requires.last c.requires.stands
    c.loop-c.c q (omega (arith, c.loop-c-test.true)) from below in
    let step : AreAdded c.args.plan.now c.args.cube.now.vars left c.loop-c.cells (kept_after end left) c.if-to-cells.cells =
    elim c.if-to-cells.branch [
      | then-to-cells w ↦
          subst (λ cells. AreAdded c.args.plan.now c.args.cube.now.vars left c.loop-c.cells (kept_after end left) cells) (sym w.cells-is)
          (run-added c.args.plan.now c.args.cube.now.vars left c.loop-c.cells start end long to c.add_before-left.new.sum w.add.new.self c.loop-c.invariant.between leads w.if-to-cells.true
          (λ p. from-none p c.empty-sum.result c.add_before-left.new.sum _ c.empty-sum.ensures (c.add_before-left.ensures.sums p)) w.add.ensures.parts)
      | else-to-cells w ↦
          subst (λ cells. AreAdded c.args.plan.now c.args.cube.now.vars left c.loop-c.cells (kept_after end left) cells) (sym w.cells-is)
          (run-past c.args.plan.now c.args.cube.now.vars left c.loop-c.cells start end long c.loop-c.invariant.between (λ q from below. omega (arith, leads q from below, w.if-to-cells.false)))
    ] in
    record {
      between = subst (AreBetween end long) (sym c.add_before-left.ensures.left) (between-after start long end left c.loop-c.invariant.between);
      added = subst (λ ks. AreAdded c.args.plan.now c.args.cube.now.vars c.args.kept.now c.args.cells.now ks c.if-to-cells.cells) (sym c.add_before-left.ensures.left)
          (added-then c.args.plan.now c.args.cube.now.vars c.args.kept.now left (kept_after end left) c.args.cells.now c.loop-c.cells c.if-to-cells.cells c.loop-c.auto.cells c.loop-c.invariant.added step);
    }
