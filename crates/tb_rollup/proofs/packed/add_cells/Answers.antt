use Rattle.std.proofs.Common.{◌≡◌, ℕ, List, ◌+◌, ◌-◌, ◌*◌, ◌≤◌, ◌∷◌, length, drop, take, get_or, set, refl, ap, sym, subst, ◌∙◌, arith}
use Rattle.std.specs.Prelude.{slice_index}
use Rattle.tb_cube.specs.declared.packing.KeptCell.{KeptCell}
use Rattle.tb_cube.specs.Walks.{led_to}
use Rattle.tb_grid.specs.declared.products.TheConstants.{MOST_CELLS}
use Rattle.tb_rollup.specs.Rolling.{forks_of, AreAdded, AreBetween}
use Rattle.tb_rollup.proofs.ToCome.{added-then, between-lower, cell-leads, first-kept, no_kept, one-added, one-past, row-inside, row-starts}
use Rattle.tb_rollup.proofs.packed.add_cells.Goals as goal

pub overflow_mul-from : goal.overflow_mul-from
overflow_mul-from c =
    let long : ℕ = length c.args.last.now.steps.now in
    let inside = row-inside c.args.cube.now c.args.plan.now (length c.args.cells.now) c.args.last.now.at c.args.k c.args.base c.args.last.now.steps.now c.args.last.now.run c.args.kept.now c.requires.last c.requires.stands in
    let one : long * c.args.last.now.run ≡ long = ap (λ r. long * r) c.requires.one ∙ (let e : long * 1 ≡ long = omega arith in e) in
    let row : (c.args.k + 1) * long ≤ MOST_CELLS = omega (arith, inside, ap (λ m. (c.args.k + 1) * m) one, c.requires.stands.stands.small) in
    let next : (c.args.k + 1) * long ≡ c.args.k * long + long = omega arith in
    omega (arith, row, next)

pub overflow_add-end : goal.overflow_add-end
overflow_add-end c =
    let long : ℕ = length c.args.last.now.steps.now in
    let inside = row-inside c.args.cube.now c.args.plan.now (length c.args.cells.now) c.args.last.now.at c.args.k c.args.base c.args.last.now.steps.now c.args.last.now.run c.args.kept.now c.requires.last c.requires.stands in
    let one : long * c.args.last.now.run ≡ long = ap (λ r. long * r) c.requires.one ∙ (let e : long * 1 ≡ long = omega arith in e) in
    let row : (c.args.k + 1) * long ≤ MOST_CELLS = omega (arith, inside, ap (λ m. (c.args.k + 1) * m) one, c.requires.stands.stands.small) in
    let next : (c.args.k + 1) * long ≡ c.args.k * long + long = omega arith in
    omega (arith, row, next)

pub loop-left-init : goal.loop-left-init
loop-left-init c =
    let long : ℕ = length c.args.last.now.steps.now in
    let one : long * c.args.last.now.run ≡ long = ap (λ r. long * r) c.requires.one ∙ (let e : long * 1 ≡ long = omega arith in e) in
    record {
      between = subst (λ m. AreBetween (c.args.k * m) (length c.args.cube.now.cells) c.args.kept.now) one
          (row-starts c.args.cube.now c.args.plan.now (length c.args.cells.now) c.args.last.now.at c.args.k c.args.base c.args.last.now.steps.now c.args.last.now.run c.args.kept.now c.requires.last c.requires.stands);
      added = λ p i below. refl;
    }

pub loop-left-preserved-then-to-cells : goal.loop-left-preserved-then-to-cells
loop-left-preserved-then-to-cells c =
    let left : List KeptCell = c.loop-left.left.now in
    let one : KeptCell = get_or left 0 no_kept in
    let after : List KeptCell = take (length left - 1) (drop 1 left) in
    let from : ℕ = c.args.k * length c.args.last.now.steps.now in
    let split : left ≡ one ∷ after = first-kept left no_kept c.in-len1-up.len_at_least in
    let starts = subst (AreBetween from (length c.args.cube.now.cells)) split c.loop-left.invariant.between in
    let to : ℕ = c.args.base + slice_index c.args.last.now.steps.now (one.place - from) in
    let leads : led_to (forks_of c.args.plan.now c.args.cube.now.vars) one.place ≡ to =
    cell-leads c.args.cube.now c.args.plan.now (length c.args.cells.now) c.args.last.now.at c.args.k c.args.base c.args.last.now.steps.now c.args.last.now.run c.args.kept.now c.requires.last c.requires.stands
    one.place c.requires.one starts.0 (omega (arith, c.if-place-end.false)) in
    record {
      between = between-lower from (one.place + 1) (length c.args.cube.now.cells) after (omega (arith, starts.0)) starts.2;
      added = added-then c.args.plan.now c.args.cube.now.vars c.args.kept.now left after c.args.cells.now c.loop-left.cells (set c.loop-left.cells to c.add.new.self) c.loop-left.auto.cells c.loop-left.invariant.added
          (subst (λ ks. AreAdded c.args.plan.now c.args.cube.now.vars ks c.loop-left.cells after (set c.loop-left.cells to c.add.new.self)) (sym split)
          (one-added c.args.plan.now c.args.cube.now.vars one after c.loop-left.cells to c.add.new.self leads c.if-to-cells.true c.add.ensures.parts));
    }

pub loop-left-preserved : goal.loop-left-preserved
loop-left-preserved c =
    let left : List KeptCell = c.loop-left.left.now in
    let one : KeptCell = get_or left 0 no_kept in
    let after : List KeptCell = take (length left - 1) (drop 1 left) in
    let from : ℕ = c.args.k * length c.args.last.now.steps.now in
    let split : left ≡ one ∷ after = first-kept left no_kept c.in-len1-up.len_at_least in
    let starts = subst (AreBetween from (length c.args.cube.now.cells)) split c.loop-left.invariant.between in
    let to : ℕ = c.args.base + slice_index c.args.last.now.steps.now (one.place - from) in
    let leads : led_to (forks_of c.args.plan.now c.args.cube.now.vars) one.place ≡ to =
    cell-leads c.args.cube.now c.args.plan.now (length c.args.cells.now) c.args.last.now.at c.args.k c.args.base c.args.last.now.steps.now c.args.last.now.run c.args.kept.now c.requires.last c.requires.stands
    one.place c.requires.one starts.0 (omega (arith, c.if-place-end.false)) in
    record {
      between = between-lower from (one.place + 1) (length c.args.cube.now.cells) after (omega (arith, starts.0)) starts.2;
      added = added-then c.args.plan.now c.args.cube.now.vars c.args.kept.now left after c.args.cells.now c.loop-left.cells c.loop-left.cells c.loop-left.auto.cells c.loop-left.invariant.added
          (subst (λ ks. AreAdded c.args.plan.now c.args.cube.now.vars ks c.loop-left.cells after c.loop-left.cells) (sym split)
          (one-past c.args.plan.now c.args.cube.now.vars one after c.loop-left.cells to leads (omega (arith, c.if-to-cells.false))));
    }
