use Rattle.std.proofs.Common.{◌≡◌, List, true, ◌≤◌, length, refl, ap, sym, subst, ◌∙◌, arith}
use Rattle.std.specs.List.{sum_by}
use Rattle.tb_base.specs.declared.cells.Cell.{Cell}
use Rattle.tb_base.specs.declared.people.TheConstants.{MOST_PERSONS}
use Rattle.tb_base.specs.Parts.{part_at}
use Rattle.tb_base.specs.Sets.{includes_all}
use Rattle.tb_model.specs.Cubes.{narrowed}
use Rattle.tb_grid.specs.declared.products.TheConstants.{MOST_CELLS}
use Rattle.tb_cube.specs.declared.axes.Axis.{Axis}
use Rattle.tb_cube.specs.Axes.{axes_of}
use Rattle.tb_cube.specs.Cubes.{cell_count, narrowed_to, CubeValue, IsWhole}
use Rattle.tb_cube.specs.Forms.{cells_of, seen_as}
use Rattle.tb_cube.specs.Narrowing.{forks_of, steps_of, AreRuns}
use Rattle.tb_cube.specs.Walks.{spread}
use Rattle.tb_cube.proofs.Adding.{made-cube}
use Rattle.tb_cube.proofs.Grid.{there-at}
use Rattle.tb_cube.proofs.Leading.{runs-of-steps, there-fewer}
use Rattle.tb_cube.proofs.Narrowed.{cube-made, cube-narrowed, narrowed-held, whole-steps}
use Rattle.tb_cube.proofs.Reduced.{reduced-sums}
use Rattle.tb_cube.proofs.cube.narrow.Goals as goal

pub axes_of-requires : goal.axes_of-requires
axes_of-requires c =
    let among : includes_all c.cube.inside.vars c.args.vars.now ≡ true = subst (λ (v : CubeValue). includes_all v.vars c.args.vars.now ≡ true) (sym c.cube.view_is) c.requires.among in
    there-fewer (length c.cube.inside.shape) c.cube.inside.vars c.args.vars.now c.cube.invariant.cube.whole.there among

pub cells_over-long-requires-clause-there : goal.cells_over-long-requires-clause-there
cells_over-long-requires-clause-there c =
    let among : includes_all c.cube.inside.vars c.args.vars.now ≡ true = subst (λ (v : CubeValue). includes_all v.vars c.args.vars.now ≡ true) (sym c.cube.view_is) c.requires.among in
    there-at c.cube.inside.shape c.args.vars.now (there-fewer (length c.cube.inside.shape) c.cube.inside.vars c.args.vars.now c.cube.invariant.cube.whole.there among)

pub narrowed_cells-requires-clause-whole : goal.narrowed_cells-requires-clause-whole
narrowed_cells-requires-clause-whole c =
    let kept : CubeValue = seen_as c.cube.inside.shape c.cube.inside.vars c.cube.inside.form in
    let axes : c.deref.result.now ≡ axes_of kept.shape c.args.vars.now = c.deref.ensures.value ∙ c.in_ok-axes.ensures in
    let steps : c.deref-2.result.now ≡ steps_of kept.shape (axes_of kept.shape c.args.vars.now) kept.vars =
    c.deref-2.ensures.value ∙ c.in_ok-steps.ensures ∙ ap (λ (xs : List Axis). steps_of kept.shape xs kept.vars) axes in
    whole-steps kept c.args.vars.now c.deref-2.result.now kept.cells c.cube.invariant.cube.whole steps refl

pub narrowed_cells-requires-clause-kept : goal.narrowed_cells-requires-clause-kept
narrowed_cells-requires-clause-kept c = c.cube.invariant.kept

pub narrowed_cells-requires-clause-runs : goal.narrowed_cells-requires-clause-runs
narrowed_cells-requires-clause-runs c = λ some.
    let kept : CubeValue = seen_as c.cube.inside.shape c.cube.inside.vars c.cube.inside.form in
    let axes : c.deref.result.now ≡ axes_of kept.shape c.args.vars.now = c.deref.ensures.value ∙ c.in_ok-axes.ensures in
    let steps : c.deref-2.result.now ≡ steps_of kept.shape (axes_of kept.shape c.args.vars.now) kept.vars =
    c.deref-2.ensures.value ∙ c.in_ok-steps.ensures ∙ ap (λ (xs : List Axis). steps_of kept.shape xs kept.vars) axes in
    let whole = c.cube.invariant.cube.whole in
    subst AreRuns (sym steps) (runs-of-steps kept.shape c.args.vars.now kept.vars (omega (arith, some, whole.long)) (omega (arith, whole.long, whole.few)))

pub returns-clause-cells : goal.returns-clause-cells
returns-clause-cells c =
    let kept : CubeValue = seen_as c.cube.inside.shape c.cube.inside.vars c.cube.inside.form in
    let among : includes_all kept.vars c.args.vars.now ≡ true = subst (λ (v : CubeValue). includes_all v.vars c.args.vars.now ≡ true) (sym c.cube.view_is) c.requires.among in
    let few : sum_by (λ (d : Cell). d.count) kept.cells ≤ MOST_PERSONS = subst (λ (v : CubeValue). sum_by (λ (d : Cell). d.count) v.cells ≤ MOST_PERSONS) (sym c.cube.view_is) c.requires.few in
    let fits : cell_count kept.shape c.args.vars.now ≤ MOST_CELLS = subst (λ (v : CubeValue). cell_count v.shape c.args.vars.now ≤ MOST_CELLS) (sym c.cube.view_is) c.requires.fits in
    let axes : c.deref.result.now ≡ axes_of kept.shape c.args.vars.now = c.deref.ensures.value ∙ c.in_ok-axes.ensures in
    let steps : c.deref-2.result.now ≡ steps_of kept.shape (axes_of kept.shape c.args.vars.now) kept.vars =
    c.deref-2.ensures.value ∙ c.in_ok-steps.ensures ∙ ap (λ (xs : List Axis). steps_of kept.shape xs kept.vars) axes in
    let long : c.cells_over-long.result ≡ cell_count kept.shape c.args.vars.now = omega (arith, c.cells_over-long.ensures, fits) in
    let cells : c.in_ok-cells.cells.items ≡ narrowed kept.shape kept.vars c.args.vars.now kept.cells =
    cube-narrowed kept c.args.vars.now c.deref-2.result.now kept.cells c.in_ok-cells.cells.items c.cube.invariant.cube.whole c.len.ensures.ascending
    among few fits steps refl (c.in_ok-cells.ensures.many ∙ long)
    (λ p i below. c.in_ok-cells.ensures.sums p i (omega (arith, below, c.in_ok-cells.ensures.many))) in
    made-cube c.in_ok-copy.ensures c.in_ok-copy-2.ensures cells
    ∙ ap (narrowed_to c.args.vars.now) c.cube.view_is

pub returns-clause-held : goal.returns-clause-held
returns-clause-held c = λ records fit held.
    returns-clause-cells c ∙ narrowed-held c.args.cube.now c.args.vars.now records (subst IsWhole c.cube.view_is c.cube.invariant.cube.whole) c.requires.among fit held

pub invariant_of-result : goal.invariant_of-result
invariant_of-result c =
    let kept : CubeValue = seen_as c.cube.inside.shape c.cube.inside.vars c.cube.inside.form in
    let among : includes_all kept.vars c.args.vars.now ≡ true = subst (λ (v : CubeValue). includes_all v.vars c.args.vars.now ≡ true) (sym c.cube.view_is) c.requires.among in
    let fits : cell_count kept.shape c.args.vars.now ≤ MOST_CELLS = subst (λ (v : CubeValue). cell_count v.shape c.args.vars.now ≤ MOST_CELLS) (sym c.cube.view_is) c.requires.fits in
    let long : c.cells_over-long.result ≡ cell_count kept.shape c.args.vars.now = omega (arith, c.cells_over-long.ensures, fits) in
    record {
      cube = cube-made kept c.args.vars.now _ _ c.in_ok-cells.cells.items c.in_ok-axes.axes.items c.cube.invariant.cube.whole c.len.ensures.ascending among
          c.in_ok-copy.ensures c.in_ok-copy-2.ensures c.in_ok-axes.ensures (c.in_ok-cells.ensures.many ∙ long) fits
          (reduced-sums c.in_ok-cells.cells.items (λ p i. spread (forks_of c.deref-2.result.now) (part_at p (cells_of c.cube.inside.form)) 0 0 i) (λ p i below. c.in_ok-cells.ensures.sums p i (omega (arith, below, c.in_ok-cells.ensures.many))));
      kept = tt;
    }
