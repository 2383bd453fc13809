use Rattle.std.proofs.Common.{◌≡◌, ◌*◌, ◌≤◌, List, length, refl, ap, subst, sym, ◌∙◌, arith}
use Rattle.tb_base.specs.declared.cells.Cell.{Cell}
use Rattle.tb_cube.specs.declared.packing.Form.{Form}
use Rattle.tb_cube.specs.declared.packing.Form.TheVariants.{Dense, Packed}
use Rattle.tb_cube.specs.Axes.{IsCube}
use Rattle.tb_cube.specs.Cubes.{packed}
use Rattle.tb_cube.specs.Forms.{seen_as}
use Rattle.tb_cube.specs.Packing.{all_cells, filled, kept_from}
use Rattle.tb_cube.proofs.Packed.{back, packed-is, same-cube}
use Rattle.tb_cube.proofs.cube.Cube.pack.Goals as goal
use Rattle.tb_cube.proofs.cube.Cube.pack.Goals.{in-Dense-1, in-Packed-1}

pub invariant_of-self : goal.invariant_of-self
invariant_of-self c =
    let items : List Cell = c.in-Dense.cells.items in
    let kept : c.in_ok-kept.kept.items ≡ kept_from 0 items = c.in_ok-kept.ensures ∙ ap (kept_from 0) c.deref-then-filled-len.ensures.value in
    let long : c.len-long.result ≡ length items = omega (arith, c.len-long.ensures, c.in-Dense.cells.ok.0) in
    let same : all_cells c.len-long.result c.in_ok-kept.kept.items ≡ items = rw (long, kept) (back items) in
    record {
      cube = same-cube (seen_as c.self.inside.shape c.self.inside.vars (Dense c.in-Dense.cells)) (seen_as c.self.inside.shape c.self.inside.vars (Packed c.len-long.result c.in_ok-kept.kept)) c.self.inside.axes.items refl refl (sym same)
          (subst (λ (f : Form). IsCube (seen_as c.self.inside.shape c.self.inside.vars f) c.self.inside.axes.items) c.in-Dense.is c.self.invariant.cube);
      kept = kept ∙ ap (kept_from 0) (sym same);
    }

pub returns-in_ok-kept-clause-ok : goal.returns-in_ok-kept-clause-ok
returns-in_ok-kept-clause-ok c =
    let items : List Cell = c.in-Dense.cells.items in
    let kept : c.in_ok-kept.kept.items ≡ kept_from 0 items = c.in_ok-kept.ensures ∙ ap (kept_from 0) c.deref-then-filled-len.ensures.value in
    let long : c.len-long.result ≡ length items = omega (arith, c.len-long.ensures, c.in-Dense.cells.ok.0) in
    let same : all_cells c.len-long.result c.in_ok-kept.kept.items ≡ items = rw (long, kept) (back items) in
    let count : c.filled_in-filled.result ≡ filled items = c.filled_in-filled.ensures.count ∙ ap filled c.deref.ensures.value in
    let rare : 4 * filled items ≤ length items = omega (arith, count, c.if-filled-len.true, c.len.ensures, c.in-Dense.cells.ok.0) in
    let done = packed-is c.self.inside.shape c.self.inside.vars items (all_cells c.len-long.result c.in_ok-kept.kept.items) same rare in
    let old : seen_as c.self.inside.shape c.self.inside.vars (Dense c.in-Dense.cells) ≡ c.args.self.now = ap (seen_as c.self.inside.shape c.self.inside.vars) (sym c.in-Dense.is) ∙ c.self.view_is in
    elim c.match-self-2.branch [
      | in-Dense-1 w ↦ w.self-is ∙ done ∙ ap packed old
      | in-Packed-1 w ↦ w.self-is ∙ done ∙ ap packed old
    ]
