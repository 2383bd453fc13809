use Rattle.std.proofs.Common.{◌≡◌, List, true, false, length, ap, sym, subst, refl, ◌∙◌, arith, All}
use Rattle.std.specs.Vec.{with_items}
use Rattle.std.proofs.lemmas.List.{with_items_is}
use Rattle.tb_base.specs.declared.cells.Cell.{Cell}
use Rattle.tb_base.specs.Cells.{merged_all, IsReduced}
use Rattle.tb_base.specs.Records.{Fits}
use Rattle.tb_model.specs.Cubes.{cube_of}
use Rattle.tb_base.specs.declared.records.Record.{Record}
use Rattle.tb_base.specs.Pieces.{between}
use Rattle.tb_cube.specs.declared.axes.Axis.{Axis}
use Rattle.tb_cube.specs.declared.packing.Form.{Form}
use Rattle.tb_cube.specs.declared.packing.Form.TheVariants.{Dense}
use Rattle.tb_cube.specs.Forms.{cells_of, is_dense, seen_as}
use Rattle.tb_cube.specs.Cubes.{CubeValue}
use Rattle.tb_cube.specs.Axes.{with_all, IsCube}
use Rattle.tb_cube.proofs.Adding.{all-lead, put-cube}
use Rattle.tb_cube.proofs.Changes.{held-added}
use Rattle.tb_cube.proofs.Reduced.{reduced-with_all, still-cube}
use Rattle.tb_cube.proofs.cube.Cube.add_piece.Goals as goal
use Rattle.tb_cube.proofs.cube.Cube.add_piece.Goals.{in-Dense, in_default}

pub put_piece-requires-clause-lead : goal.put_piece-requires-clause-lead
put_piece-requires-clause-lead c =
    let part : List Record = between c.args.from c.args.to c.args.piece.now in
    let cube : CubeValue = seen_as c.self.inside.shape c.self.inside.vars c.self.inside.form in
    let fit : All (Fits c.self.inside.shape) part = subst (λ (v : CubeValue). All (Fits v.shape) part) (sym c.self.view_is) c.requires.fit in
    let long : length cube.cells ≡ length c.in-Dense.cells.items = ap (λ (f : Form). length (cells_of f)) c.in-Dense.is in
    rw (c.deref_mut.ensures.value, c.deref.ensures.value, ← long) (all-lead cube c.self.inside.axes.items part c.self.invariant.cube fit)

pub returns-clause-cells : goal.returns-clause-cells
returns-clause-cells c =
    let part : List Record = between c.args.from c.args.to c.args.piece.now in
    elim c.match-self.branch [
      | in-Dense w ↦
          let cube : CubeValue = seen_as c.self.inside.shape c.self.inside.vars (Dense w.in-Dense.cells) in
          let items : List Cell = w.in-Dense.cells.items in
          let is : IsCube cube c.self.inside.axes.items = subst (λ (f : Form). IsCube (seen_as c.self.inside.shape c.self.inside.vars f) c.self.inside.axes.items) w.in-Dense.is c.self.invariant.cube in
          let fit : All (Fits c.self.inside.shape) part = subst (λ (v : CubeValue). All (Fits v.shape) part) (sym c.self.view_is) c.requires.fit in
          let made : w.put_piece.new.cells ≡ merged_all items (cube_of c.self.inside.shape c.self.inside.vars part) =
          w.put_piece.ensures
          ∙ ap (λ (axes : List Axis). with_all axes w.deref_mut.result.now part) w.deref.ensures.value
          ∙ ap (λ (cells : List Cell). with_all c.self.inside.axes.items cells part) w.deref_mut.ensures.value
          ∙ put-cube cube c.self.inside.axes.items part is fit in
          let all : (with_items w.in-Dense.cells w.put_piece.new.cells).items ≡ merged_all items (cube_of c.self.inside.shape c.self.inside.vars part) =
          with_items_is w.in-Dense.cells w.put_piece.new.cells (omega (arith, w.put_piece.auto.cells, w.deref_mut.ensures.len)) ∙ made in
          rw (w.self-inside-is, ← c.self.view_is, w.in-Dense.is, all) refl
      | in_default w ↦
          let clash : false ≡ true = sym (ap is_dense w.in_default.is) ∙ ap (λ (v : CubeValue). v.dense) c.self.view_is ∙ c.requires.dense in
          absurd (let none : ⊥ = cc in none)
    ]

pub returns-clause-held : goal.returns-clause-held
returns-clause-held c = λ before held. held-added c.args.self.now _ before (between c.args.from c.args.to c.args.piece.now) (returns-clause-cells c) held

pub put_piece-requires-clause-reduced : goal.put_piece-requires-clause-reduced
put_piece-requires-clause-reduced c = rw c.deref_mut.ensures.value (subst (λ (f : Form). All IsReduced (cells_of f)) c.in-Dense.is c.self.invariant.cube.whole.reduced)

pub invariant_of-self : goal.invariant_of-self
invariant_of-self c =
    elim c.match-self.branch [
      | in-Dense w ↦
          let long : length w.put_piece.new.cells ≡ length w.in-Dense.cells.items = w.put_piece.auto.cells ∙ ap length w.deref_mut.ensures.value in
          rw w.self-inside-is (still-cube c.self.inside.shape c.self.inside.vars c.self.inside.axes.items c.self.inside.form w.in-Dense.cells w.put_piece.new.cells c.self.invariant w.in-Dense.is long
          (rw w.put_piece.ensures (reduced-with_all w.deref.result.now w.deref_mut.result.now (between c.args.from c.args.to c.args.piece.now) (rw w.deref_mut.ensures.value (subst (λ (f : Form). All IsReduced (cells_of f)) w.in-Dense.is c.self.invariant.cube.whole.reduced)))))
      | in_default w ↦ rw w.self-inside-is c.self.invariant
    ]
