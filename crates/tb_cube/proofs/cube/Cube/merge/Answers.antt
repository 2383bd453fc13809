use Rattle.std.proofs.Common.{◌≡◌, List, true, false, length, sym, ap, ◌∙◌, arith, refl}
use Rattle.std.specs.Vec.{with_items}
use Rattle.std.proofs.lemmas.List.{with_items_is}
use Rattle.tb_base.specs.declared.cells.Cell.{Cell}
use Rattle.tb_base.specs.Cells.{merged_all}
use Rattle.tb_cube.specs.declared.packing.Form.TheVariants.{Dense}
use Rattle.tb_cube.specs.Cubes.{merged_with, CubeValue}
use Rattle.tb_cube.specs.Forms.{is_dense, seen_as}
use Rattle.tb_cube.proofs.Changes.{held-merged}
use Rattle.tb_cube.proofs.Reduced.{reduced-merged_all, still-cube}
use Rattle.tb_cube.proofs.cube.Cube.merge.Goals as goal
use Rattle.tb_cube.proofs.cube.Cube.merge.Goals.{in-Dense, in_default}

pub returns-clause-held : goal.returns-clause-held
returns-clause-held c =
    elim c.match-self.branch [
      | in-Dense w ↦ λ ours theirs held held'.
          let old : CubeValue = seen_as c.self.inside.shape c.self.inside.vars (Dense w.in-Dense.cells) in
          let view : old ≡ c.args.self.now = ap (seen_as c.self.inside.shape c.self.inside.vars) (sym w.in-Dense.is) ∙ c.self.view_is in
          let all : (with_items w.in-Dense.cells w.merge_all.new.cells).items ≡ merged_all w.in-Dense.cells.items c.args.other.now.cells =
          with_items_is w.in-Dense.cells w.merge_all.new.cells (omega (arith, w.merge_all.auto.cells, w.deref_mut.ensures.len))
          ∙ w.merge_all.ensures ∙ ap (λ (cells : List Cell). merged_all cells w.as_slice.result.now) w.deref_mut.ensures.value
          ∙ ap (merged_all w.in-Dense.cells.items) (w.as_slice.ensures ∙ ap (λ (v : CubeValue). v.cells) c.other.view_is) in
          let is : ◌≡◌ {A = CubeValue} (seen_as c.match-self.self-inside.shape c.match-self.self-inside.vars c.match-self.self-inside.form) (merged_with c.args.self.now c.args.other.now.cells) =
          rw (w.self-inside-is, ← view, all) refl in
          held-merged c.args.self.now c.args.other.now _ ours theirs is c.requires.shape c.requires.vars held held'
      | in_default w ↦
          let clash : false ≡ true = sym (ap is_dense w.in_default.is) ∙ ap (λ (v : CubeValue). v.dense) c.self.view_is ∙ c.requires.dense in
          absurd (let none : ⊥ = cc in none)
    ]

pub invariant_of-self : goal.invariant_of-self
invariant_of-self c =
    elim c.match-self.branch [
      | in-Dense w ↦
          let long : length w.merge_all.new.cells ≡ length w.in-Dense.cells.items = w.merge_all.auto.cells ∙ ap length w.deref_mut.ensures.value in
          rw w.self-inside-is (still-cube c.self.inside.shape c.self.inside.vars c.self.inside.axes.items c.self.inside.form w.in-Dense.cells w.merge_all.new.cells c.self.invariant w.in-Dense.is long
          (rw w.merge_all.ensures (reduced-merged_all w.deref_mut.result.now w.as_slice.result.now)))
      | in_default w ↦ rw w.self-inside-is c.self.invariant
    ]
