use Rattle.std.proofs.Common.{◌≡◌, List, ◌+◌, ◌%◌, length, subst, sym, ap, ◌∙◌, arith}
use Rattle.std.proofs.lemmas.List.FromFn.{length-map-range_with_len}
use Rattle.tb_base.specs.Parts.{part_at, modulus}
use Rattle.tb_base.proofs.PartLemmas.{nothing}
use Rattle.tb_cube.specs.declared.packing.Form.{Form}
use Rattle.tb_cube.specs.declared.packing.KeptCell.{KeptCell}
use Rattle.tb_cube.specs.Forms.{cells_of, AreKept}
use Rattle.tb_cube.specs.Narrowing.{forks_of}
use Rattle.tb_cube.specs.Packing.{cell_at, kept_from}
use Rattle.tb_cube.specs.Walks.{kept_spread, Fork}
use Rattle.tb_cube.proofs.Kept.{spread-kept}
use Rattle.tb_cube.proofs.Walks.{spread-none}
use Rattle.tb_cube.proofs.narrowing.add_form.Goals as goal

pub returns-then-long-gt0 : goal.returns-then-long-gt0
returns-then-long-gt0 c = λ p i below.
    let forks : List Fork = forks_of c.args.steps.now in
    let kept : c.in-Packed.kept.items ≡ kept_from 0 (cells_of c.args.form.now) =
    subst AreKept c.in-Packed.is c.requires.kept ∙ ap (λ (f : Form). kept_from 0 (cells_of f)) (sym c.in-Packed.is) in
    c.add_kept.ensures p i below
    ∙ ap (λ (ks : List KeptCell). (part_at p c.args.cells.now i + kept_spread forks p ks i) % modulus p) c.deref-then-long-gt0.ensures.value
    ∙ ap (λ x. (part_at p c.args.cells.now i + x) % modulus p) (sym (spread-kept forks p (cells_of c.args.form.now) c.in-Packed.kept.items i kept c.requires.whole))

pub returns-else-long-gt0 : goal.returns-else-long-gt0
returns-else-long-gt0 c = λ p i below.
    let long : length (cells_of c.args.form.now) ≡ c.in-Packed.long = ap (λ (f : Form). length (cells_of f)) c.in-Packed.is ∙ length-map-range_with_len (cell_at c.in-Packed.kept.items) 0 c.in-Packed.long in
    nothing (modulus p) (part_at p c.args.cells.now i) _ (spread-none (forks_of c.args.steps.now) (part_at p (cells_of c.args.form.now)) 0 0 i (omega (arith, c.requires.whole, long, c.if-long-gt0.false)))
