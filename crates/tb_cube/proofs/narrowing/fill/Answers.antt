use Rattle.std.proofs.Common.{ap, ◌∙◌, arith}
use Rattle.tb_base.specs.Cells.{empty_cell}
use Rattle.tb_base.specs.Parts.{part, part_at, modulus}
use Rattle.tb_base.proofs.PartLemmas.{empty-part}
use Rattle.tb_cube.proofs.Narrowed.{from-empty}
use Rattle.tb_cube.proofs.narrowing.fill.Goals as goal

pub returns : goal.returns
returns c = λ p i below.
    from-empty (modulus p) (part_at p c.args.cells.now i) (part_at p c.add_form.new.cells i) (part_at p c.reduce_keys.new.cells i) _
    (ap (part p) (c.requires.empty i empty_cell below) ∙ empty-part p) (c.add_form.ensures p i below)
    (c.reduce_keys.ensures p i (omega (arith, below, c.add_form.auto.cells)))
