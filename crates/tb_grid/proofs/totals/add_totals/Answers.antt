use Rattle.std.proofs.Common.{arith}
use Rattle.tb_base.specs.Parts.{part_at, modulus}
use Rattle.tb_grid.proofs.Blocks.{whole-block}
use Rattle.tb_grid.proofs.totals.add_totals.Goals as goal

pub returns : goal.returns
returns c = λ p i below.
    whole-block c.args.sizes.now (modulus p) (part_at p c.args.cells.now) (part_at p c.signed_from.new.cells) i
    (c.signed_from.ensures p 0 i (omega arith) (omega arith))
