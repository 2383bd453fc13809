use Rattle.std.proofs.Common.{◌<◌, length, sym, ◌∙◌, arith}
use Rattle.std.proofs.lemmas.List.{ext_get_or}
use Rattle.tb_base.specs.Cells.{empty_cell, merged_all}
use Rattle.tb_grid.proofs.Merges.{length-merged_all, get_or-merged_all}
use Rattle.tb_cube.proofs.merging.merge_all.Goals as goal

pub returns : goal.returns
returns c =
    ext_get_or empty_cell c.loop-i.cells (merged_all c.args.cells.now c.args.others.now) (c.loop-i.auto.cells ∙ sym (length-merged_all c.args.cells.now c.args.others.now c.requires.long)) (λ k below.
    let low : k < length c.args.cells.now = omega (arith, below, c.loop-i.auto.cells) in
    c.loop-i.invariant.merged_so_far k (omega (arith, low, c.loop-i-test.false)) ∙ sym (get_or-merged_all c.args.cells.now c.args.others.now k empty_cell c.requires.long low))
