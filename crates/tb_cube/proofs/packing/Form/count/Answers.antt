use Rattle.std.proofs.Common.{length, sym, ap, ◌∙◌}
use Rattle.std.proofs.lemmas.List.FromFn.{length-map-range_with_len}
use Rattle.tb_cube.specs.declared.packing.Form.{Form}
use Rattle.tb_cube.specs.Forms.{cells_of}
use Rattle.tb_cube.specs.Packing.{cell_at}
use Rattle.tb_cube.proofs.packing.Form.count.Goals as goal

pub returns-in-Packed : goal.returns-in-Packed
returns-in-Packed c =
    sym (ap (λ (f : Form). length (cells_of f)) c.in-Packed.is ∙ length-map-range_with_len (cell_at c.in-Packed.kept.items) 0 c.in-Packed.long)
