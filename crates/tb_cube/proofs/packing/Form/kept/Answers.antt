use Rattle.std.proofs.Common.{◌≡◌, length, ap, subst, ◌∙◌, arith}
use Rattle.tb_cube.specs.Forms.{AreKept}
use Rattle.tb_cube.specs.Packing.{all_cells}
use Rattle.tb_cube.proofs.Packed.{length-kept}
use Rattle.tb_cube.proofs.packing.Form.kept.Goals as goal

pub returns-in-Packed : goal.returns-in-Packed
returns-in-Packed c =
    let all = subst AreKept c.in-Packed.is c.requires in
    let long : c.len-in-Packed.result ≡ length c.in-Packed.kept.items = omega (arith, c.len-in-Packed.ensures, c.in-Packed.kept.ok.0) in
    rw c.in-Packed.is (long ∙ ap length all ∙ length-kept 0 (all_cells c.in-Packed.long c.in-Packed.kept.items))
