use Rattle.std.proofs.Common.{arith}
use Rattle.tb_cube.proofs.Holding.{counts-held}
use Rattle.tb_core.proofs.cubes.copy_over.Goals as goal

pub narrow-requires-clause-few : goal.narrow-requires-clause-few
narrow-requires-clause-few c =
    let h = c.requires.holds in omega (arith, counts-held c.args.cube.now h.0 c.vars.ensures.cube.there h.1 h.2, h.3)
