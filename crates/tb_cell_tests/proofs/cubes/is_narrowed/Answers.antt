use Rattle.std.proofs.Common.{arith}
use Rattle.tb_cube.proofs.Holding.{counts-held}
use Rattle.tb_cell_tests.proofs.cubes.is_narrowed.Goals as goal

-- the cells count the records of the release
pub narrow-requires-clause-few : goal.narrow-requires-clause-few
narrow-requires-clause-few c =
    omega (arith, counts-held c.args.cube.now c.args.release.now.records c.vars.ensures.cube.there c.requires.fit c.requires.holds, c.soundness.ensures.few, c.soundness.ensures.most)
