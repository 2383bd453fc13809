use Rattle.tb_cube.proofs.Grid.{there-at}
use Rattle.tb_cube.proofs.axes.axes_of.Goals as goal

pub cells_over-requires-clause-there : goal.cells_over-requires-clause-there
cells_over-requires-clause-there c = there-at c.args.shape.now c.args.vars.now c.requires
