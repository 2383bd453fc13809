use Rattle.std.proofs.Common.{◌≡◌, [], map, ◌∙◌, arith}
use Rattle.std.specs.Prelude.{slice_index}
use Rattle.tb_model.specs.RowMajor.{product}
use Rattle.tb_model.specs.Cubes.{cube_of}
use Rattle.tb_cube.proofs.Grid.{there-at}
use Rattle.tb_cube.proofs.Adding.{cube-empty, made-cube}
use Rattle.tb_cube.proofs.cube.Cube.zero.Goals as goal

pub cells_over-requires-clause-there : goal.cells_over-requires-clause-there
cells_over-requires-clause-there c = there-at c.args.shape.now c.args.vars.now c.requires.there

pub returns : goal.returns
returns c =
    let count : c.cells_over.result ≡ product (map (slice_index c.args.shape.now) c.args.vars.now) = omega (arith, c.cells_over.ensures, c.requires.few) in
    let cells : c.in_ok-cells.cells.items ≡ cube_of c.args.shape.now c.args.vars.now [] = c.in_ok-cells.ensures.items_if_clones_equal (λ y h. h) ∙ rw c.empty.ensures (cube-empty c.args.shape.now c.args.vars.now c.cells_over.result count) in
    made-cube c.in_ok-copy.ensures c.in_ok-copy-2.ensures cells
