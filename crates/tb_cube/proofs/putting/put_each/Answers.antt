use Rattle.std.proofs.Common.{length, ◌≡◌, ◌<◌, arith}
use Rattle.tb_base.specs.Cells.{empty_cell, with_key}
use Rattle.tb_grid.specs.declared.products.TheConstants.{MOST_CELLS}
use Rattle.tb_cube.specs.Axes.{LeadsBelow}
use Rattle.tb_cube.proofs.Grid.{leads-wider}
use Rattle.tb_cube.proofs.Adding.{at-item, made-with, number-any, rest-put, room-left}
use Rattle.tb_cube.proofs.putting.put_each.Goals as goal

pub number_of-number-requires : goal.number_of-number-requires
number_of-number-requires c = leads-wider (length c.args.cells.now) MOST_CELLS c.args.axes.now c.one-item.result c.requires.few (at-item (LeadsBelow (length c.args.cells.now) c.args.axes.now) c.args.piece.now c.loop-one.one-index c.one-item.result c.requires.lead c.loop-one-test.true c.one-item.is)

pub offset_bounds-cells-number : goal.offset_bounds-cells-number
offset_bounds-cells-number c = omega (
  arith,
  (number-any c.args.axes.now c.args.cells.now c.loop-one.cells c.args.piece.now
      c.loop-one.one-index c.one-item.result c.requires.lead c.loop-one-test.true c.one-item.is c.loop-one.auto.cells
      c.number_of-number.result c.number_of-number.ensures).there,
  c.requires.few,
  c.loop-one.auto.cells,
)

pub bounds-cells-number : goal.bounds-cells-number
bounds-cells-number c = omega (
  arith,
  (number-any c.args.axes.now c.args.cells.now c.loop-one.cells c.args.piece.now c.loop-one.one-index
      c.one-item.result c.requires.lead c.loop-one-test.true c.one-item.is c.loop-one.auto.cells c.number_of-number.result
      c.number_of-number.ensures).there,
)

pub loop-one-preserved : goal.loop-one-preserved
loop-one-preserved c =
    let n = c.number_of-number.result in
    let there : n < length c.loop-one.cells = (number-any c.args.axes.now c.args.cells.now c.loop-one.cells c.args.piece.now c.loop-one.one-index c.one-item.result c.requires.lead
    c.loop-one-test.true c.one-item.is c.loop-one.auto.cells n c.number_of-number.ensures).there in
    let made = made-with c.loop-one.cells n c.loop-one.one-index (length c.args.piece.now) c.one-item.result.key c.put.new.self there c.loop-one-test.true c.loop-one.invariant.room c.put.ensures.exact in
    record {
      with_them = rest-put c.args.axes.now c.args.cells.now c.loop-one.cells c.args.piece.now c.loop-one.one-index n c.one-item.result c.put.new.self c.loop-one-test.true c.one-item.is
          c.number_of-number.ensures made c.loop-one.invariant.with_them;
      room = room-left c.loop-one.cells n c.loop-one.one-index (length c.args.piece.now) c.one-item.result.key c.put.new.self there c.loop-one-test.true c.loop-one.invariant.room made;
    }
