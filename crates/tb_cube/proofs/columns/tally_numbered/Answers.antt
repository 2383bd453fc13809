use Rattle.std.proofs.Common.{[], length, refl, arith}
use Rattle.tb_base.proofs.TallyLemmas.{chunk-put, none-put}
use Rattle.tb_cube.proofs.ByColumn.{as-many}
use Rattle.tb_cube.proofs.Tallied.{number, tallied-all}
use Rattle.tb_cube.proofs.columns.tally_numbered.Goals as goal

pub returns : goal.returns
returns c = λ axes records are.
    let many = as-many axes records (length c.args.cells.now) c.args.numbers.now c.args.keys.now are in
    tallied-all axes c.args.cells.now c.add_tallies.new.cells records c.add_tallies.auto.cells are.lead
    (λ i d below. omega (arith, c.requires.room i d below, many))
    (c.know_cells.ensures c.requires.reduced) (c.know_cells-2.ensures c.add_tallies.ensures.reduced)
    (chunk-put (number axes) c.args.cells.now c.args.cells.now c.add_tallies.new.cells [] records c.args.numbers.now c.args.keys.now refl are.numbers_are are.keys_are c.add_tallies.ensures.tallied
    (none-put (number axes) c.args.cells.now))
