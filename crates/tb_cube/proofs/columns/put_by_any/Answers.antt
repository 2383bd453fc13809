use Rattle.std.proofs.Common.{◌≡◌, List, length, take, ap, ◌∙◌}
use Rattle.tb_base.specs.declared.records.Record.{Record}
use Rattle.tb_grid.specs.declared.products.TheConstants.{MOST_CELLS}
use Rattle.tb_base.specs.Pieces.{between}
use Rattle.tb_cube.specs.Axes.{numbers_by}
use Rattle.tb_cube.proofs.ByColumn.{numbers-below}
use Rattle.tb_cube.proofs.Grid.{leads-wider}
use Rattle.tb_cube.proofs.columns.put_by_any.Goals as goal

pub put_all-requires-clause-lead : goal.put_all-requires-clause-lead
put_all-requires-clause-lead c = rw (c.part-records.ensures, c.records.ensures) c.requires.lead

pub write_numbers-all_there-requires-clause-lead : goal.write_numbers-all_there-requires-clause-lead
write_numbers-all_there-requires-clause-lead c = λ k d below. leads-wider (length c.args.cells.now) MOST_CELLS c.args.axes.now _ c.requires.few (c.requires.lead k d below)

pub put_by_numbers-requires-clause-there : goal.put_by_numbers-requires-clause-there
put_by_numbers-requires-clause-there c =
    let part : List Record = between c.args.from c.args.to c.args.piece.now in
    let here : c.part-records.result.now ≡ part = c.part-records.ensures ∙ ap (λ (rs : List Record). between c.args.from c.args.to rs) c.records.ensures in
    let are : take (length c.part-records.result.now) c.write_numbers-all_there.new.numbers ≡ numbers_by c.args.axes.now part =
    ap (λ (rs : List Record). take (length rs) c.write_numbers-all_there.new.numbers) here ∙ c.write_numbers-all_there.ensures c.if-all_there.true in
    numbers-below (length c.args.cells.now) c.args.axes.now part _ are c.requires.lead

pub returns-then-all_there : goal.returns-then-all_there
returns-then-all_there c =
    let part : List Record = between c.args.from c.args.to c.args.piece.now in
    let here : c.part-records.result.now ≡ part = c.part-records.ensures ∙ ap (λ (rs : List Record). between c.args.from c.args.to rs) c.records.ensures in
    c.put_by_numbers.ensures c.args.axes.now part (record {
      lead = c.requires.lead;
      numbers_are = ap (λ (rs : List Record). take (length rs) c.write_numbers-all_there.new.numbers) here ∙ c.write_numbers-all_there.ensures c.if-all_there.true;
      keys_are = c.keys_in-keys.ensures;
    })

pub put_all-requires-else-all_there-clause-lead : goal.put_all-requires-else-all_there-clause-lead
put_all-requires-else-all_there-clause-lead c = rw (c.part-records.ensures, c.records.ensures) c.requires.lead
