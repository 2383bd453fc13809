use Rattle.std.proofs.Common.{ap, length, arith}
use Rattle.std.proofs.lemmas.List.Folds.{length-flat_map-take}
use Rattle.tb_records.proofs.distinct.are_few.Goals as goal

pub returns-then-len-most : goal.returns-then-len-most
returns-then-len-most c =
    let there = length-flat_map-take (λ list. list.items) c.args.lists.now c.loop-list.list-index c.list-item.result c.loop-list-test.true in
    omega (arith, there, ap (λ list. length list.items) c.list-item.is, c.len.ensures, c.loop-list.invariant.0, c.loop-list.invariant.1, c.if-len-most.true)
