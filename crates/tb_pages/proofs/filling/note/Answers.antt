use Rattle.std.proofs.Common.{◌∙◌, ap, arith}
use Rattle.std.proofs.lemmas.List.{take_all}
use Rattle.tb_pages.specs.Fillings.{with_entries}
use Rattle.tb_pages.proofs.Filled.{one_noted, still_new}
use Rattle.tb_pages.proofs.filling.note.Goals as goal

pub push-requires : goal.push-requires
push-requires c =
    still_new c.args.page c.args.records.now c.loop-i.i c.index-records-i.result c.args.lists.now c.loop-i.lists c.requires.distinct c.requires.new c.loop-i-test.true c.index-records-i.is c.loop-i.invariant

pub loop-i-preserved : goal.loop-i-preserved
loop-i-preserved c =
    one_noted c.args.page c.args.records.now c.loop-i.i c.index-records-i.result c.args.lists.now c.loop-i.lists c.push.new.self c.loop-i-test.true c.index-records-i.is c.loop-i.invariant (rw c.of-page.ensures at c.in_ok-push.ensures)

pub returns : goal.returns
returns c =
    let rs = c.args.records.now in
    c.loop-i.invariant ∙ ap (λ xs. with_entries c.args.page xs c.args.lists.now) (take_all c.loop-i.i rs (omega (arith, c.loop-i-test.false)))
