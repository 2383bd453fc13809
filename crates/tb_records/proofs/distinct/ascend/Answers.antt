use Rattle.std.proofs.Common.{map, take, subst, sym}
use Rattle.std.specs.Prelude.{flat_map}
use Rattle.tb_records.specs.Rising.{RiseTo}
use Rattle.tb_records.proofs.Rising.{persons-more}
use Rattle.tb_records.proofs.distinct.ascend.Goals as goal

pub loop-list-preserved : goal.loop-list-preserved
loop-list-preserved c =
    let lists = c.args.lists.now in
    let i = c.loop-list.list-index in
    subst (RiseTo c.in-Some.next) (sym (persons-more lists i c.list-item.result c.loop-list-test.true c.list-item.is))
    (rw c.deref.ensures.value at c.in-Some.ensures (map (λ r. r.person) (flat_map (λ list. list.items) (take i lists))) c.loop-list.invariant)
