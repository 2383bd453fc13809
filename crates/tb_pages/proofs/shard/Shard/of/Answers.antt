use Rattle.tb_pages.proofs.ListLemmas.{apart-sorted, held-sorted, rise-sorted}
use Rattle.tb_pages.proofs.shard.Shard.of.Goals as goal

pub invariant_of-result : goal.invariant_of-result
invariant_of-result c =
    rise-sorted c.sort.new.list.items (apart-sorted c.args.list.items c.sort.new.list.items c.sort.ensures.same c.requires) c.sort.ensures.up

pub returns : goal.returns
returns c = held-sorted c.args.list.items c.sort.new.list.items c.sort.ensures.same c.requires
