use Rattle.std.proofs.Common.{map, take}
use Rattle.std.specs.Prelude.{flat_map}
use Rattle.tb_records.specs.Rising.{RiseTo}
use Rattle.tb_records.proofs.distinct.ascend.Given as goal

abbrev pub invariant-loop-list : goal.invariant-loop-list
invariant-loop-list l = RiseTo l.last (map (λ r. r.person) (flat_map (λ list. list.items) (take l.list-index l.lists)))
