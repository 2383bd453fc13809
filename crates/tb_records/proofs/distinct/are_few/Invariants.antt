use Rattle.std.proofs.Common.{◌≡◌, ◌≤◌, length, take}
use Rattle.std.specs.Prelude.{flat_map}
use Rattle.tb_records.proofs.distinct.are_few.Given as goal

abbrev pub invariant-loop-list : goal.invariant-loop-list
invariant-loop-list l = (l.count ≡ length (flat_map (λ list. list.items) (take l.list-index l.lists))) × (l.count ≤ l.most)
