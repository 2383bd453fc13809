use Rattle.std.proofs.Common.{◌≡◌, length, take}
use Rattle.std.specs.Prelude.{flat_map}
use Rattle.tb_pages.proofs.cutting.total.Given as goal

-- the records of the lists so far
abbrev pub invariant-loop-list : goal.invariant-loop-list
invariant-loop-list l = l.count ≡ length (flat_map (λ list. list.items) (take l.list-index l.lists))
