use Rattle.std.proofs.Common.{◌≡◌, ◌++◌, map, take}
use Rattle.tb_records.proofs.distinct.add_persons.Given as goal

abbrev pub invariant-loop-one : goal.invariant-loop-one
invariant-loop-one l = l.persons.items ≡ l.initial.persons.items ++ map (λ r. r.person) (take l.one-index l.records)
