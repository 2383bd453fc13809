use Rattle.std.proofs.Common.{ℕ, List, ◌++◌, map, take}
use Rattle.tb_records.specs.Rising.{RiseTo}
use Rattle.tb_records.proofs.distinct.last_risen.Given as goal

abbrev pub invariant-loop-one : goal.invariant-loop-one
invariant-loop-one l = (before : List ℕ) → RiseTo l.above before → RiseTo l.last (before ++ map (λ r. r.person) (take l.one-index l.records))
