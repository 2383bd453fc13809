use Rattle.std.proofs.Common.{ℕ, ◌<◌, ◌≤◌}
use Rattle.tb_units.specs.Pairs.{pair_at}
use Rattle.tb_units.proofs.slots.greatest_person.Given as goal

abbrev pub invariant-loop-k : goal.invariant-loop-k
invariant-loop-k l = (k : ℕ) → k < l.k → (pair_at l.links k).0 ≤ l.greatest
