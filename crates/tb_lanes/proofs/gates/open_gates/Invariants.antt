use Rattle.std.proofs.Common.{◌≡◌, length}
use Rattle.tb_lanes.proofs.gates.open_gates.Given as goal

-- so many gates so far
abbrev pub invariant-loop : goal.invariant-loop
invariant-loop l = length l.gates.items ≡ l.counter
