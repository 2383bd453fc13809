use Rattle.std.proofs.Common.{◌≡◌, take}
use Rattle.tb_units.proofs.pairs.Pairs.to_list.Given as goal

abbrev pub invariant-loop-i : goal.invariant-loop-i
invariant-loop-i l = l.list.items ≡ take l.i l.self
