use Rattle.std.proofs.Common.{◌≡◌, map, take}
use Rattle.tb_base.proofs.tallies.write_keys.Given as goal

abbrev pub invariant-loop-i : goal.invariant-loop-i
invariant-loop-i l = take l.i l.keys ≡ map (λ r. r.key) (take l.i l.chunk)
