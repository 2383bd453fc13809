use Rattle.std.proofs.Common.{◌≡◌, take}
use Rattle.tb_release.proofs.parts.list_of.Given as goal

-- the categories so far
abbrev pub invariant-loop-i : goal.invariant-loop-i
invariant-loop-i l = l.list.items ≡ take l.i l.codes
