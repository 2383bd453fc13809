use Rattle.std.proofs.Common.{◌≡◌, drop}
use Rattle.tb_core.specs.Fitting.{are_there}
use Rattle.tb_core.proofs.fitting.are_there.Given as goal

-- the variables that are left are there exactly where all are
abbrev pub invariant-loop-i : goal.invariant-loop-i
invariant-loop-i l = are_there l.shape (drop l.i l.vars) ≡ are_there l.shape l.vars
