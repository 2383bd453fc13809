use Rattle.std.proofs.Common.{◌≡◌, drop}
use Rattle.std.specs.Prelude.{nat_eq}
use Rattle.std.specs.List.{list_any}
use Rattle.tb_spelling.specs.Payloads.{variables_set}
use Rattle.tb_spelling.proofs.read.is_set.Given as goal

abbrev pub invariant-loop-set : goal.invariant-loop-set
invariant-loop-set l = list_any (nat_eq l.variable) (variables_set (drop l.set-index l.sets)) ≡ list_any (nat_eq l.variable) (variables_set l.sets)
