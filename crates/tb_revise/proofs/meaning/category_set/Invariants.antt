use Rattle.std.proofs.Common.{◌≡◌, drop}
use Rattle.tb_revise.specs.Meanings.{category_set}
use Rattle.tb_revise.proofs.meaning.category_set.Given as goal

abbrev pub invariant-loop-set : goal.invariant-loop-set
invariant-loop-set l = category_set (drop l.set-index l.sets) l.variable ≡ category_set l.sets l.variable
