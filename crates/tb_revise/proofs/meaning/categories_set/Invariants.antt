use Rattle.std.proofs.Common.{◌≡◌, drop, map}
use Rattle.std.specs.List.{range_with_len}
use Rattle.tb_base.specs.Lists.{all_some}
use Rattle.tb_base.proofs.AllThere.{then_all}
use Rattle.tb_revise.specs.Meanings.{categories_set, category_set}
use Rattle.tb_revise.proofs.meaning.categories_set.Given as goal

-- the categories so far, with those to come, are all the categories
abbrev pub invariant-loop-v : goal.invariant-loop-v
invariant-loop-v l = then_all l.categories.items (all_some (drop l.v (map (category_set l.sets) (range_with_len 0 l.variables)))) ≡ categories_set l.sets l.variables
