use Rattle.std.proofs.Common.{◌≡◌, drop, map}
use Rattle.tb_base.specs.Lists.{all_some}
use Rattle.tb_base.proofs.AllThere.{then_all}
use Rattle.tb_records.specs.People.{categories_under, category_under}
use Rattle.tb_records.proofs.VariableFields.{pairs}
use Rattle.tb_records.proofs.record.read_categories.Given as goal

-- the categories so far, with those to come, are all the categories
abbrev pub invariant-loop-v : goal.invariant-loop-v
invariant-loop-v l = then_all l.categories.items (all_some (drop l.v (map category_under (pairs l.schema l.fields)))) ≡ categories_under l.schema (drop 2 l.fields)
