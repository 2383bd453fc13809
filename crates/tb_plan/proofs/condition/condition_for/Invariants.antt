use Rattle.std.proofs.Common.{◌≡◌, map}
use Rattle.std.specs.List.{range_with_len}
use Rattle.tb_model.specs.Queries.{passes}
use Rattle.tb_plan.proofs.condition.condition_for.Given as goal

abbrev pub invariant-loop-category : goal.invariant-loop-category
invariant-loop-category l = l.passed.items ≡ map (λ c. passes l.schema l.filter (λ _. c)) (range_with_len 0 l.category)
