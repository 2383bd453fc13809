use Rattle.std.proofs.Common.{◌≡◌, ℕ, ◌<◌, map}
use Rattle.std.specs.List.{range_with_len}
use Rattle.tb_model.specs.Schemas.{recoded, category_count}
use Rattle.tb_plan.proofs.dimension.dimension_for.Given as goal

abbrev pub invariant-loop-category : goal.invariant-loop-category
invariant-loop-category l = record {
  entries : l.entries.items ≡ map (recoded l.schema l.of) (range_with_len 0 l.category);
  within : (k : ℕ) → k < l.category → recoded l.schema l.of k < category_count l.schema l.of;
}
