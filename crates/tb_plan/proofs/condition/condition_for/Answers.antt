use Rattle.std.proofs.Common.{◌≡◌, ℕ, length, ap, ◌∙◌, arith}
use Rattle.std.specs.Prelude.{slice_index}
use Rattle.std.proofs.lemmas.List.FromFn.{length-map-range_with_len}
use Rattle.tb_model.specs.Schemas.{shape_of}
use Rattle.tb_model.specs.Queries.{passes}
use Rattle.tb_plan.proofs.Parts.{push-range}
use Rattle.tb_plan.proofs.condition.condition_for.Goals as goal

pub loop-category-preserved : goal.loop-category-preserved
loop-category-preserved c = push-range (λ k. passes c.args.schema.now c.args.filter.now (λ _. k)) c.loop-category.category c.loop-category.passed.items c.push.new.self.items c.passes_at.result c.loop-category.invariant c.passes_at.ensures c.in_ok-push.ensures.items

pub returns-clause-is : goal.returns-clause-is
returns-clause-is c =
    let n : ℕ = c.loop-category.category in
    let long : length c.loop-category.passed.items ≡ n = ap length c.loop-category.invariant ∙ length-map-range_with_len (λ k. passes c.args.schema.now c.args.filter.now (λ _. k)) 0 n in
    let ended : n ≡ c.at-category-end.result = omega arith in
    let count : c.at-category-end.result ≡ slice_index (shape_of c.args.schema.now) c.base_variable-variable.result = c.at-category-end.ensures ∙ ap (λ s. slice_index s c.base_variable-variable.result) c.shape.ensures in
    record { there = c.base_variable-variable.ensures.there; long = long ∙ ended ∙ count }
