use Rattle.std.proofs.Common.{◌≡◌, ℕ, ◌<◌, length, inl, inr, arith, ap, ◌∙◌}
use Rattle.std.specs.Prelude.{slice_index}
use Rattle.std.proofs.lemmas.Bool.{cases_lt}
use Rattle.std.proofs.lemmas.List.FromFn.{length-map-range_with_len, get_or-map-range_with_len}
use Rattle.tb_model.specs.Schemas.{recoded, shape_of}
use Rattle.tb_plan.proofs.Parts.{push-range}
use Rattle.tb_plan.proofs.dimension.dimension_for.Goals as goal

pub loop-category-preserved : goal.loop-category-preserved
loop-category-preserved c = record {
  entries = push-range (recoded c.args.schema.now c.args.of) c.loop-category.category c.loop-category.entries.items c.push.new.self.items c.recoded_category.result c.loop-category.invariant.entries c.recoded_category.ensures.category c.in_ok-push.ensures.items;
  within = λ k below. elim (cases_lt k c.loop-category.category) [
    | inl h ↦ c.loop-category.invariant.within k h
    | inr h ↦ let here : k ≡ c.loop-category.category = omega arith in rw (here, ← c.recoded_category.ensures.category) c.recoded_category.ensures.within
  ];
}

pub returns-clause-is : goal.returns-clause-is
returns-clause-is c =
    let n : ℕ = c.loop-category.category in
    let long : length c.loop-category.entries.items ≡ n = ap length c.loop-category.invariant.entries ∙ length-map-range_with_len (recoded c.args.schema.now c.args.of) 0 n in
    let ended : n ≡ c.at-category-end.result = omega arith in
    let count : c.at-category-end.result ≡ slice_index (shape_of c.args.schema.now) c.base_variable-variable.result = c.at-category-end.ensures ∙ ap (λ s. slice_index s c.base_variable-variable.result) c.shape.ensures in
    record {
      there = c.base_variable-variable.ensures.there;
      long = long ∙ ended ∙ count;
      within = λ k below.
          let low : k < n = omega (arith, below, long) in
          rw (c.loop-category.invariant.entries, get_or-map-range_with_len (recoded c.args.schema.now c.args.of) 0 n k k 0 low (omega arith), c.categories.ensures) (c.loop-category.invariant.within k low);
      some = rw c.categories.ensures c.requires.some;
    }
