use Rattle.std.proofs.Common.{◌≡◌, ℕ, List, ◌++◌, ◌∙◌, ap, arith}
use Rattle.std.proofs.lemmas.List.FromFn.{map-range_with_len_more}
use Rattle.tb_model.specs.declared.names.Entry.TheVariants as entry
use Rattle.tb_model.specs.Texts.{entry_text}
use Rattle.tb_text.specs.Lines.{before_another}
use Rattle.tb_text.proofs.SpanFacts.{parts_and_one}
use Rattle.tb_text.proofs.fields.add_categories.Goals as goal

pub loop-category-preserved : goal.loop-category-preserved
loop-category-preserved c =
    let field : ℕ → List ℕ = λ k. before_another (entry_text c.args.schema.now c.args.query.now c.args.of (entry.Category k)) in
    let text : c.add_plain.new.text ≡ c.loop-category.text ++ before_another c.as_bytes.result.now = rw c.in-Some.is at c.in_ok-found.ensures.text in
    let grown : c.add_plain.new.text ≡ c.loop-category.text ++ field c.loop-category.category =
    text ∙ ap (λ t. c.loop-category.text ++ before_another t) (c.as_bytes.ensures.value ∙ c.category_text-field.ensures) in
    rw (map-range_with_len_more field 0 c.loop-category.category c.loop-category.category (omega arith))
    (parts_and_one c.loop-category.text c.add_plain.new.text (field c.loop-category.category)
    c.loop-category.spans.items c.push.new.self.items c.in-Some.span _ c.loop-category.invariant grown (rw c.in-Some.is at c.in_ok-found.ensures.start) (rw c.in-Some.is at c.in_ok-found.ensures.end) c.in_ok-push.ensures.items)
