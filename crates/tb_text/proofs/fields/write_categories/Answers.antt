use Rattle.std.proofs.Common.{◌≡◌, ℕ, List, ◌++◌, ◌∙◌, ap, length, arith, length-append}
use Rattle.std.proofs.lemmas.List.FromFn.{map-range_with_len_more}
use Rattle.tb_model.specs.declared.names.Entry.TheVariants as entry
use Rattle.tb_model.specs.Texts.{entry_text}
use Rattle.tb_text.specs.Lines.{before_another}
use Rattle.tb_text.specs.Writers.{fields_from}
use Rattle.tb_text.proofs.SpanFacts.{parts_and_one}
use Rattle.tb_text.proofs.fields.write_categories.Goals as goal

pub loop-category-preserved : goal.loop-category-preserved
loop-category-preserved c =
    let field : ℕ → List ℕ = λ k. before_another (entry_text c.args.schema.now c.args.query.now c.args.of (entry.Category k)) in
    let grown : fields_from c.args.base c.write_one.new.rows ≡ fields_from c.args.base c.loop-category.rows ++ field c.loop-category.category =
    c.in_ok-span.ensures.text ∙ ap (λ t. fields_from c.args.base c.loop-category.rows ++ before_another t) (c.as_bytes.ensures.value ∙ c.category_text-text.ensures) in
    record {
      within = c.in_ok-span.ensures.within;
      some = omega (arith, c.loop-category.invariant.some, ap length grown, length-append (fields_from c.args.base c.loop-category.rows) (field c.loop-category.category));
      fields =
          rw (map-range_with_len_more field 0 c.loop-category.category c.loop-category.category (omega arith))
          (parts_and_one (fields_from c.args.base c.loop-category.rows) (fields_from c.args.base c.write_one.new.rows) (field c.loop-category.category)
          c.loop-category.spans.items c.push.new.self.items c.in_ok-span.span _ c.loop-category.invariant.fields grown c.in_ok-span.ensures.start c.in_ok-span.ensures.end c.in_ok-push.ensures.items);
    }
