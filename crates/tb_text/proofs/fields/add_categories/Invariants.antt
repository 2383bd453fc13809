use Rattle.std.proofs.Common.{map}
use Rattle.std.specs.List.{range_with_len}
use Rattle.tb_model.specs.declared.names.Entry.TheVariants as entry
use Rattle.tb_model.specs.Texts.{entry_text}
use Rattle.tb_text.specs.Lines.{before_another}
use Rattle.tb_text.specs.Spans.{AreParts}
use Rattle.tb_text.proofs.fields.add_categories.Given as goal

abbrev pub invariant-loop-category : goal.invariant-loop-category
invariant-loop-category l =
    AreParts l.text l.spans.items (map (λ k. before_another (entry_text l.schema l.query l.of (entry.Category k))) (range_with_len 0 l.category))
