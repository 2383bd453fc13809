use Rattle.std.proofs.Common.{◌<◌, length, map}
use Rattle.std.specs.List.{range_with_len}
use Rattle.tb_model.specs.declared.names.Entry.TheVariants as entry
use Rattle.tb_model.specs.Texts.{entry_text}
use Rattle.tb_text.specs.Lines.{before_another}
use Rattle.tb_text.specs.Spans.{AreParts}
use Rattle.tb_text.specs.Writers.{IsWithinRecord, fields_from}
use Rattle.tb_text.proofs.fields.write_categories.Given as goal

abbrev pub invariant-loop-category : goal.invariant-loop-category
invariant-loop-category l = record {
  within : IsWithinRecord l.rows;
  some : 0 < length (fields_from l.base l.rows);
  fields : AreParts (fields_from l.base l.rows) l.spans.items (map (λ k. before_another (entry_text l.schema l.query l.of (entry.Category k))) (range_with_len 0 l.category));
}
