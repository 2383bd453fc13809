use Rattle.std.proofs.Common.{◌≡◌, ◌++◌, map}
use Rattle.std.specs.List.{range_with_len}
use Rattle.tb_describe.specs.Lists.{category_record, records_text}
use Rattle.tb_describe.specs.Writers.{IsBetweenRecords, written}
use Rattle.tb_describe.proofs.lists.add_categories.Given as goal

abbrev pub invariant-loop-category : goal.invariant-loop-category
invariant-loop-category l = record {
  between : IsBetweenRecords l.rows;
  text : written l.rows ≡ written l.fn.rows ++ records_text (map (category_record l.schema l.of) (range_with_len 0 l.category));
}
