use Rattle.std.proofs.Common.{◌≡◌, ◌++◌, map}
use Rattle.std.specs.List.{range_with_len}
use Rattle.tb_describe.specs.Lists.{name_record, records_text}
use Rattle.tb_describe.specs.Writers.{IsBetweenRecords, written}
use Rattle.tb_model.specs.declared.names.NameOf.TheVariants as name_of
use Rattle.tb_describe.proofs.lists.add_variables.Given as goal

abbrev pub invariant-loop-v : goal.invariant-loop-v
invariant-loop-v l = record {
  between : IsBetweenRecords l.rows;
  text : written l.rows ≡ written l.fn.rows ++ records_text (map (λ v. name_record l.schema (name_of.Variable v)) (range_with_len 0 l.v));
}
