use Rattle.std.proofs.Common.{◌≡◌, drop, length, map}
use Rattle.csv.specs.Records.{fields_of}
use Rattle.tb_base.specs.Lists.{all_some}
use Rattle.tb_rows.specs.Columns.{only_index, indices_of}
use Rattle.tb_base.proofs.AllThere.{then_all}
use Rattle.tb_rows.proofs.format.indices_in.Given as goal

-- the indices so far, with those to come, are all the indices
abbrev pub invariant-loop-i : goal.invariant-loop-i
invariant-loop-i g l = record {
  long : length l.indices.items ≡ l.i;
  indices : then_all l.indices.items (all_some (drop l.i (map (λ name. only_index name (fields_of l.header)) (g.F.FileFormat.format l.format).columns)))
      ≡ indices_of (g.F.FileFormat.format l.format).columns (fields_of l.header);
}
