use Rattle.std.proofs.Common.{◌≡◌, ◌+◌, length}
use Rattle.tb_rows.specs.Formats.{value_from}
use Rattle.tb_rows.proofs.format.read_records.Given as goal

-- what there is so far, and what the records to come make of it, are what all records make
abbrev pub invariant-records : goal.invariant-records
invariant-records g l = record {
  number : g.F.FileFormat.count l.so_far + 1 ≡ l.at;
  known : g.F.FileFormat.Known l.so_far;
  value : value_from (g.F.FileFormat.format l.format) l.width l.indices l.at l.so_far l.to_come ≡ value_from (g.F.FileFormat.format l.format) l.width l.indices 1 l.fn.so_far l.fn.to_come;
}

abbrev pub decreases-records : goal.decreases-records
decreases-records g l = length l.to_come
