use Rattle.std.proofs.Common.{◌≡◌, List, length}
use Rattle.tb_base.specs.declared.records.Record.{Record}
use Rattle.tb_base.specs.Pieces.{AreColumns}
use Rattle.tb_base.proofs.columns.copy_columns.Given as goal

abbrev pub invariant-loop-column : goal.invariant-loop-column
invariant-loop-column l = record {
  long : length l.copies.items ≡ l.column-index;
  copied : (records : List Record) → AreColumns l.columns records → AreColumns l.copies.items records;
}
