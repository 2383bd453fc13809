use Rattle.std.proofs.Common.{◌≡◌, ◌++◌, ◌∷◌}
use Rattle.std.proofs.Common.{◌<◌, length, drop}
use Rattle.tb_text.specs.Writers.{IsWithinRecord, fields_from}
use Rattle.tb_text.proofs.PlaceLines.{names_under}
use Rattle.tb_text.proofs.table.written_names.Given as goal

abbrev pub invariant-loop-of : goal.invariant-loop-of
invariant-loop-of l = record {
  within : IsWithinRecord l.rows;
  some : 0 < length (fields_from l.base l.rows);
  names : fields_from l.base l.rows ++ names_under l.schema (drop l.of-index l.of-items) ≡ 44 ∷ names_under l.schema l.of-items;
}
