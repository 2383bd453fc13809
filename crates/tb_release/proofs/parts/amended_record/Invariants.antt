use Rattle.std.proofs.Common.{◌≡◌, length, drop}
use Rattle.tb_release.specs.Edits.{amended}
use Rattle.tb_release.proofs.parts.amended_record.Given as goal

-- the settings that are left lead to the same record as all do
abbrev pub invariant-loop-i : goal.invariant-loop-i
invariant-loop-i l = record {
  rest : amended (drop l.i l.sets) (record l.old { codes = l.list.items }) ≡ amended l.sets l.old;
  long : length l.list.items ≡ length l.old.codes;
}
