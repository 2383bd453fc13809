use Rattle.std.proofs.Common.{◌≡◌, ◌≤◌, ◌+◌, ◌*◌, length, take}
use Rattle.std.specs.List.{flat_map}
use Rattle.tb_spelling.specs.declared.limits.TheConstants.{MOST_EDIT_BYTES}
use Rattle.tb_spelling.specs.Spelling.{edit_spelled}
use Rattle.tb_spelling.proofs.write.payload_len.Given as goal

abbrev pub invariant-loop-i : goal.invariant-loop-i
invariant-loop-i l = record {
  exact : l.total ≡ 4 + length (flat_map edit_spelled (take l.i l.edits));
  short : l.total ≤ 4 + MOST_EDIT_BYTES * l.i;
}
