use Rattle.std.proofs.Common.{◌≡◌, ◌++◌, take, All}
use Rattle.std.specs.List.{flat_map}
use Rattle.tb_spelling.specs.Payloads.{IsInFormat}
use Rattle.tb_spelling.specs.Spelling.{edit_spelled}
use Rattle.tb_spelling.proofs.write.spell_behind.Given as goal

abbrev pub invariant-loop-i : goal.invariant-loop-i
invariant-loop-i l = record {
  bytes : l.out.items ≡ l.initial.out.items ++ flat_map edit_spelled (take l.i l.edits);
  in_format : All IsInFormat (take l.i l.edits);
}
