use Rattle.std.proofs.Common.{◌≡◌, ◌++◌, length, take, All}
use Rattle.std.specs.Int.{w16, to_be_bytes}
use Rattle.std.specs.List.{flat_map}
use Rattle.tb_spelling.specs.Payloads.{IsSetting}
use Rattle.tb_spelling.specs.Spelling.{setting}
use Rattle.tb_spelling.proofs.write.put_sets.Given as goal

abbrev pub invariant-loop-i : goal.invariant-loop-i
invariant-loop-i l = record {
  bytes : l.out.items ≡ l.fn.out.items ++ (to_be_bytes w16 (length l.sets) ++ flat_map setting (take l.i l.sets));
  in_format : All IsSetting (take l.i l.sets);
}
