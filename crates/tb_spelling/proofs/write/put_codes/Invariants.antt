use Rattle.std.proofs.Common.{◌≡◌, ◌++◌, length, take, All}
use Rattle.std.specs.Int.{w16, to_be_bytes}
use Rattle.std.specs.List.{flat_map}
use Rattle.tb_spelling.specs.Payloads.{InTwoBytes}
use Rattle.tb_spelling.proofs.write.put_codes.Given as goal

abbrev pub invariant-loop-i : goal.invariant-loop-i
invariant-loop-i l = record {
  bytes : l.out.items ≡ l.fn.out.items ++ (to_be_bytes w16 (length l.codes) ++ flat_map (to_be_bytes w16) (take l.i l.codes));
  in_format : All InTwoBytes (take l.i l.codes);
}
