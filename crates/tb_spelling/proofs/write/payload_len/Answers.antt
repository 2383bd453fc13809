use Rattle.std.proofs.Common.{arith, ap, length, take, length-append}
use Rattle.std.specs.List.{flat_map}
use Rattle.tb_spelling.specs.Spelling.{edit_spelled}
use Rattle.tb_spelling.proofs.OneMore.{flat_map-taken}
use Rattle.tb_spelling.proofs.write.payload_len.Goals as goal

pub loop-i-preserved : goal.loop-i-preserved
loop-i-preserved c = record {
  exact = omega (arith, c.loop-i.invariant.exact, c.edit_len-total.ensures.len, ap length (flat_map-taken edit_spelled c.args.edits.now c.loop-i.i c.at.result.now c.at.ensures), length-append (flat_map edit_spelled (take c.loop-i.i c.args.edits.now)) (edit_spelled c.at.result.now));
  short = omega (arith, c.loop-i.invariant.short, c.edit_len-total.ensures.short);
}
