use Rattle.std.proofs.Common.{ap, length, arith}
use Rattle.tb_script.proofs.Words.{text-within}
use Rattle.tb_script.proofs.script.take.Goals as goal

pub add-requires-clause-long : goal.add-requires-clause-long
add-requires-clause-long c = omega (arith, text-within c.args.bytes.now, ap length c.in-Some.ensures.2, c.if-bytes-gt-MOST_LINE_BYTES.false)
