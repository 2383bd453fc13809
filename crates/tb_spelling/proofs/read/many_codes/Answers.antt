use Rattle.std.specs.Int.{w16}
use Rattle.tb_spelling.specs.Fields.{number_at, many_at}
use Rattle.tb_spelling.proofs.Rereading.{one_more}
use Rattle.tb_spelling.proofs.read.many_codes.Goals as goal

pub loop-preserved : goal.loop-preserved
loop-preserved c =
    rw c.in_ok-push.ensures.ok (one_more (number_at w16) c.loop.codes.items c.args.count c.loop.counter c.loop.rest.now (many_at (number_at w16) c.args.count c.args.bytes.now) c.loop.invariant c.in_ok-code.code c.in_ok-code.after.now c.loop-test.true c.in_ok-code.ensures)
