use Rattle.std.specs.Int.{w16}
use Rattle.tb_spelling.specs.Fields.{number_at, pair_at, many_at}
use Rattle.tb_spelling.proofs.Rereading.{one_more}
use Rattle.tb_spelling.proofs.read.many_settings.Goals as goal

pub loop-preserved : goal.loop-preserved
loop-preserved c =
    rw c.in_ok-push.ensures.ok (one_more (pair_at (number_at w16) (number_at w16)) c.loop.sets.items c.args.count c.loop.counter c.loop.rest.now (many_at (pair_at (number_at w16) (number_at w16)) c.args.count c.args.bytes.now) c.loop.invariant c.in_ok-set.set c.in_ok-set.after.now c.loop-test.true c.in_ok-set.ensures)
