use Rattle.std.proofs.Common.{◌≡◌}
use Rattle.std.specs.Prelude.{Some, slice_get}
use Rattle.tb_release.proofs.Reaching.{follows_here, price_within, reached_next}
use Rattle.tb_release.proofs.RevisedChains.{stands_at}
use Rattle.tb_release.proofs.replaying.replay.Goals as goal

pub follow-requires-clause-follows : goal.follow-requires-clause-follows
follow-requires-clause-follows g c =
    let there : slice_get c.args.batches.now c.loop-i.i ≡ Some c.deref.result.now = rw c.deref.ensures c.at-batch.ensures in
    let at = stands_at c.args.base.now c.args.batches.now c.loop-i.i c.deref.result.now c.soundness.ensures c.requires.chain there in
    follows_here c.args.base.now c.args.batches.now c.loop-i.i c.deref.result.now c.loop-i.reached at c.loop-i.invariant.same

pub returns-in_err-follow-clause-price : goal.returns-in_err-follow-clause-price
returns-in_err-follow-clause-price g c =
    let there : slice_get c.args.batches.now c.loop-i.i ≡ Some c.deref.result.now = rw c.deref.ensures c.at-batch.ensures in
    let at = stands_at c.args.base.now c.args.batches.now c.loop-i.i c.deref.result.now c.soundness.ensures c.requires.chain there in
    (price_within c.args.base.now c.args.batches.now c.loop-i.i c.args.n c.deref.result.now c.args.steps.now c.loop-i.steps c.follow.new.steps at c.loop-i-test.true c.loop-i.invariant.charge c.follow.ensures.charge).1

pub loop-i-preserved : goal.loop-i-preserved
loop-i-preserved g c =
    let there : slice_get c.args.batches.now c.loop-i.i ≡ Some c.deref.result.now = rw c.deref.ensures c.at-batch.ensures in
    let at = stands_at c.args.base.now c.args.batches.now c.loop-i.i c.deref.result.now c.soundness.ensures c.requires.chain there in
    let led = c.in_ok-follow.ensures.led in record {
      same = reached_next c.args.base.now c.args.batches.now c.loop-i.i c.deref.result.now c.loop-i.reached c.follow.new.self at c.loop-i.invariant.same led;
      whole = led.whole;
      charge = (price_within c.args.base.now c.args.batches.now c.loop-i.i c.args.n c.deref.result.now c.args.steps.now c.loop-i.steps c.follow.new.steps at c.loop-i-test.true c.loop-i.invariant.charge c.follow.ensures.charge).0;
    }
