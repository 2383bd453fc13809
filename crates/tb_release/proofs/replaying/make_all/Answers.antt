use Rattle.std.proofs.Common.{◌≤◌, List, length, drop, subst}
use Rattle.std.proofs.lemmas.List.{drop_all}
use Rattle.tb_release.specs.declared.edits.Change.{Change}
use Rattle.tb_release.proofs.Replayed.{begins, step, ends}
use Rattle.tb_release.proofs.replaying.make_all.Goals as goal

pub loop-change-init : goal.loop-change-init
loop-change-init g c = λ release can. begins release c.args.batch.now c.args.stamp c.args.register.now can

pub make-requires-clause-can : goal.make-requires-clause-can
make-requires-clause-can g c =
    let one = c.requires.can in
    (step one.0 c.args.batch.now c.args.stamp c.lend-changes.result.now c.loop-change.change-index c.change-item.result c.args.register.now c.loop-change.register one.1
    c.lend-changes.ensures.changes c.loop-change-test.true c.change-item.is (c.loop-change.invariant one.0 one.1)).can

pub loop-change-preserved : goal.loop-change-preserved
loop-change-preserved g c = λ release can.
    (step release c.args.batch.now c.args.stamp c.lend-changes.result.now c.loop-change.change-index c.change-item.result c.args.register.now c.loop-change.register can
    c.lend-changes.ensures.changes c.loop-change-test.true c.change-item.is (c.loop-change.invariant release can)).goes c.make.new.register c.in_ok-make.ensures

pub returns-clause-leads : goal.returns-clause-leads
returns-clause-leads g c = λ release can.
    let past : length c.args.batch.now.changes ≤ c.loop-change.change-index = subst (λ (cs : List Change). length cs ≤ c.loop-change.change-index) c.lend-changes.ensures.changes c.loop-change-test.false in
    ends release c.args.batch.now (drop c.loop-change.change-index c.args.batch.now.changes) c.loop-change.register (c.loop-change.invariant release can)
    (drop_all c.loop-change.change-index c.args.batch.now.changes past) can.shared.fewer
