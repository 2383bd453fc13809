use Rattle.std.proofs.Common.{◌≤◌, List, length, drop, subst}
use Rattle.std.proofs.lemmas.List.{drop_all}
use Rattle.tb_release.specs.declared.edits.Change.{Change}
use Rattle.tb_delta.proofs.UnderWay.{begins, step, ends}
use Rattle.tb_delta.proofs.advancing.advance.Goals as goal

pub loop-change-init : goal.loop-change-init
loop-change-init g c = λ release can. begins c.args.cube.now release c.args.batch.now can

pub make-requires : goal.make-requires
make-requires g c =
    let one = c.requires.release in
    (step c.args.cube.now one.0 c.args.batch.now c.lend-changes.result.now c.loop-change.change-index c.change-item.result c.loop-change.cube c.cells.ensures.cube.there c.requires.fit
    c.lend-changes.ensures.changes c.loop-change-test.true c.change-item.is (c.loop-change.invariant one.0 one.1)).can

pub loop-change-preserved : goal.loop-change-preserved
loop-change-preserved g c = λ release can.
    (step c.args.cube.now release c.args.batch.now c.lend-changes.result.now c.loop-change.change-index c.change-item.result c.loop-change.cube c.cells.ensures.cube.there c.requires.fit
    c.lend-changes.ensures.changes c.loop-change-test.true c.change-item.is (c.loop-change.invariant release can)).goes c.make.new.cube c.make.ensures

pub returns-clause-cube : goal.returns-clause-cube
returns-clause-cube g c = λ release can.
    let past : length c.args.batch.now.changes ≤ c.loop-change.change-index = subst (λ (cs : List Change). length cs ≤ c.loop-change.change-index) c.lend-changes.ensures.changes c.loop-change-test.false in
    ends c.args.cube.now release c.args.batch.now (drop c.loop-change.change-index c.args.batch.now.changes) c.loop-change.cube (c.loop-change.invariant release can)
    (drop_all c.loop-change.change-index c.args.batch.now.changes past)
