use Rattle.std.proofs.Common.{◌≤◌, length, sym, arith}
use Rattle.tb_release.proofs.FitTests.{drop_here, ends_all, goes_all, passes_all}
use Rattle.tb_journal.specs.Fitting.{is_in_range}
use Rattle.tb_journal.proofs.fitting.are_in_range.Goals as goal

pub returns-then-not-is_in_range : goal.returns-then-not-is_in_range
returns-then-not-is_in_range c =
    ends_all (is_in_range c.args.keys) c.args.edits.now c.loop-i.i c.at.result.now
    (drop_here c.args.edits.now c.loop-i.i c.at.result.now c.at.ensures) c.loop-i.invariant c.if-not-is_in_range.ensures

pub loop-i-preserved : goal.loop-i-preserved
loop-i-preserved c =
    goes_all (is_in_range c.args.keys) c.args.edits.now c.loop-i.i c.at.result.now
    (drop_here c.args.edits.now c.loop-i.i c.at.result.now c.at.ensures) c.loop-i.invariant c.if-not-is_in_range.ensures

pub returns : goal.returns
returns c =
    let long : length c.args.edits.now ≤ c.loop-i.i = omega arith in
    sym (passes_all (is_in_range c.args.keys) c.args.edits.now c.loop-i.i long c.loop-i.invariant)
