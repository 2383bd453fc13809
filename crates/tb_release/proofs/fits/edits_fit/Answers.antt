use Rattle.std.proofs.Common.{◌≤◌, length, arith}
use Rattle.tb_release.specs.Fitting.{edit_fits}
use Rattle.tb_release.proofs.FitTests.{drop_here, ends_all, fits_all, goes_all, passes_all}
use Rattle.tb_release.proofs.fits.edits_fit.Goals as goal

pub returns-then-not-edit_fits-clause-test : goal.returns-then-not-edit_fits-clause-test
returns-then-not-edit_fits-clause-test c =
    ends_all (edit_fits c.args.shape.now) c.args.edits.now c.loop-i.i c.at.result.now
    (drop_here c.args.edits.now c.loop-i.i c.at.result.now c.at.ensures) c.loop-i.invariant c.if-not-edit_fits.ensures.test

pub loop-i-preserved : goal.loop-i-preserved
loop-i-preserved c =
    goes_all (edit_fits c.args.shape.now) c.args.edits.now c.loop-i.i c.at.result.now
    (drop_here c.args.edits.now c.loop-i.i c.at.result.now c.at.ensures) c.loop-i.invariant c.if-not-edit_fits.ensures.test

pub returns-clause-told : goal.returns-clause-told
returns-clause-told c = λ h.
    let long : length c.args.edits.now ≤ c.loop-i.i = omega arith in
    fits_all c.args.shape.now c.args.edits.now (passes_all (edit_fits c.args.shape.now) c.args.edits.now c.loop-i.i long c.loop-i.invariant)
