use Rattle.std.proofs.Common.{◌<◌, ◌≤◌, length, arith}
use Rattle.tb_release.specs.Fitting.{setting_fits}
use Rattle.tb_release.proofs.FitTests.{ends_all, goes_all, left_at, passes_all, sets_told}
use Rattle.tb_release.proofs.fits.sets_fit.Goals as goal

pub returns-then-not-setting_fits-clause-test : goal.returns-then-not-setting_fits-clause-test
returns-then-not-setting_fits-clause-test c =
    let within : c.loop-i.i < length c.args.sets.now = omega arith in
    ends_all (setting_fits c.args.shape.now) c.args.sets.now c.loop-i.i c.at-variable.result
    (left_at c.args.sets.now c.loop-i.i c.at-variable.result
    (0, 0) within c.at-variable.ensures) c.loop-i.invariant c.if-not-setting_fits.ensures

pub loop-i-preserved : goal.loop-i-preserved
loop-i-preserved c =
    let within : c.loop-i.i < length c.args.sets.now = omega arith in
    goes_all (setting_fits c.args.shape.now) c.args.sets.now c.loop-i.i c.at-variable.result
    (left_at c.args.sets.now c.loop-i.i c.at-variable.result
    (0, 0) within c.at-variable.ensures) c.loop-i.invariant c.if-not-setting_fits.ensures

pub returns-clause-told : goal.returns-clause-told
returns-clause-told c = λ h person.
    let long : length c.args.sets.now ≤ c.loop-i.i = omega arith in
    sets_told c.args.shape.now c.args.sets.now (passes_all
    (setting_fits c.args.shape.now) c.args.sets.now c.loop-i.i long c.loop-i.invariant)
