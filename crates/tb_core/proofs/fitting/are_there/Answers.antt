use Rattle.std.proofs.Common.{◌<◌, length, arith}
use Rattle.std.specs.Prelude.{nat_lt}
use Rattle.tb_release.proofs.FitTests.{ends_all, goes_all, left_at}
use Rattle.tb_core.proofs.fitting.are_there.Goals as goal

pub returns-then-not-is_there : goal.returns-then-not-is_there
returns-then-not-is_there c =
    let within : c.loop-i.i < length c.args.vars.now = omega arith in
    ends_all (λ v. nat_lt v (length c.args.shape.now)) c.args.vars.now c.loop-i.i c.at.result (left_at c.args.vars.now c.loop-i.i c.at.result 0 within c.at.ensures) c.loop-i.invariant c.if-not-is_there.ensures

pub loop-i-preserved : goal.loop-i-preserved
loop-i-preserved c =
    let within : c.loop-i.i < length c.args.vars.now = omega arith in
    goes_all (λ v. nat_lt v (length c.args.shape.now)) c.args.vars.now c.loop-i.i c.at.result (left_at c.args.vars.now c.loop-i.i c.at.result 0 within c.at.ensures) c.loop-i.invariant c.if-not-is_there.ensures
