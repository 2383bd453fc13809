use Rattle.std.proofs.Common.{◌∙◌, get_or, subst, arith, below_more}
use Rattle.std.proofs.lemmas.List.{get_or_default}
use Rattle.tb_base.specs.Records.{Fits}
use Rattle.tb_release.proofs.FitTests.{record_back}
use Rattle.tb_release.proofs.fits.records_fit.Goals as goal

pub returns-then-not-record_fits : goal.returns-then-not-record_fits
returns-then-not-record_fits c = (
  λ h. cc,
  λ all. let passes = record_back c.args.shape.now c.one-item.result (rw c.one-item.is (all c.loop-one.one-index _
      (omega arith))) in c.if-not-record_fits.ensures.test ∙ passes,
)

pub loop-one-preserved : goal.loop-one-preserved
loop-one-preserved c = λ k d.
    let here = c.record_fits.ensures.told c.if-not-record_fits.false c.one-item.result.person in
    let there = c.one-item.is ∙ get_or_default c.args.records.now c.loop-one.one-index c.one-item.result d c.loop-one-test.true in
    below_more (λ n. Fits c.args.shape.now (get_or c.args.records.now n d)) c.loop-one.one-index (λ n h. c.loop-one.invariant n d h)
    (subst (Fits c.args.shape.now) there here) k
