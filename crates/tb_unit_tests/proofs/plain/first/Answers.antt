use Rattle.std.proofs.Common.{◌≡◌, sym, ap, refl, subst}
use Rattle.tb_base.specs.Records.{AllFit}
use Rattle.tb_model.specs.Releases.{ReleaseValue}
use Rattle.tb_model.specs.Schemas.{shape_of}
use Rattle.tb_unit_tests.proofs.plain.first.Goals as goal

pub returns : goal.returns
returns c =
    let fit : AllFit (shape_of c.args.schema.now) c.args.people =
    subst (AllFit (shape_of c.args.schema.now)) c.all.ensures.all (subst (λ shape. AllFit shape c.all.result.now) c.shape.ensures (c.if-not-records_fit.ensures.0 refl)) in
    subst (AllFit (shape_of c.args.schema.now)) (sym (ap (λ (r : ReleaseValue). r.records) c.in_ok-release.ensures)) fit
