use Rattle.std.proofs.Common.{ap, refl, subst, sym, inl, inr}
use Rattle.tb_model.specs.Schemas.{SchemaValue}
use Rattle.tb_revise.specs.Faults.{IsRefused}
use Rattle.tb_session.proofs.revise.hold.Goals as goal

pub returns-in-Some-clause-reply : goal.returns-in-Some-clause-reply
returns-in-Some-clause-reply c =
    let refused = subst (λ (schema : SchemaValue). IsRefused schema c.args.line.now c.in-Err.fault) (ap (λ s. s.schema) c.setup.view_is) c.in-Err.ensures.refused in
    inr (refl, inl (c.in-Err.fault, c.in-Some.name, refused, sym c.in-Some.ensures, refl))
