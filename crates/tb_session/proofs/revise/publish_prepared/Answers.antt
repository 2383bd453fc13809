use Rattle.std.proofs.Common.{refl}
use Rattle.tb_session.proofs.Preparing.{as_publishing}
use Rattle.tb_session.proofs.Revising.{not_published, published}
use Rattle.tb_session.proofs.revise.publish_prepared.Goals as goal

pub returns-in-Ok-clause-leads : goal.returns-in-Ok-clause-leads
returns-in-Ok-clause-leads g c =
    let old = c.args.custodian.now in
    let new = c.publish_prepared.new.custodian in
    let held = c.args.held.now in
    published old new held c.clear.new.self c.in-Ok.number c.requires.own.whole c.requires.prepared.can
    (as_publishing old new held c.args.publication c.requires.prepared c.in-Ok.ensures.ok) c.in-Ok.ensures.release c.clear.ensures

pub returns-in-Err-clause-leads : goal.returns-in-Err-clause-leads
returns-in-Err-clause-leads g c =
    not_published c.args.custodian.now c.publish_prepared.new.custodian c.args.held.now c.args.held.now c.in-Err.ensures.err refl
