use Rattle.std.proofs.Common.{subst, sym}
use Rattle.tb_session.specs.Parties.{IsAnswered}
use Rattle.tb_session.specs.ReplyTexts.{reply_text}
use Rattle.tb_session.specs.declared.party.Party.{Party}
use Rattle.tb_session.specs.declared.party.Party.TheVariants as party
use Rattle.tb_session.proofs.Preparing.{answered_so}
use Rattle.tb_session.proofs.prepared.answer_prepared.Goals as goal

pub returns-clause-answered : goal.returns-clause-answered
returns-clause-answered g c = λ setup line steps is.
    let new = c.publish_prepared-reply.new in
    subst (λ (p : Party). IsAnswered setup p line (party.Custodian new.custodian new.held) c.write.result (g.K.Sink.faults c.args.sink.now) (g.K.Sink.faults c.write.new.out)
    (g.K.Sink.taken c.args.sink.now) (g.K.Sink.taken c.write.new.out) steps steps) (sym c.in-Custodian.is)
    (answered_so c.in-Custodian.custodian new.custodian c.in-Custodian.held new.held (reply_text c.publish_prepared-reply.result) c.write.result (g.K.Sink.faults c.args.sink.now) (g.K.Sink.faults c.write.new.out)
    (g.K.Sink.taken c.args.sink.now) (g.K.Sink.taken c.write.new.out) c.publish_prepared-reply.ensures.leads c.write.ensures setup line steps is)
