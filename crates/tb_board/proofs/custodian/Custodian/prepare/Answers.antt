use Rattle.std.proofs.Common.{rules, ◌∙◌, ap}
use Rattle.tb_board.specs.Custodians.{CustodianValue}
use Rattle.tb_board.proofs.Whole.{may_publish}
use Rattle.tb_board.proofs.custodian.Custodian.prepare.Goals as goal

pub returns-clause-publication : goal.returns-clause-publication
returns-clause-publication c =
    may_publish _ c.self.inside.shape _ c.deref.result.now c.in_ok-release.release c.in_ok-release.batch _
    (c.self.invariant.0 ∙ ap (λ (o : CustodianValue). o.writer.start.shape) c.self.view_is)
    (c.deref.ensures ∙ ap (λ (o : CustodianValue). o.release) c.self.view_is)
    (search rules) (search rules)
    c.in_ok-release.ensures.follows c.in_ok-release.ensures.leads c.in_ok-release.ensures.fit c.in_ok-release.ensures.changes_fit
