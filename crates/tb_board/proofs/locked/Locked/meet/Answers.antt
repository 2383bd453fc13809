use Rattle.std.proofs.Common.{◌≡◌, sym, ap, ◌∙◌}
use Rattle.std.specs.Arc.{arc_value}
use Rattle.tb_board.specs.Custodians.{CustodianValue}
use Rattle.tb_board.proofs.Chains.{chain_seen}
use Rattle.tb_board.proofs.Meeting.{all_meet}
use Rattle.tb_board.proofs.locked.Locked.meet.Goals as goal

pub returns-clause-same : goal.returns-clause-same
returns-clause-same g c =
    let o = c.custodian.inside in
    let writer : o.writer ≡ c.args.custodian.now.writer = ap (λ (v : CustodianValue). v.writer) c.custodian.view_is in
    let pass : o.pass ≡ o.writer = ap (λ (v : CustodianValue). v.pass) c.custodian.view_is ∙ c.requires.whole.same ∙ sym writer in
    let caught = all_meet o.pass o.writer c.catch_up.new.self pass c.catch_up.ensures.own c.confirm.ensures.behind in (
      c.self.view_is,
      (λ i. record { writer = c.confirm.ensures.same.0 i; pass = (c.confirm.ensures.same.1 ∙ caught ∙ sym pass) i; release = arc_value o.release }) ∙ c.custodian.view_is,
    )

pub returns-clause-chain : goal.returns-clause-chain
returns-clause-chain g c =
    let o = c.custodian.inside in
    let writer : o.writer ≡ c.args.custodian.now.writer = ap (λ (v : CustodianValue). v.writer) c.custodian.view_is in
    let pass : o.pass ≡ o.writer = ap (λ (v : CustodianValue). v.pass) c.custodian.view_is ∙ c.requires.whole.same ∙ sym writer in
    let caught = all_meet o.pass o.writer c.catch_up.new.self pass c.catch_up.ensures.own c.confirm.ensures.behind in
    chain_seen _ g.B.Named.name c.self.inside.desk (sym writer ∙ sym caught ∙ c.catch_up.ensures.list ∙ c.self.invariant) c.soundness.ensures
