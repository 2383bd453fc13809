use Rattle.std.proofs.Common.{◌∙◌, subst}
use Rattle.tb_board.specs.Custodians.{CustodianValue}
use Rattle.tb_session.specs.Parties.{IsBehind, Learns}
use Rattle.tb_session.proofs.Owning.{informed}
use Rattle.tb_session.proofs.custody.informed_analyst.Goals as goal

pub returns-clause-party : goal.returns-clause-party
returns-clause-party g c =
    c.confirm.ensures.also ∙ informed c.args.custodian.now c.analyst_of-party.result c.tell.new.party c.requires.whole
    (subst (λ (k : CustodianValue). Learns k.pass c.analyst_of-party.result c.tell.new.party) c.analyst_of-party.ensures.same c.tell.ensures.learns)
    (subst (λ (k : CustodianValue). IsBehind k.writer c.tell.new.party) (c.tell.ensures.same ∙ c.analyst_of-party.ensures.same) c.confirm.ensures.behind)
