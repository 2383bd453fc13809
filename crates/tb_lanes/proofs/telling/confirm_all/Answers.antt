use Rattle.std.proofs.Common.{subst, sym}
use Rattle.tb_lanes.specs.Lanes.{IsConfirmed}
use Rattle.tb_serve.specs.Each.{Each}
use Rattle.tb_session.specs.Parties.{seen_by}
use Rattle.tb_session.specs.declared.party.Party.{Party}
use Rattle.tb_lanes.proofs.telling.confirm_all.Goals as goal

pub returns-clause-confirmed : goal.returns-clause-confirmed
returns-clause-confirmed g c =
    subst (λ (p : Party). Each (λ _. IsConfirmed (seen_by p)) c.args.lanes.now c.confirm_lanes.new.lanes) (sym c.in-Custodian.is) c.confirm_lanes.ensures.confirmed
