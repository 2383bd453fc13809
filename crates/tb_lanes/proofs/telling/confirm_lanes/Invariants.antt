use Rattle.std.proofs.Common.{◌≡◌}
use Rattle.std.specs.Prelude.{All}
use Rattle.tb_lanes.specs.Lanes.{IsConfirmed}
use Rattle.tb_session.specs.Parties.{IsAnalystOf}
use Rattle.tb_serve.proofs.Each.{Halfway}
use Rattle.tb_lanes.proofs.telling.confirm_lanes.Given as goal

-- the analysts of the lanes so far were confirmed
abbrev pub invariant-loop-lane : goal.invariant-loop-lane
invariant-loop-lane g l = record {
  same : l.custodian ≡ l.initial.custodian;
  analysts : All (λ lane. IsAnalystOf g.B.Named.name l.initial.custodian.writer.start.shape lane.party) l.lanes;
  confirmed : Halfway (λ _. IsConfirmed l.initial.custodian.writer) l.initial.lanes l.lanes l.lane-index;
}
