use Rattle.std.proofs.Common.{◌≡◌}
use Rattle.std.specs.Prelude.{All}
use Rattle.tb_lanes.specs.Lanes.{IsTold}
use Rattle.tb_session.specs.Parties.{IsAnalystOf}
use Rattle.tb_serve.proofs.Each.{Halfway}
use Rattle.tb_lanes.proofs.telling.tell_lanes.Given as goal

-- the analysts of the lanes so far were told
abbrev pub invariant-loop-lane : goal.invariant-loop-lane
invariant-loop-lane g l = record {
  same : l.custodian ≡ l.initial.custodian;
  analysts : All (λ lane. IsAnalystOf g.B.Named.name l.initial.custodian.writer.start.shape lane.party) l.lanes;
  told : Halfway (λ _. IsTold l.initial.custodian.pass) l.initial.lanes l.lanes l.lane-index;
}
