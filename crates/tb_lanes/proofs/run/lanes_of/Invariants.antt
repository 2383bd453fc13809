use Rattle.std.proofs.Common.{◌≡◌, ◌+◌, length, vec_len}
use Rattle.std.specs.Prelude.{All}
use Rattle.tb_session.specs.Parties.{IsAnalystOf}
use Rattle.tb_lanes.proofs.run.lanes_of.Given as goal

-- there are lanes for the gates so far
abbrev pub invariant-loop : goal.invariant-loop
invariant-loop g l = record {
  same : l.custodian ≡ l.initial.custodian;
  analysts : All (λ lane. IsAnalystOf g.B.Named.name l.initial.custodian.writer.start.shape lane.party) l.lanes.items;
  many : length l.lanes.items ≡ l.counter;
  left : vec_len l.gates + l.counter ≡ vec_len l.fn.gates;
}
