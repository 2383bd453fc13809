use Rattle.std.proofs.Common.{◌≡◌}
use Rattle.tb_serve.specs.Stages.{IsSeated}
use Rattle.tb_serve.proofs.Each.{Halfway}
use Rattle.tb_serve.proofs.seating.seat_all.Given as goal

-- the ports so far were seated, and the owner is as it was
abbrev pub invariant-loop-i : goal.invariant-loop-i
invariant-loop-i g l = record {
  ready : g.W.Owner.IsReady l.setting l.owner;
  writer : g.W.Owner.writer l.owner ≡ g.W.Owner.writer l.fn.owner;
  state : g.W.Owner.state l.owner ≡ g.W.Owner.state l.fn.owner;
  seated : Halfway (IsSeated (g.W.Owner.writer l.fn.owner)) l.initial.ports l.ports l.i;
}
