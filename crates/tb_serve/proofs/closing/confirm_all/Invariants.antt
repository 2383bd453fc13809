use Rattle.std.proofs.Common.{◌≡◌}
use Rattle.tb_serve.specs.Stages.{IsConfirmed}
use Rattle.tb_serve.proofs.Each.{Halfway}
use Rattle.tb_serve.proofs.closing.confirm_all.Given as goal

-- the parties of the ports so far were confirmed, and the owner is as it was
abbrev pub invariant-loop-port : goal.invariant-loop-port
invariant-loop-port g l = record {
  ready : g.W.Owner.IsReady l.setting l.owner;
  writer : g.W.Owner.writer l.owner ≡ g.W.Owner.writer l.fn.owner;
  state : g.W.Owner.state l.owner ≡ g.W.Owner.state l.fn.owner;
  confirmed : Halfway (λ _. IsConfirmed (g.W.Owner.writer l.fn.owner)) l.initial.ports l.ports l.port-index;
}
