use Rattle.tb_serve.specs.Stages.{IsCleared}
use Rattle.tb_serve.proofs.Each.{Halfway}
use Rattle.tb_serve.proofs.closing.clear_all.Given as goal

abbrev pub invariant-loop-port : goal.invariant-loop-port
invariant-loop-port g l = Halfway (λ _. IsCleared) l.initial.ports l.ports l.port-index
