use Rattle.tb_serve.specs.Stages.{HasLines}
use Rattle.tb_serve.proofs.Each.{Halfway}
use Rattle.tb_serve.proofs.preparing.give_all_lines.Given as goal

abbrev pub invariant-loop-port : goal.invariant-loop-port
invariant-loop-port g l = Halfway (λ _. HasLines) l.initial.ports l.ports l.port-index
