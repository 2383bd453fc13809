use Rattle.tb_serve.specs.Places.{number_at}
use Rattle.tb_serve.specs.Stages.{IsBoundAt}
use Rattle.tb_serve.proofs.Each.{Halfway}
use Rattle.tb_serve.proofs.preparing.bind_all.Given as goal

abbrev pub invariant-loop-i : goal.invariant-loop-i
invariant-loop-i g l = Halfway (IsBoundAt (number_at l.places)) l.initial.ports l.ports l.i
