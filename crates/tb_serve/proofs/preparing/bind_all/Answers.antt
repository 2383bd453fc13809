use Rattle.std.proofs.Common.{arith}
use Rattle.std.specs.Prelude.{slice_index_or}
use Rattle.tb_serve.specs.Places.{number_at}
use Rattle.tb_serve.specs.Stages.{IsBoundAt}
use Rattle.tb_serve.proofs.Each.{half_more}
use Rattle.tb_serve.proofs.Binding.{all_untouched, bound_at, not_bound, unbound_there}
use Rattle.tb_serve.proofs.preparing.bind_all.Goals as goal

pub loop-i-preserved : goal.loop-i-preserved
loop-i-preserved g c =
    half_more (IsBoundAt (number_at c.args.places)) c.args.ports.now c.loop-i.ports c.loop-i.i c.index-ports-i.result c.bind.new.self (omega
    (arith, c.loop-i.auto.ports)) c.loop-i.invariant
    (bound_at (number_at c.args.places) c.loop-i.i c.number-number.result (slice_index_or c.loop-i.ports c.loop-i.i c.index-ports-i.result) c.bind.new.self c.number-number.ensures
    c.in-Ready.ensures.rest c.in-Ready.ensures.bound.0 c.in-Ready.ensures.bound.1)

pub returns-in-Failed-clause-failed : goal.returns-in-Failed-clause-failed
returns-in-Failed-clause-failed g c = λ is.
    all_untouched (number_at c.args.places) c.args.ports.now c.loop-i.ports c.loop-i.i c.index-ports-i.result c.bind.new.self (omega
    (arith, c.loop-i.auto.ports)) c.loop-i.auto.ports c.loop-i.invariant
    (not_bound (number_at c.args.places) c.loop-i.i (slice_index_or c.loop-i.ports c.loop-i.i c.index-ports-i.result) c.bind.new.self
    c.in-Failed.ensures.rest c.in-Failed.ensures.bound.0)

pub returns-in-Failed-clause-unbound : goal.returns-in-Failed-clause-unbound
returns-in-Failed-clause-unbound g c = λ is.
    unbound_there (number_at c.args.places) c.args.ports.now c.loop-i.ports c.loop-i.i c.index-ports-i.result c.bind.new.self (omega
    (arith, c.loop-i.auto.ports)) c.loop-i.auto.ports c.requires.can c.loop-i.invariant
    c.in-Failed.ensures.bound
