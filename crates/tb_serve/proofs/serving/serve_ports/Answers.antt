use Rattle.std.proofs.Common.{ap, inl, inr}
use Rattle.tb_board.specs.Starts.{StartValue}
use Rattle.tb_serve.specs.Places.{number_at}
use Rattle.tb_serve.specs.Serves.{output}
use Rattle.tb_serve.specs.Stages.{GetsReady, IsCleared, IsUntouched}
use Rattle.tb_serve.proofs.PortEnds.{unserved_ready}
use Rattle.tb_serve.proofs.Wholes.{each_then}
use Rattle.tb_serve.proofs.Endings.{served_all}
use Rattle.tb_serve.proofs.serving.serve_ports.Goals as goal

pub returns-in-NoMemory : goal.returns-in-NoMemory
returns-in-NoMemory g c = inl (c.in-NoMemory.ensures, c.write_end.ensures.ended)

pub returns-in-NotBound : goal.returns-in-NotBound
returns-in-NotBound g c = inr (inl (c.in-NotBound.ensures.0, c.in-NotBound.ensures.1, c.write_end-in-NotBound.ensures.ended))

pub returns-in_default : goal.returns-in_default
returns-in_default g c =
    inl (
      each_then (GetsReady (number_at c.args.places)) (λ _. IsCleared) (IsUntouched (number_at c.args.places)) c.args.ports.now c.prepare.new.ports
          c.clear_all.new.ports c.in-Ready.ensures c.clear_all.ensures
          (λ i d lt ready cleared. unserved_ready (number_at c.args.places) i _ _ _ (c.requires.fresh i d lt) ready cleared),
      c.write_end-in_default.ensures.ended,
    )

pub returns : goal.returns
returns g c =
    inr (inr (served_all c.args.setup.now c.args.base c.in-Ok.opening.start.base c.args.places c.args.sessions c.args.ports.now
    c.prepare.new.ports c.serve_opened.new.ports
    (output (g.O.Sink.taken c.args.out.now) (g.O.Sink.taken c.serve_opened.new.out) (g.O.Sink.faults c.args.out.now)
    (g.O.Sink.faults c.serve_opened.new.out))
    c.serve_opened.result (ap (λ (s : StartValue). s.base) c.in-Ok.ensures) c.in-Ready.ensures c.serve_opened.ensures.served
    c.serve_opened.ensures.left))
