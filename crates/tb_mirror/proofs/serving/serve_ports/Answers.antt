use Rattle.std.proofs.Common.{ap, arith, inl, inr}
use Rattle.tb_board.specs.Starts.{StartValue}
use Rattle.tb_serve.specs.Places.{number_at}
use Rattle.tb_serve.specs.Serves.{output}
use Rattle.tb_mirror.proofs.Mirrored.{mirrors_all, untouched}
use Rattle.tb_mirror.proofs.serving.serve_ports.Goals as goal

pub serve_opened-requires-clause-can : goal.serve_opened-requires-clause-can
serve_opened-requires-clause-can g c = λ κs within_κs i d lt.
    let same = c.in-Ready.ensures.same_length in
    (c.in-Ready.ensures.at i d (omega (arith, same, lt))).can

pub returns-in_default : goal.returns-in_default
returns-in_default g c = inl (untouched (number_at c.args.places) c.args.ports.now, c.write_end.ensures.ended)

pub returns-in-NoMemory : goal.returns-in-NoMemory
returns-in-NoMemory g c = inl (c.in-NoMemory.ensures, c.write_end-in-NoMemory.ensures.ended)

pub returns-in-NotBound : goal.returns-in-NotBound
returns-in-NotBound g c = inr (inl (c.in-NotBound.ensures.0, c.in-NotBound.ensures.1, c.write_end-in-NotBound.ensures.ended))

pub returns-in-Ready : goal.returns-in-Ready
returns-in-Ready g c =
    inr (inr (mirrors_all c.args.setup.now c.args.base c.in-Ok.opening.start.base c.args.places c.args.sessions c.args.ports.now c.prepare.new.ports c.serve_opened.new.ports
    (output (g.O.Sink.taken c.args.out.now) (g.O.Sink.taken c.serve_opened.new.out) (g.O.Sink.faults c.args.out.now) (g.O.Sink.faults c.serve_opened.new.out)) c.serve_opened.result
    (ap (λ (s : StartValue). s.base) c.in-Ok.ensures) c.in-Ready.ensures c.serve_opened.ensures.mirrored c.serve_opened.ensures.left))
