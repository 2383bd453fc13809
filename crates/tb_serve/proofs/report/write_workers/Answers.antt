use Rattle.std.proofs.Common.{◌∙◌, ap, arith}
use Rattle.tb_serve.specs.Ports.{PortValue}
use Rattle.tb_serve.proofs.Lines.{line_cut, line_more, lines_whole}
use Rattle.tb_serve.proofs.report.write_workers.Goals as goal

pub loop-i-preserved : goal.loop-i-preserved
loop-i-preserved g c =
    line_more c.args.ports.now c.loop-i.i c.served-served.result c.index-ports-i.result (omega arith)
    (c.served-served.ensures ∙ ap (λ (p : PortValue). p.served) c.index-ports-i.is) c.loop-i.invariant
    c.in-All.ensures.written

pub returns-in-Failed : goal.returns-in-Failed
returns-in-Failed g c = record {
  written = line_cut c.args.ports.now c.loop-i.i c.served-served.result c.index-ports-i.result (omega arith)
      (c.served-served.ensures ∙ ap (λ (p : PortValue). p.served) c.index-ports-i.is) c.loop-i.invariant
      c.in-Failed.ensures.written;
}

pub returns : goal.returns
returns g c = record { written = lines_whole _ _ _ _ c.args.ports.now c.loop-i.i (omega arith) c.loop-i.invariant }
