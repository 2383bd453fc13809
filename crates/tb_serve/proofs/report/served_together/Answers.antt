use Rattle.std.proofs.Common.{ap, arith}
use Rattle.tb_serve.specs.Ports.{PortValue}
use Rattle.tb_serve.proofs.Lines.{served_more}
use Rattle.tb_serve.proofs.report.served_together.Goals as goal

pub loop-port-preserved : goal.loop-port-preserved
loop-port-preserved g c =
    let more = served_more c.args.ports.now c.loop-port.port-index c.port-item.result c.loop-port-test.true in
    let one = ap (λ (p : PortValue). p.served) c.port-item.is in
    record {
      so_far = omega (arith, more, one, c.loop-port.invariant.so_far, c.from-together.ensures, c.served-served.ensures);
      few = omega (arith, c.loop-port.invariant.few, c.from-together.ensures, c.served-served.type_inv);
    }
