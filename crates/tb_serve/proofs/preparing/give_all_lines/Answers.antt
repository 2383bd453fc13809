use Rattle.std.proofs.Common.{arith}
use Rattle.tb_serve.specs.Stages.{HasLines}
use Rattle.tb_serve.proofs.Each.{half_more}
use Rattle.tb_serve.proofs.preparing.give_all_lines.Goals as goal

pub loop-port-preserved : goal.loop-port-preserved
loop-port-preserved g c =
    half_more (λ _. HasLines) c.args.ports.now c.loop-port.ports c.loop-port.port-index c.port-item.result c.give_lines.new.self (omega
    (arith, c.loop-port.auto.ports)) c.loop-port.invariant c.give_lines.ensures
