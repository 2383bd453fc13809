use Rattle.std.specs.Arc.{arc_value}
use Rattle.tb_text.proofs.prepared.PreparedTable.of.Goals as goal

pub returns : goal.returns
returns c = c.in_ok-prepared.ensures (arc_value c.args.rules) c.args.cells.items
