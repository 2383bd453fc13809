use Rattle.tb_base.specs.Pieces.{AreColumns}
use Rattle.tb_base.proofs.columns.columns_of.Given as goal

abbrev pub invariant-loop-v : goal.invariant-loop-v
invariant-loop-v l = AreColumns l.columns.items l.records
