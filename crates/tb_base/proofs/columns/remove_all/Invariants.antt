use Rattle.tb_base.specs.Pieces.{without}
use Rattle.tb_base.proofs.ColumnLemmas.{Partly}
use Rattle.tb_base.proofs.columns.remove_all.Given as goal

abbrev pub invariant-loop-v : goal.invariant-loop-v
invariant-loop-v l = Partly (without l.place) l.initial.columns l.columns l.v
