use Rattle.tb_base.specs.Pieces.{with_other}
use Rattle.tb_base.proofs.ColumnLemmas.{Partly}
use Rattle.tb_base.proofs.columns.replace_all.Given as goal

abbrev pub invariant-loop-v : goal.invariant-loop-v
invariant-loop-v l = Partly (with_other l.place l.one) l.initial.columns l.columns l.v
