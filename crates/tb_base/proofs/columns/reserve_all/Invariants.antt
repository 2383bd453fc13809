use Rattle.tb_base.proofs.ColumnLemmas.{Partly, HaveRoom}
use Rattle.tb_base.proofs.columns.reserve_all.Given as goal

abbrev pub invariant-loop-v : goal.invariant-loop-v
invariant-loop-v l = record {
  so_far : Partly (λ v codes. codes) l.initial.columns l.columns l.v;
  room : HaveRoom l.columns l.v;
}
