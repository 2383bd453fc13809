use Rattle.std.proofs.Common.{◌≡◌, inl, inr, arith}
use Rattle.std.proofs.lemmas.Bool.{cases_lt}
use Rattle.tb_base.proofs.cells.know_cells.Goals as goal

pub loop-cell-preserved : goal.loop-cell-preserved
loop-cell-preserved c = λ reduced p i below. elim (cases_lt i c.loop-cell.cell-index) [
  | inl h ↦ c.loop-cell.invariant reduced p i h
  | inr h ↦
      let here : i ≡ c.loop-cell.cell-index = omega arith in
      rw here (c.know_cell.ensures (reduced c.loop-cell.cell-index _ c.loop-cell-test.true) p)
]
