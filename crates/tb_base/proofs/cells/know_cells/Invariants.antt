use Rattle.std.proofs.Common.{ℕ, ◌<◌, All}
use Rattle.tb_base.specs.Cells.{IsReduced}
use Rattle.tb_base.specs.Parts.{Part, part_at, modulus}
use Rattle.tb_base.proofs.cells.know_cells.Given as goal

abbrev pub invariant-loop-cell : goal.invariant-loop-cell
invariant-loop-cell l = All IsReduced l.cells → (p : Part) (i : ℕ) → i < l.cell-index → part_at p l.cells i < modulus p
