use Rattle.std.proofs.Common.{◌≡◌, ◌≤◌, length, drop}
use Rattle.tb_grid.specs.Products.{cells_over}
use Rattle.tb_grid.proofs.products.cells_over.Given as goal

abbrev pub invariant-loop-j : goal.invariant-loop-j
invariant-loop-j l = record {
  within : l.j ≤ length l.vars;
  from : l.from ≤ l.j;
  cells : l.cells ≡ cells_over l.shape (drop l.j l.vars);
}

abbrev pub decreases-loop-j : goal.decreases-loop-j
decreases-loop-j l = l.j
