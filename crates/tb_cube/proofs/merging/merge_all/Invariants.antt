use Rattle.std.proofs.Common.{◌≡◌, ℕ, ◌<◌, ◌≤◌, get_or}
use Rattle.tb_base.specs.Cells.{empty_cell, merged}
use Rattle.tb_cube.proofs.merging.merge_all.Given as goal

abbrev pub invariant-loop-i : goal.invariant-loop-i
invariant-loop-i l = record {
  merged_so_far : (k : ℕ) → k < l.i → get_or l.cells k empty_cell ≡ merged (get_or l.initial.cells k empty_cell) (get_or l.others k empty_cell);
  rest : (k : ℕ) → l.i ≤ k → get_or l.cells k empty_cell ≡ get_or l.initial.cells k empty_cell;
}
