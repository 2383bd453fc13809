use Rattle.std.proofs.Common.{◌≡◌, ℕ, ◌+◌, ◌<◌, ◌≤◌, ◌⊎◌}
use Rattle.tb_base.specs.Parts.{Part, part_at, modulus}
use Rattle.tb_grid.specs.Signs.{IsSigned}
use Rattle.tb_grid.proofs.totals.signed_row.Given as goal

abbrev pub invariant-loop-r : goal.invariant-loop-r
invariant-loop-r l = record {
  row : (p : Part) (r : ℕ) → r < l.r
      → IsSigned l.sign (modulus p) (part_at p l.initial.cells (l.from + r)) (part_at p l.initial.cells (l.to + r))
      (part_at p l.cells (l.to + r));
  rest : (p : Part) (i : ℕ) → (i < l.to) ⊎ (l.to + l.r ≤ i) → part_at p l.cells i ≡ part_at p l.initial.cells i;
}
