use Rattle.std.proofs.Common.{◌≡◌, ℕ, ◌+◌, ◌-◌, ◌*◌, ◌<◌, ◌≤◌}
use Rattle.std.specs.List.{sum_by, range_with_len}
use Rattle.tb_base.specs.Parts.{Part, part_at, modulus}
use Rattle.tb_grid.specs.Signs.{IsSigned}
use Rattle.tb_grid.proofs.totals.signed_blocks.Given as goal

abbrev pub invariant-loop-block : goal.invariant-loop-block
invariant-loop-block l = record {
  last : (p : Part) (o r : ℕ) → o < l.block → r < l.m
      → IsSigned l.sign (modulus p) (sum_by (λ e. part_at p l.initial.cells (o * (l.n * l.m) + e * l.m + r)) (range_with_len 0 (l.n - 1)))
      (part_at p l.initial.cells (o * (l.n * l.m) + (l.n - 1) * l.m + r)) (part_at p l.cells (o * (l.n * l.m) + (l.n - 1) * l.m + r));
  rest : (p : Part) (o q r : ℕ) → q < l.n - 1 → r < l.m
      → part_at p l.cells (o * (l.n * l.m) + q * l.m + r) ≡ part_at p l.initial.cells (o * (l.n * l.m) + q * l.m + r);
  later : (p : Part) (i : ℕ) → l.block * (l.n * l.m) ≤ i → part_at p l.cells i ≡ part_at p l.initial.cells i;
}
