use Rattle.std.proofs.Common.{◌≡◌, ℕ, ◌+◌, ◌-◌, ◌*◌, ◌<◌, ◌≤◌, ◌⊎◌}
use Rattle.std.specs.List.{sum_by, range_with_len}
use Rattle.tb_base.specs.Parts.{Part, part_at, modulus}
use Rattle.tb_grid.specs.Signs.{IsSigned}
use Rattle.tb_grid.proofs.totals.signed_rows.Given as goal

abbrev pub invariant-loop-e : goal.invariant-loop-e
invariant-loop-e l = record {
  place : l.last ≡ l.start + (l.n - 1) * l.m;
  last : (p : Part) (r : ℕ) → r < l.m
      → IsSigned l.sign (modulus p) (sum_by (λ k. part_at p l.initial.cells (l.start + k * l.m + r)) (range_with_len 0 l.e))
      (part_at p l.initial.cells (l.last + r)) (part_at p l.cells (l.last + r));
  rest : (p : Part) (i : ℕ) → (i < l.last) ⊎ (l.last + l.m ≤ i) → part_at p l.cells i ≡ part_at p l.initial.cells i;
}
