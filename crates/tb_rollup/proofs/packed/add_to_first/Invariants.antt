use Rattle.std.proofs.Common.{◌≡◌, ℕ, ◌+◌, ◌%◌, ◌<◌, cond, length, drop}
use Rattle.std.specs.Prelude.{◌==◌}
use Rattle.std.specs.List.{sum_by}
use Rattle.tb_base.specs.Parts.{Part, part, part_at, modulus}
use Rattle.tb_rollup.proofs.packed.add_to_first.Given as goal

abbrev pub invariant-loop-one : goal.invariant-loop-one
invariant-loop-one l = (p : Part) (i : ℕ) → i < length l.cells
    → (part_at p l.cells i + sum_by (λ k. cond (0 == i) (part p k.cell) 0) (drop l.one-index l.kept)) % modulus p
    ≡ (part_at p l.initial.cells i + sum_by (λ k. cond (0 == i) (part p k.cell) 0) l.kept) % modulus p
