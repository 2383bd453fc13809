use Rattle.std.proofs.Common.{◌≡◌, ℕ, ◌+◌, ◌*◌, ◌%◌, ◌<◌, [], length}
use Rattle.std.specs.List.{sum_by, range_with_len}
use Rattle.tb_base.specs.Parts.{Part, part_at, modulus}
use Rattle.tb_cube.specs.Walks.{spread}
use Rattle.tb_cube.proofs.narrowing.add_row.Given as goal

abbrev pub invariant-loop-c : goal.invariant-loop-c
invariant-loop-c l = (p : Part) (i : ℕ) → i < length l.cells
    → part_at p l.cells i % modulus p ≡ (part_at p l.initial.cells i + sum_by (λ e. spread [] (part_at p l.all) (l.k * l.step.count + e) (l.base + e * l.step.stride) i) (range_with_len 0 l.c)) % modulus p
