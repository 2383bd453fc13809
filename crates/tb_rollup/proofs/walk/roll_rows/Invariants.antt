use Rattle.std.proofs.Common.{◌≡◌, ℕ, ◌+◌, ◌*◌, ◌%◌, ◌<◌, length, drop}
use Rattle.std.specs.List.{sum_by, range_with_len}
use Rattle.tb_base.specs.Parts.{Part, part_at, modulus}
use Rattle.tb_plan.specs.Steps.{step_at}
use Rattle.tb_rollup.specs.Rolling.{spread}
use Rattle.tb_rollup.proofs.walk.roll_rows.Given as goal

abbrev pub invariant-loop-c : goal.invariant-loop-c
invariant-loop-c l = (p : Part) (i : ℕ) → i < length l.cells
    → part_at p l.cells i % modulus p ≡ (part_at p l.initial.cells i + sum_by (λ e. spread l.plan (drop (l.j + 1) l.cube.vars) (part_at p l.cube.cells) (l.k * l.n + e) (l.base + step_at l.plan l.v e) i) (range_with_len 0 l.c)) % modulus p
