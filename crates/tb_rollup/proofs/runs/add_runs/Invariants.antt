use Rattle.std.proofs.Common.{◌≡◌, ℕ, ◌+◌, ◌*◌, ◌%◌, ◌<◌, cond, length}
use Rattle.std.specs.Prelude.{◌==◌, slice_index}
use Rattle.std.specs.List.{sum_by, range_with_len}
use Rattle.tb_base.specs.Parts.{Part, part_at, modulus}
use Rattle.tb_rollup.specs.Rolling.{run_sum}
use Rattle.tb_rollup.proofs.runs.add_runs.Given as goal

abbrev pub invariant-loop-c : goal.invariant-loop-c
invariant-loop-c l = (p : Part) (i : ℕ) → i < length l.cells
    → part_at p l.cells i % modulus p ≡ (part_at p l.initial.cells i + sum_by (λ e. cond (l.base + slice_index l.steps e == i) (run_sum (part_at p l.all) (l.from + e * l.run) l.run) 0) (range_with_len 0 l.c)) % modulus p
