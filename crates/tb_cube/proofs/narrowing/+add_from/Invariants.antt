use Rattle.std.proofs.Common.{◌≡◌, ℕ, ◌+◌, ◌-◌, ◌*◌, ◌%◌, ◌<◌, length, drop}
use Rattle.std.specs.List.{sum_by, range_with_len}
use Rattle.tb_base.specs.Parts.{Part, part_at, modulus}
use Rattle.tb_cube.specs.Narrowing.{forks_of}
use Rattle.tb_cube.specs.Walks.{spread}
use Rattle.tb_cube.proofs.narrowing.+add_from.Given as goal

abbrev pub decreases-add_from : goal.decreases-add_from
decreases-add_from l = length l.steps.now - l.j

abbrev pub invariant-loop-c : goal.invariant-loop-c
invariant-loop-c l = (p : Part) (i : ℕ) → i < length l.cells
    → part_at p l.cells i % modulus p ≡ (part_at p l.initial.cells i + sum_by (λ e. spread (forks_of (drop (l.j + 1) l.steps)) (part_at p l.all) (l.k * l.step.count + e) (l.base + e * l.step.stride) i) (range_with_len 0 l.c)) % modulus p
