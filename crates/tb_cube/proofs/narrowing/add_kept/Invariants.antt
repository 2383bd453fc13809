use Rattle.std.proofs.Common.{◌≡◌, ℕ, ◌+◌, ◌%◌, ◌<◌, length, drop}
use Rattle.tb_base.specs.Parts.{Part, part_at, modulus}
use Rattle.tb_cube.specs.Narrowing.{forks_of}
use Rattle.tb_cube.specs.Walks.{kept_spread}
use Rattle.tb_cube.proofs.narrowing.add_kept.Given as goal

abbrev pub invariant-loop-one : goal.invariant-loop-one
invariant-loop-one l = (p : Part) (i : ℕ) → i < length l.cells
    → (part_at p l.cells i + kept_spread (forks_of l.steps) p (drop l.one-index l.kept) i) % modulus p
    ≡ (part_at p l.initial.cells i + kept_spread (forks_of l.steps) p l.kept i) % modulus p
