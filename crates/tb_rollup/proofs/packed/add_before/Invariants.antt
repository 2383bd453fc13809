use Rattle.std.proofs.Common.{◌≡◌, ◌+◌, ◌%◌, length}
use Rattle.std.specs.List.{sum_by}
use Rattle.tb_base.specs.Parts.{Part, part, modulus}
use Rattle.tb_rollup.specs.Rolling.{kept_after, kept_before}
use Rattle.tb_rollup.proofs.packed.add_before.Given as goal

abbrev pub invariant-loop-left : goal.invariant-loop-left
invariant-loop-left l = record {
  after : kept_after l.end l.left ≡ kept_after l.end l.kept;
  sums : (p : Part) → (part p l.sum + sum_by (λ k. part p k.cell) (kept_before l.end l.left)) % modulus p
      ≡ (part p l.initial.sum + sum_by (λ k. part p k.cell) (kept_before l.end l.kept)) % modulus p;
}

abbrev pub decreases-loop-left : goal.decreases-loop-left
decreases-loop-left l = length l.left
