-- What a table of a release of a chain may cost.
use Rattle.std.proofs.Common.{◌≡◌, ◌∙◌, ℕ, zero, suc, ◌+◌, ◌*◌, ◌≤◌, List, [], ◌∷◌, length, take, ap, arith}
use Rattle.std.specs.Prelude.{◌-◌, max}
use Rattle.std.proofs.Math.Nat.{le-max_left, le-max_right, max-le}
use Rattle.std.proofs.lemmas.List.Sums.{sum_by-cons, sum_by-take-le}
use Rattle.tb_release.specs.Revised.{release_at}
use Rattle.tb_core.specs.Takes.{cube_price}
use Rattle.tb_model.specs.Releases.{ReleaseValue}
use Rattle.tb_past.specs.Leading.{changes_between}
use Rattle.tb_release.specs.Batches.{BatchValue}
use Rattle.tb_release.specs.Chains.{after_batch, change_count, release_after}
use Rattle.tb_session.specs.PastTables.{longest, past_price}

-- no release of the chain is longer
pub longest_has : (base : ReleaseValue) (chain : List BatchValue) (n : ℕ) → length (release_at base chain n).records ≤ longest base chain
longest_has base [] zero = omega arith
longest_has base [] (suc n) = omega arith
longest_has base (batch ∷ chain) zero = le-max_left (length base.records) (longest (after_batch base batch) chain)
longest_has base (batch ∷ chain) (suc n) =
    omega (arith, longest_has (after_batch base batch) chain n, le-max_right (length base.records) (longest (after_batch base batch) chain))

-- and none has more changes than the last
changes_after : (base : ReleaseValue) (chain : List BatchValue) → (release_after base chain).changes ≡ base.changes + change_count chain
changes_after base [] = omega arith
changes_after base (batch ∷ chain) =
    omega (arith, changes_after (after_batch base batch) chain, sum_by-cons (λ (b : BatchValue). length b.changes) batch chain)

first_changes : (chain : List BatchValue) (n : ℕ) → change_count (take n chain) ≤ change_count chain
first_changes chain n = sum_by-take-le (λ (batch : BatchValue). length batch.changes) chain n

pub all_changes : (base : ReleaseValue) (chain : List BatchValue) → change_count chain ≤ (release_after base chain).changes
all_changes base chain = omega (arith, changes_after base chain)

apart_le : (a b most : ℕ) → a ≤ most → b ≤ most → (a - b) + (b - a) ≤ most
apart_le a b most low few = omega (arith, low, few)

pub between_le : (chain : List BatchValue) (m n : ℕ) → changes_between chain m n ≤ change_count chain
between_le chain m n = apart_le (change_count (take n chain)) (change_count (take m chain)) (change_count chain) (first_changes chain n) (first_changes chain m)

-- a cube of a release of the chain
cube_le : (base : ReleaseValue) (chain : List BatchValue) (n : ℕ) → cube_price (release_at base chain n) ≤ longest base chain + (release_after base chain).changes
cube_le base chain n =
    max-le (omega (arith, longest_has base chain n)) (omega (arith, changes_after base (take n chain), changes_after base chain, first_changes chain n))

module _ (base : ReleaseValue) (chain : List BatchValue) (n p q : ℕ) where
  -- by a cube of a release of the chain, which may then be led to any other
  pub led_within : (release : ReleaseValue) → release ≡ release_at base chain n → q ≤ p + cube_price release → q + change_count chain ≤ p + past_price base chain
  led_within release is cost =
      let own : cube_price release ≡ cube_price (release_at base chain n) = ap cube_price is in
      omega (arith, cost, own, cube_le base chain n, all_changes base chain)

  -- or from its records, which may be made of all changes before it
  pub lent_within : (made : ℕ) (release : ReleaseValue) → release ≡ release_at base chain n → made ≤ p + change_count chain → q ≤ made + length release.records → q ≤ p + past_price base chain
  lent_within made release is some cost =
      let own : length release.records ≡ length (release_at base chain n).records = ap (λ (r : ReleaseValue). length r.records) is in
      omega (arith, some, cost, own, longest_has base chain n, all_changes base chain)

  pub made_within : (made : ℕ) → made ≤ p + change_count (take n chain) → made ≤ p + change_count chain
  made_within made some = omega (arith, some, first_changes chain n)

  pub made_fits : (made : ℕ) → made ≤ p + change_count (take n chain) → made ≤ p + past_price base chain
  made_fits made some = omega (arith, some, first_changes chain n, all_changes base chain)
