-- The releases of a chain that goes on.
use Rattle.std.proofs.Common.{◌≡◌, ℕ, zero, suc, ◌+◌, ◌≤◌, List, [], ◌∷◌, ◌++◌, take, drop, length, Some, refl, sym, ap, ◌∙◌, subst, add-one, arith}
use Rattle.std.specs.Prelude.{All, slice_get}
use Rattle.std.specs.List.{AllByRecursion}
use Rattle.std.proofs.lemmas.List.{append_assoc, take-append-drop}
use Rattle.std.proofs.lemmas.List.Sums.{sum_by_push, sum_by-cons}
use Rattle.tb_base.specs.Records.{AllFit}
use Rattle.tb_model.specs.Releases.{ReleaseValue}
use Rattle.tb_release.specs.Batches.{BatchValue, Follows}
use Rattle.tb_release.specs.Chains.{IsChain, after_batch, change_count, release_after}
use Rattle.tb_release.specs.Releases.{IsSound}
use Rattle.tb_release.specs.Results.{ChangeFits}
use Rattle.tb_release.specs.Revised.{IsRevised, release_at}
use Rattle.tb_release.proofs.Chained.{chains_hold, chains_go_on, chains_split}
use Rattle.tb_release.proofs.FitTests.{drop_here}
use Rattle.tb_release.proofs.ChainFits.{fit_chain}

-- ---- a part of a chain
pub all_first : {X : Type 0} (P : X → Type 0) (xs ys : List X) → AllByRecursion P (xs ++ ys) → AllByRecursion P xs
all_first P [] ys all = tt
all_first P (x ∷ xs) ys all = (all.0, all_first P xs ys all.1)

pub all_rest : {X : Type 0} (P : X → Type 0) (xs ys : List X) → AllByRecursion P (xs ++ ys) → AllByRecursion P ys
all_rest P [] ys all = all
all_rest P (x ∷ xs) ys all = all_rest P xs ys all.1

pub all_and : {X : Type 0} (P : X → Type 0) (xs : List X) (x : X) → AllByRecursion P xs → P x → AllByRecursion P (xs ++ x ∷ [])
all_and P [] x all one = (one, tt)
all_and P (y ∷ xs) x all one = (all.0, all_and P xs x all.1 one)

pub after-append : (release : ReleaseValue) (xs ys : List BatchValue) → release_after release (xs ++ ys) ≡ release_after (release_after release xs) ys
after-append release [] ys = refl
after-append release (x ∷ xs) ys = after-append (after_batch release x) xs ys

-- a batch's changes fit a shape
abbrev pub BatchFits : List ℕ → BatchValue → Type 0
BatchFits shape batch = All (ChangeFits shape) batch.changes

-- the first batches of a chain
pub revised_to : (shape : List ℕ) (base : ReleaseValue) (first rest : List BatchValue) → IsRevised shape base (first ++ rest)
    → IsRevised shape base first
revised_to shape base first rest h = record {
  sound = h.sound;
  first = h.first;
  fit = h.fit;
  is_chain = (chains_split base first rest h.is_chain).0;
  changes_fit = all_first (BatchFits shape) first rest h.changes_fit;
}

pub revised_at : (shape : List ℕ) (base : ReleaseValue) (chain : List BatchValue) (n : ℕ) → IsRevised shape base chain → IsRevised shape base (take n chain)
revised_at shape base chain n h = revised_to shape base (take n chain) (drop n chain) (subst (IsRevised shape base) (sym (take-append-drop n chain)) h)

-- the release after a whole chain: it is sound, fits and has the chain's length as its number
pub record IsAfter (shape : List ℕ) (base : ReleaseValue) (chain : List BatchValue) : Type 0 where
  pub sound : IsSound (release_after base chain)
  pub fit : AllFit shape (release_after base chain).records
  pub number : (release_after base chain).number ≡ length chain

pub after_all : (shape : List ℕ) (base : ReleaseValue) (chain : List BatchValue) → IsRevised shape base chain → IsAfter shape base chain
after_all shape base chain h =
    let facts = chains_hold base chain h.sound h.is_chain in record {
      sound = facts.sound;
      fit = fit_chain shape base chain h.changes_fit h.fit;
      number = let n = facts.number in let z = h.first in omega arith;
    }

-- a chain that goes on by a batch
pub revised_on : (shape : List ℕ) (base : ReleaseValue) (chain : List BatchValue) (batch : BatchValue)
    → IsRevised shape base chain → Follows (release_after base chain) batch → BatchFits shape batch → IsRevised shape base (chain ++ batch ∷ [])
revised_on shape base chain batch h follows fits = record {
  sound = h.sound;
  first = h.first;
  fit = h.fit;
  is_chain = chains_go_on base chain batch h.is_chain follows;
  changes_fit = all_and (BatchFits shape) chain batch h.changes_fit fits;
}

-- ---- a list of batches that grows to the end of a chain
pub take_here : {X : Type 0} (xs : List X) (i : ℕ) (x : X) → slice_get xs i ≡ Some x → take (i + 1) xs ≡ take i xs ++ x ∷ []
take_here [] i x is = cc
take_here (y ∷ xs) zero x is = let same : y ≡ x = cc in ap (λ z. z ∷ []) same
take_here (y ∷ xs) (suc i) x is = rw add-one (ap (λ zs. y ∷ zs) (rw add-one at (take_here xs i x is)))

pub one_more_batch : (chain batches new : List BatchValue) (first i : ℕ) (there one : BatchValue) → slice_get chain i ≡ Some there → one ≡ there → new ≡ batches ++ one ∷ []
    → batches ++ drop i chain ≡ drop first chain → new ++ drop (i + 1) chain ≡ drop first chain
one_more_batch chain batches new first i there one at same is so_far =
    rw (is, same) (append_assoc batches (there ∷ []) (drop (i + 1) chain)) ∙ ap (λ rest. batches ++ rest) (sym (drop_here chain i there at)) ∙ so_far

-- ---- the batch at a place of a chain
-- it follows the release after those before it, and leads to the next
pub record StandsAt (base : ReleaseValue) (chain : List BatchValue) (i : ℕ) (batch : BatchValue) : Type 0 where
  pub follows : Follows (release_at base chain i) batch
  pub sound : IsSound (release_at base chain i)
  pub next : release_at base chain (i + 1) ≡ after_batch (release_at base chain i) batch
  pub count : change_count (take (i + 1) chain) ≡ change_count (take i chain) + length batch.changes

whole_at : (chain : List BatchValue) (i : ℕ) (batch : BatchValue) → slice_get chain i ≡ Some batch → take i chain ++ batch ∷ drop (i + 1) chain ≡ chain
whole_at chain i batch at = ap (λ rest. take i chain ++ rest) (sym (drop_here chain i batch at)) ∙ take-append-drop i chain

pub stands_at : (base : ReleaseValue) (chain : List BatchValue) (i : ℕ) (batch : BatchValue) → IsSound base → IsChain base chain → slice_get chain i ≡ Some batch → StandsAt base chain i batch
stands_at base chain i batch sound is at =
    let parts = chains_split base (take i chain) (batch ∷ drop (i + 1) chain) (subst (IsChain base) (sym (whole_at chain i batch at)) is) in
    let facts = chains_hold base (take i chain) sound parts.0 in record {
      follows = parts.1.0;
      sound = facts.sound;
      next = ap (release_after base) (take_here chain i batch at) ∙ after-append base (take i chain) (batch ∷ []);
      count = ap change_count (take_here chain i batch at) ∙ sum_by_push (λ (b : BatchValue). length b.changes) (take i chain) batch;
    }

-- where the records fit a shape, its changes do
pub fits_at : (shape : List ℕ) (base : ReleaseValue) (chain : List BatchValue) (i : ℕ) (batch : BatchValue) → IsRevised shape base chain → slice_get chain i ≡ Some batch → BatchFits shape batch
fits_at shape base chain i batch h at =
    (all_rest (BatchFits shape) (take i chain) (batch ∷ drop (i + 1) chain) (subst (AllByRecursion (BatchFits shape)) (sym (whole_at chain i batch at)) h.changes_fit)).0

-- fewer batches have no more changes
pub count_le : (chain : List BatchValue) (i n : ℕ) → i ≤ n → change_count (take i chain) ≤ change_count (take n chain)
count_le [] zero n low = omega arith
count_le [] (suc i) zero low = omega arith
count_le [] (suc i) (suc n) low = omega arith
count_le (b ∷ bs) zero n low = omega arith
count_le (b ∷ bs) (suc i) zero low = absurd (omega arith)
count_le (b ∷ bs) (suc i) (suc n) low =
    omega (arith, count_le bs i n (omega arith), sum_by-cons (λ (x : BatchValue). length x.changes) b (take i bs), sum_by-cons (λ (x : BatchValue). length x.changes) b (take n bs))
