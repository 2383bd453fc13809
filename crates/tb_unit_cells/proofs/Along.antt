-- A walk along the chain of a dwelling's links.
use Rattle.std.proofs.Common.{◌≡◌, ◌∙◌, sym, ap, refl, ℕ, zero, suc, ◌-◌, ◌<◌, ◌≤◌, ◌||◌, Bool, false, List, length, arith, inl, inr}
use Rattle.std.specs.Prelude.{◌==◌}
use Rattle.std.proofs.lemmas.Bool.{cases_Bool, eq-eqb}
use Rattle.std.proofs.lemmas.Bool.Decides.{eqb_tells}
use Rattle.tb_base.specs.declared.cells.Cell.{Cell}
use Rattle.tb_base.specs.Parts.{modulus, part_at}
use Rattle.tb_base.proofs.PartLemmas.{nothing}
use Rattle.tb_model.specs.Units.{PairValue}
use Rattle.tb_marks.specs.Marks.{AreMarked}
use Rattle.tb_marks.proofs.Marking.{marked-both, marked-same}
use Rattle.tb_units.specs.Chains.{any_to, last_to}
use Rattle.tb_units.specs.Pairs.{pair_at}

-- where the last link is, and that no link after it matters
any-last : (links : List PairValue) (number : ℕ) (test : ℕ → Bool) (n : ℕ) → any_to links number test (last_to links number n) ≡ any_to links number test n
unfolding any_to last_to
any-last links number test zero = refl
any-last links number test (suc n) = elim (cases_Bool ((pair_at links n).1 == number)) [
  | inl t ↦ let e : last_to links number (suc n) ≡ suc n = rw t refl in ap (any_to links number test) e
  | inr t ↦
      let e : last_to links number (suc n) ≡ last_to links number n = rw t refl in
      let f : any_to links number test (suc n) ≡ any_to links number test n = rw t refl in
      ap (any_to links number test) e ∙ any-last links number test n ∙ sym f
]

pub last-below : (links : List PairValue) (number n : ℕ) → last_to links number n ≤ n
unfolding last_to
last-below links number zero = omega arith
last-below links number (suc n) = elim (cases_Bool ((pair_at links n).1 == number)) [
  | inl t ↦ rw t (omega arith)
  | inr t ↦ rw t (omega (arith, last-below links number n))
]

last-at : (links : List PairValue) (number n j : ℕ) → last_to links number n ≡ suc j → (j < n) × ((pair_at links j).1 ≡ number)
unfolding last_to
last-at links number zero j h = absurd (omega (arith, h))
last-at links number (suc n) j h = elim (eqb_tells (pair_at links n).1 number) [
  | inl t ↦
      let g : suc n ≡ suc j = rw t.0 at h in
      let same : n ≡ j = omega (arith, g) in
      (omega (arith, same), ap (λ i. (pair_at links i).1) (sym same) ∙ t.1)
  | inr t ↦
      let g : last_to links number n ≡ suc j = rw t.0 at h in
      let r = last-at links number n j g in
      (omega (arith, r.0), r.1)
]

any-here : (links : List PairValue) (number : ℕ) (test : ℕ → Bool) (j : ℕ) → (pair_at links j).1 ≡ number → (test j || any_to links number test (last_to links number j)) ≡ any_to links number test (suc j)
unfolding any_to
any-here links number test j is =
    let f : any_to links number test (suc j) ≡ (test j || any_to links number test j) = rw (eq-eqb (pair_at links j).1 number is) refl in
    ap (λ b. test j || b) (any-last links number test j) ∙ sym f

none-marked : (hit : ℕ → Bool) (stamp key : ℕ) (seen : List ℕ) (cells : List Cell) → ((i : ℕ) → hit i ≡ false) → AreMarked hit stamp key seen cells seen cells
none-marked hit stamp key seen cells none = λ i below. record {
  stamps = rw (none i) refl;
  parts = λ p. rw (none i) (nothing (modulus p) (part_at p cells i) 0 refl);
}

module _ (links : List PairValue) (number : ℕ) (test : ℕ → ℕ → Bool) (stamp key : ℕ) (first : List ℕ) (start : List Cell) where
  -- the walk has come to link k - 1: what is marked from here on by it and those before it is marked from the start by all
  pub record Along (k : ℕ) (seen : List ℕ) (cells : List Cell) : Type 0 where
    pub before : ℕ
    pub within : before ≤ length links
    pub is : k ≡ last_to links number before
    pub goes : (seen' : List ℕ) (cells' : List Cell) → AreMarked (λ i. any_to links number (test i) k) stamp key seen cells seen' cells'
        → AreMarked (λ i. any_to links number (test i) (length links)) stamp key first start seen' cells'

  pub along-start : (k : ℕ) → k ≡ last_to links number (length links) → Along k first start
  along-start k is = record {
    before = length links;
    within = omega arith;
    is = is;
    goes = λ seen' cells' m. marked-same (λ i. any_to links number (test i) k) (λ i. any_to links number (test i) (length links)) stamp key first seen' start cells'
        (λ i _. ap (any_to links number (test i)) is ∙ any-last links number (test i) (length links)) m;
  }

  pub along-below : (k : ℕ) (seen : List ℕ) (cells : List Cell) → Along k seen cells → k ≤ length links
  along-below k seen cells a = omega (arith, a.is, a.within, last-below links number a.before)

  pub along-more : (k next : ℕ) (seen mid : List ℕ) (cells cells' : List Cell) → Along k seen cells → 0 < k → length cells' ≡ length cells
      → AreMarked (λ i. test i (k - 1)) stamp key seen cells mid cells' → next ≡ last_to links (pair_at links (k - 1)).1 (k - 1) → Along next mid cells'
  along-more zero next seen mid cells cells' a some long m is = absurd (omega (arith, some))
  along-more (suc j) next seen mid cells cells' a some long m is =
      let back : suc j - 1 ≡ j = omega arith in
      let at = last-at links number a.before j (sym a.is) in
      let next_is : next ≡ last_to links number j = is ∙ ap (λ i. last_to links (pair_at links i).1 i) back ∙ ap (λ n. last_to links n j) at.1 in
      record {
        before = j;
        within = omega (arith, at.0, a.within);
        is = next_is;
        goes = λ seen' cells'' rest. a.goes seen' cells''
            (marked-same (λ i. test i (suc j - 1) || any_to links number (test i) next) (λ i. any_to links number (test i) (suc j)) stamp key seen seen' cells cells''
            (λ i _. ap (λ k. test i k || any_to links number (test i) next) back ∙ ap (λ n. test i j || any_to links number (test i) n) next_is ∙ any-here links number (test i) j at.1)
            (marked-both (λ i. test i (suc j - 1)) (λ i. any_to links number (test i) next) stamp key seen mid seen' cells cells' cells'' long m rest));
      }

  any-none : (test : ℕ → Bool) → any_to links number test 0 ≡ false
  unfolding any_to
  any-none test = refl

  pub along-end : (k : ℕ) (seen : List ℕ) (cells : List Cell) → Along k seen cells → k ≡ 0 → AreMarked (λ i. any_to links number (test i) (length links)) stamp key first start seen cells
  along-end k seen cells a none = a.goes seen cells (none-marked (λ i. any_to links number (test i) k) stamp key seen cells (λ i. ap (any_to links number (test i)) none ∙ any-none (test i)))
