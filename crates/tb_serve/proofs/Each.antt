-- A loop that changes each element of a list in place.
use Rattle.std.proofs.Common.{◌≡◌, ◌≢◌, ◌∙◌, sym, ap, refl, subst, ℕ, zero, suc, ◌+◌, ◌<◌, ◌≤◌, List, ◌∷◌, length, get_or, arith, get_or-set_other, get_or-set_same, below_more, inl, inr}
use Rattle.std.specs.Prelude.{All, slice_index_or}
use Rattle.std.proofs.Math.ListN.{set}
use Rattle.tb_serve.specs.Each.{Each}
use Rattle.std.proofs.lemmas.List.{get_or_default}
use Rattle.std.proofs.lemmas.Bool.{cases_lt}

-- one more is done
pub done_more : {A : Type 0} (R : ℕ → A → A → Type 0) (first now : List A) (index : ℕ) (e new : A) → index < length now
    → ((i : ℕ) (d : A) → i < index → R i (slice_index_or first i d) (slice_index_or now i d))
    → ((i : ℕ) (d : A) → index ≤ i → slice_index_or now i d ≡ slice_index_or first i d)
    → R index (slice_index_or now index e) new
    → (i : ℕ) (d : A) → i < index + 1 → R i (slice_index_or first i d) (slice_index_or (set now index new) i d)
done_more R first now index e new lt done rest step i d below = below_more (λ (k : ℕ). R k (get_or first k d) (get_or
    (set now index new) k d)) index
    (λ k h. let ne : k ≢ index = omega arith in subst (λ x. R k (get_or first k d) x) (sym (get_or-set_other now index k new d ne))
    (done k d h))
    (subst (λ x. R index (get_or first index d) x) (sym (get_or-set_same now index new d lt)) (subst (λ x. R index x new)
    (get_or_default now index e d lt ∙ rest index d (omega arith)) step))
    i below

-- the others are as before
pub rest_less : {A : Type 0} (first now : List A) (index : ℕ) (new : A)
    → ((i : ℕ) (d : A) → index ≤ i → slice_index_or now i d ≡ slice_index_or first i d)
    → (i : ℕ) (d : A) → index + 1 ≤ i → slice_index_or (set now index new) i d ≡ slice_index_or first i d
rest_less first now index new rest i d le = let ne : i ≢ index = omega arith in get_or-set_other now index i new d ne ∙ rest i d
    (omega arith)

-- the elements before an index are done, and the others are as they were
pub record Halfway {A : Type 0} (R : ℕ → A → A → Type 0) (first now : List A) (index : ℕ) : Type 0 where
  pub done : (i : ℕ) (d : A) → i < index → R i (slice_index_or first i d) (slice_index_or now i d)
  pub rest : (i : ℕ) (d : A) → index ≤ i → slice_index_or now i d ≡ slice_index_or first i d

pub half_start : {A : Type 0} (R : ℕ → A → A → Type 0) (xs : List A) → Halfway R xs xs 0
half_start R xs = record { done = λ i d lt. absurd (omega arith); rest = λ i d le. refl }

pub half_more : {A : Type 0} (R : ℕ → A → A → Type 0) (first now : List A) (index : ℕ) (e new : A) → index < length now
    → Halfway R first now index → R index (slice_index_or now index e) new → Halfway R first (set now index new) (index + 1)
half_more R first now index e new lt h step = record {
  done = done_more R first now index e new lt h.done h.rest step;
  rest = rest_less first now index new h.rest;
}

pub half_whole : {A : Type 0} (R : ℕ → A → A → Type 0) (first now : List A) (index : ℕ) → Halfway R first now index
    → length now ≡ length first → length first ≤ index → Each R first now
half_whole R first now index h same le = record { same_length = same; at = λ i d lt. h.done i d (omega arith) }

-- a weaker relation holds of all, also of those that aren't done
pub half_weaker : {A : Type 0} (R S : ℕ → A → A → Type 0) (first now : List A) (index : ℕ) → Halfway R first now index
    → length now ≡ length first
    → ((i : ℕ) (x y : A) → R i x y → S i x y) → ((i : ℕ) (x : A) → S i x x) → Each S first now
half_weaker R S first now index h same weaker self = record {
  same_length = same;
  at = λ i d lt. at_either R S first now index h weaker self i d;
} where
  at_either : {A : Type 0} (R S : ℕ → A → A → Type 0) (first now : List A) (index : ℕ) → Halfway R first now index → ((i : ℕ) (x y : A)
      → R i x y → S i x y) → ((i : ℕ) (x : A) → S i x x)
      → (i : ℕ) (d : A) → S i (slice_index_or first i d) (slice_index_or now i d)
  at_either R S first now index h weaker self i d = elim (cases_lt i index) [
    | inl lt ↦ weaker i _ _ (h.done i d lt)
    | inr le ↦ subst (λ x. S i (slice_index_or first i d) x) (sym (h.rest i d le)) (self i (slice_index_or first i d))
  ]

-- ---- the first element of a list, and the others
-- what is true of them by their places
pub first_of : {A : Type 0} (P : A → Type 0) (xs : List A) (y : A) (ys : List A) → xs ≡ y ∷ ys → ((d : A) → P (slice_index_or xs 0 d)) → P y
first_of P xs y ys is at = subst (λ zs. P (slice_index_or zs 0 y)) is (at y)

pub others_of : {A : Type 0} (P : A → Type 0) (xs : List A) (y : A) (ys : List A) → xs ≡ y ∷ ys → ((i : ℕ) (d : A) → 0 < i → i < length xs → P (slice_index_or xs i d)) → All P ys
others_of P xs y ys is at i d lt =
    let long : length xs ≡ length (y ∷ ys) = ap length is in
    subst (λ zs. P (slice_index_or zs (suc i) d)) is (at (suc i) d (omega arith) (omega (arith, long, lt)))

-- and the other way round, of two lists
pub first_at : {A : Type 0} (R : A → A → Type 0) (xs zs : List A) (y : A) (ys : List A) (u : A) (us : List A) → xs ≡ y ∷ ys → zs ≡ u ∷ us → R y u → (d : A) → R (slice_index_or xs 0 d) (slice_index_or zs 0 d)
first_at {A = A} R xs zs y ys u us is then r d = subst (λ (p : List A × List A). R (slice_index_or p.0 0 d) (slice_index_or p.1 0 d)) (λ i. (sym is i, sym then i)) r

pub others_at : {A : Type 0} (R : A → A → Type 0) (xs zs : List A) (y : A) (ys : List A) (u : A) (us : List A) → xs ≡ y ∷ ys → zs ≡ u ∷ us → Each (λ _. R) ys us
    → (i : ℕ) (d : A) → 0 < i → i < length xs → R (slice_index_or xs i d) (slice_index_or zs i d)
others_at {A = A} R xs zs y ys u us is then r zero d some lt = absurd (omega arith)
others_at {A = A} R xs zs y ys u us is then r (suc i) d some lt =
    let long : length xs ≡ length (y ∷ ys) = ap length is in
    subst (λ (p : List A × List A). R (slice_index_or p.0 (suc i) d) (slice_index_or p.1 (suc i) d)) (λ j. (sym is j, sym then j)) (r.at i d (omega (arith, long, lt)))

-- lists that are others
pub each_of : {A : Type 0} (R : ℕ → A → A → Type 0) (xs ys us vs : List A) → xs ≡ us → ys ≡ vs → Each R xs ys → Each R us vs
each_of {A = A} R xs ys us vs p q each = subst (λ (l : List A × List A). Each R l.0 l.1) (λ i. (p i, q i)) each
