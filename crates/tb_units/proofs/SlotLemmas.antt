-- The slots of persons with one more link, and what a slot tells.
use Rattle.std.proofs.Common.{◌≡◌, ◌≢◌, ◌∙◌, sym, ap, refl, ℕ, zero, suc, ◌+◌, ◌-◌, ◌<◌, false, List, [], ◌∷◌, length, get_or, get_or-set_other, get_or-set_same, arith, inl, inr, add-one}
use Rattle.std.specs.Prelude.{◌==◌, replicate, slice_set}
use Rattle.std.proofs.lemmas.Bool.{cases_lt, eq-eqb, ne_eqb}
use Rattle.std.proofs.lemmas.Bool.Decides.{eqb_tells}
use Rattle.std.proofs.lemmas.List.{get_or_past, get_or-replicate, length-replicate}
use Rattle.tb_model.specs.Units.{PairValue}
use Rattle.tb_units.specs.Pairs.{has_first, pair_at, IsAt}
use Rattle.tb_units.specs.Slots.{AreSlots, slot_of}

pub slots-none : (links : List PairValue) (n : ℕ) → AreSlots links 0 (replicate n 0)
unfolding slot_of
slots-none links n = λ person. elim (cases_lt person n) [
  | inl h ↦ get_or-replicate n person 0 0 h
  | inr h ↦ get_or_past (replicate n 0) person 0 (omega (arith, h, length-replicate {A = ℕ} n 0))
]

-- a person's slot with one more link, which is the person's or another's
slot-here : (links : List PairValue) (person k : ℕ) → (pair_at links k).0 ≡ person → slot_of links person (k + 1) ≡ k + 1
unfolding slot_of
slot-here links person k is = rw (add-one, eq-eqb (pair_at links k).0 person is) refl

slot-other : (links : List PairValue) (person k : ℕ) → (pair_at links k).0 ≢ person → slot_of links person (k + 1) ≡ slot_of links person k
unfolding slot_of
slot-other links person k other = rw (add-one, ne_eqb (pair_at links k).0 person other) refl

pub slots-more : (links : List PairValue) (slots : List ℕ) (k : ℕ) → (pair_at links k).0 < length slots → AreSlots links k slots → AreSlots links (k + 1) (slice_set slots (pair_at links k).0 (k + 1))
slots-more links slots k within are = λ person.
    let at = (pair_at links k).0 in
    elim (eqb_tells at person) [
      | inl h ↦ ap (λ i. get_or (slice_set slots at (k + 1)) i 0) (sym h.1) ∙ get_or-set_same slots at (k + 1) 0 within ∙ sym (slot-here links person k h.1)
      | inr h ↦ get_or-set_other slots at person (k + 1) 0 (λ s. h.1 (sym s)) ∙ are person ∙ sym (slot-other links person k h.1)
    ]

-- the same, by the number after k
slot-last : (links : List PairValue) (person k : ℕ) → (pair_at links k).0 ≡ person → slot_of links person (suc k) ≡ suc k
unfolding slot_of
slot-last links person k is = rw (eq-eqb (pair_at links k).0 person is) refl

slot-before : (links : List PairValue) (person k : ℕ) → (pair_at links k).0 ≢ person → slot_of links person (suc k) ≡ slot_of links person k
unfolding slot_of
slot-before links person k other = rw (ne_eqb (pair_at links k).0 person other) refl

slot-zero : (links : List PairValue) (person : ℕ) → slot_of links person 0 ≡ 0
unfolding slot_of
slot-zero links person = refl

-- a slot that isn't 0 is that of a link
slot-found : (links : List PairValue) (person n k : ℕ) → slot_of links person n ≡ k + 1 → (k < n) × ((pair_at links k).0 ≡ person)
slot-found links person zero k is =
    let none : 0 ≡ k + 1 = sym (slot-zero links person) ∙ is in
    absurd (omega (arith, none))
slot-found links person (suc n) k is = elim (eqb_tells (pair_at links n).0 person) [
  | inl h ↦
      let last : suc n ≡ k + 1 = sym (slot-last links person n h.1) ∙ is in
      let same : n ≡ k = omega (arith, last) in
      (omega (arith, same), ap (λ i. (pair_at links i).0) (sym same) ∙ h.1)
  | inr h ↦
      let (low, here) = slot-found links person n k (sym (slot-before links person n h.1) ∙ is) in
      (omega (arith, low), here)
]

-- where a slot is 0 no link is the person's
none-before : (links : List PairValue) (person n k : ℕ) → slot_of links person n ≡ 0 → k < n → (pair_at links k).0 ≢ person
none-before links person zero k is below = absurd (omega (arith, below))
none-before links person (suc n) k is below = elim (eqb_tells (pair_at links n).0 person) [
  | inl h ↦
      let last : suc n ≡ 0 = sym (slot-last links person n h.1) ∙ is in
      absurd (omega (arith, last))
  | inr h ↦ elim (cases_lt k n) [
    | inl low ↦ none-before links person n k (sym (slot-before links person n h.1) ∙ is) low
    | inr high ↦
        let same : n ≡ k = omega (arith, high, below) in
        λ s. h.1 (ap (λ i. (pair_at links i).0) same ∙ s)
  ]
]

no-first : (links : List PairValue) (person : ℕ) → ((k : ℕ) → k < length links → (pair_at links k).0 ≢ person) → has_first links person ≡ false
no-first [] person none = refl
no-first (link ∷ links) person none =
    let other : (person == link.0) ≡ false = ne_eqb person link.0 (λ s. none 0 (omega arith) (sym s)) in
    rw other (no-first links person (λ k below. none (suc k) (omega (arith, below))))

-- what a person's slot tells
pub found : (links : List PairValue) (slots : List ℕ) (person slot : ℕ) → AreSlots links (length links) slots → slot ≡ get_or slots person 0 → 0 < slot → IsAt links person (slot - 1)
found links slots person slot are is some =
    let more : slot ≡ slot - 1 + 1 = omega (arith, some) in
    slot-found links person (length links) (slot - 1) (sym (are person) ∙ sym is ∙ more)

pub missing : (links : List PairValue) (slots : List ℕ) (person slot : ℕ) → AreSlots links (length links) slots → slot ≡ get_or slots person 0 → slot ≡ 0 → has_first links person ≡ false
missing links slots person slot are is none =
    no-first links person (λ k below. none-before links person (length links) k (sym (are person) ∙ sym is ∙ none) below)
