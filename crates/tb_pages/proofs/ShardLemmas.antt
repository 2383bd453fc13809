-- Entries that ascend by their persons.
use Rattle.std.proofs.Common.{◌≡◌, ◌≢◌, ℕ, zero, suc, ◌+◌, ◌-◌, ◌<◌, ◌≤◌, Bool, true, false, cond, eqb, List, [], ◌∷◌, length, get_or, set, refl, sym, ap, ◌∙◌, inl, inr, arith}
use Rattle.std.specs.Prelude.{Option, Some, None, insert}
use Rattle.std.specs.List.{HoldsAt, slice_get}
use Rattle.std.proofs.lemmas.Option.{get_or_from_slice_get}
use Rattle.std.specs.List.Sorted.{IsNonDecreasingBy, IsPartitionPoint}
use Rattle.std.specs.Ordering.{nat_cmp, ordering_index}
use Rattle.std.specs.declared.cmp.Ordering.TheVariants.{Less, Equal, Greater}
use Rattle.std.proofs.lemmas.Bool.{cases_lt, cases_order, ne_eqb, eq-eqb, eqb-false}
use Rattle.std.proofs.lemmas.Bool.Decides.{eqb_tells, nat_tests}
use Rattle.std.proofs.lemmas.Cmp.{ranked}
use Rattle.std.proofs.lemmas.List.{get_or-set_same, get_or-set_other, length-set}
use Rattle.std.proofs.lemmas.List.Edits.{length-insert, get_or-insert_below, get_or-insert_at, get_or-insert_above}
use Rattle.tb_pages.specs.declared.shard.Entry.{Entry}
use Rattle.tb_pages.specs.Books.{Rise, held_in, IsBetween}

pub rise-tail : (e : Entry) (es : List Entry) → Rise (e ∷ es) → Rise es
rise-tail e es up = λ i j d low below. up (suc i) (suc j) d (omega arith) (omega arith)

-- ---- a search
pub person_at : (es : List Entry) (q i : ℕ) (d : Entry) → HoldsAt (λ e. nat_cmp e.person q ≡ Equal) es i → (get_or es i d).person ≡ q
person_at es q i d at = ranked (get_or es i d).person q Equal (sym (at d))

pub held_at : (es : List Entry) (q i : ℕ) (x : Entry) → Rise es → i < length es → x ≡ get_or es i x → (get_or es i x).person ≡ q → Some x ≡ held_in es q
held_at [] q i x up within is own = absurd (omega arith)
held_at (e ∷ es) q zero x up within is own = rw (eq-eqb q e.person (sym own)) (ap Some is)
held_at (e ∷ es) q (suc i) x up within is own =
    let below = up 0 (suc i) x (omega arith) within in
    let apart : q ≢ e.person = omega (arith, below, own) in
    rw (ne_eqb q e.person apart) (held_at es q i x (rise-tail e es up) (omega arith) is own)

pub held_none : (es : List Entry) (q : ℕ) → ((i : ℕ) (d : Entry) → i < length es → (get_or es i d).person ≢ q) → held_in es q ≡ None
held_none [] q apart = refl
held_none (e ∷ es) q apart =
    rw (ne_eqb q e.person (λ same. apart 0 e (omega arith) (sym same))) (held_none es q (λ i d within. apart (suc i) d (omega arith)))

index-rises : (a b q : ℕ) → a ≤ b → ordering_index (nat_cmp a q) ≤ ordering_index (nat_cmp b q)
index-rises a b q h = grind (arith, nat_tests)

-- entries may be searched
pub rises : (es : List Entry) (q : ℕ) → Rise es → IsNonDecreasingBy (λ e. ordering_index (nat_cmp e.person q)) es
rises es q up i j d low below = elim (cases_lt i j) [
  | inl h ↦ let k = up i j d h below in index-rises (get_or es i d).person (get_or es j d).person q (omega (arith, k))
  | inr h ↦ let same : i ≡ j = omega arith in rw same (omega arith)
]

pub between : (es : List Entry) (q i : ℕ) → i ≤ length es → IsPartitionPoint (λ e. nat_cmp e.person q ≡ Less) (λ e. nat_cmp e.person q ≡ Greater) es i → IsBetween es q i
between es q i le point = record {
  within = le;
  low = λ k d h within. ranked (get_or es k d).person q Less (sym (point.0 k d (omega arith) h));
  high = λ k d h within. let more = ranked (get_or es k d).person q Greater (sym (point.1 k d h within)) in omega (arith, more);
}

pub held_between : (es : List Entry) (q i : ℕ) → IsBetween es q i → held_in es q ≡ None
held_between es q i p = held_none es q (λ k d within same. elim (cases_lt k i) [
  | inl h ↦ let less = p.low k d h within in omega (arith, less, same)
  | inr h ↦ let more = p.high k d h within in omega (arith, more, same)
])

-- ---- an entry comes in the place of its person's
pub rise-set : (es : List Entry) (i : ℕ) (e : Entry) → Rise es → i < length es → ((d : Entry) → (get_or es i d).person ≡ e.person) → Rise (set es i e)
rise-set es i e up within own = λ j k d low below.
    let long = length-set es i e in
    let same : (n : ℕ) → n < length es → (get_or (set es i e) n d).person ≡ (get_or es n d).person = λ n h. elim (eqb_tells n i) [
      | inl t ↦ rw t.1 (ap (λ (x : Entry). x.person) (get_or-set_same es i e d within) ∙ sym (own d))
      | inr f ↦ ap (λ (x : Entry). x.person) (get_or-set_other es i n e d f.1)
    ] in
    let rises = up j k d low (omega arith) in
    omega (arith, same j (omega arith), same k (omega arith), rises)

set-cons : (b c : Bool) (x e : Entry) (old new : Option Entry) → (b ≡ true → c ≡ false) → new ≡ cond c (Some e) old → cond b (Some x) new ≡ cond c (Some e) (cond b (Some x) old)
set-cons true c x e old new apart more = rw (apart refl) refl
set-cons false c x e old new apart more = more

pub held_in-set : (es : List Entry) (i : ℕ) (e : Entry) (q : ℕ) → Rise es → i < length es → ((d : Entry) → (get_or es i d).person ≡ e.person)
    → held_in (set es i e) q ≡ cond (eqb q e.person) (Some e) (held_in es q)
held_in-set [] i e q up within own = absurd (omega arith)
held_in-set (x ∷ xs) zero e q up within own =
    elim (eqb_tells q e.person) [
      | inl t ↦ rw t.0 refl
      | inr f ↦ let off : eqb q x.person ≡ false = rw (own x) f.0 in rw (f.0, off) refl
    ]
held_in-set (x ∷ xs) (suc i) e q up within own =
    set-cons (eqb q x.person) (eqb q e.person) x e (held_in xs q) (held_in (set xs i e) q)
    (λ t. elim (eqb_tells q x.person) [
      | inl h ↦
          let below = up 0 (suc i) x (omega arith) within in
          let apart : q ≢ e.person = omega (arith, below, h.1, own x) in ne_eqb q e.person apart
      | inr h ↦ cc
    ])
    (held_in-set xs i e q (rise-tail x xs up) (omega arith) own)

-- ---- an entry is added
above : (es : List Entry) (i : ℕ) (e d : Entry) (k : ℕ) → i < k → i ≤ length es → get_or (insert es i e) k d ≡ get_or es (k - 1) d
above es i e d k h le =
    let is : k ≡ (k - 1) + 1 = omega arith in ap (λ n. get_or (insert es i e) n d) is ∙ get_or-insert_above es i e d (k - 1) (omega arith) le

pub rise-insert : (es : List Entry) (i : ℕ) (e : Entry) → Rise es → i ≤ length es → IsBetween es e.person i → Rise (insert es i e)
rise-insert es i e up le p = λ j k d low below.
    let long = length-insert es i e le in
    elim (cases_order k i) [
      | inl at ↦
          let first : j < i = omega arith in
          rw (at, get_or-insert_at es i e d le, get_or-insert_below es i e d j first le) (p.low j d first (omega arith))
      | inr apart ↦ elim apart [
        | inl low_k ↦
            let first : j < i = omega arith in
            rw (get_or-insert_below es i e d k low_k le, get_or-insert_below es i e d j first le) (up j k d low (omega arith))
        | inr high_k ↦
            let last : get_or (insert es i e) k d ≡ get_or es (k - 1) d = above es i e d k high_k le in
            elim (cases_order j i) [
              | inl at ↦ rw (at, get_or-insert_at es i e d le, last) (p.high (k - 1) d (omega arith) (omega arith))
              | inr off ↦ elim off [
                | inl first ↦ rw (get_or-insert_below es i e d j first le, last) (up j (k - 1) d (omega arith) (omega arith))
                | inr later ↦ rw (above es i e d j later le, last) (up (j - 1) (k - 1) d (omega arith) (omega arith))
              ]
            ]
      ]
    ]

pub none_parts : (b : Bool) (x : Entry) (o : Option Entry) → cond b (Some x) o ≡ None → (b ≡ false) × (o ≡ None)
none_parts true x o none = cc
none_parts false x o none = (refl, none)

insert-cons : (e x : Entry) (q : ℕ) (old new : Option Entry) → eqb e.person x.person ≡ false → new ≡ cond (eqb q e.person) (Some e) old
    → cond (eqb q x.person) (Some x) new ≡ cond (eqb q e.person) (Some e) (cond (eqb q x.person) (Some x) old)
insert-cons e x q old new off more =
    set-cons (eqb q x.person) (eqb q e.person) x e old new
    (λ t. elim (eqb_tells q x.person) [
      | inl h ↦ let apart : q ≢ e.person = (λ same. eqb-false e.person x.person off (sym same ∙ h.1)) in ne_eqb q e.person apart
      | inr h ↦ cc
    ]) more

pub held_in-insert : (es : List Entry) (i : ℕ) (e : Entry) (q : ℕ) → held_in es e.person ≡ None → held_in (insert es i e) q ≡ cond (eqb q e.person) (Some e) (held_in es q)
held_in-insert [] zero e q none = refl
held_in-insert [] (suc i) e q none = refl
held_in-insert (x ∷ xs) zero e q none = refl
held_in-insert (x ∷ xs) (suc i) e q none =
    let h = none_parts (eqb e.person x.person) x (held_in xs e.person) none in
    insert-cons e x q (held_in xs q) (held_in (insert xs i e) q) h.0 (held_in-insert xs i e q h.1)

-- a person above the last entry's comes last
pub after_last : (es : List Entry) (last : Entry) (q : ℕ) → Rise es → Some last ≡ slice_get es (length es - 1) → last.person < q → IsBetween es q (length es)
after_last es last q up at more = record {
  within = omega arith;
  low = λ k d h within.
      let end : get_or es (length es - 1) d ≡ last = get_or_from_slice_get es (length es - 1) last d (sym at) in
      let top : (get_or es (length es - 1) d).person < q = rw end more in
      elim (cases_lt k (length es - 1)) [
        | inl below ↦ let rises = up k (length es - 1) d below (omega arith) in omega (arith, rises, top)
        | inr same ↦ let is : k ≡ length es - 1 = omega arith in rw is top
      ];
  high = λ k d h within. absurd (omega arith);
}
