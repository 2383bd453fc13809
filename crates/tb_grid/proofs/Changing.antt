-- Numbers that are changed one by one, each by its place.
use Rattle.std.proofs.Common.{◌≡◌, ℕ, ◌+◌, ◌<◌, ◌≤◌, cond, List, length, get_or, set, ap, sym, ◌∙◌, inl, inr, arith}
use Rattle.std.specs.Prelude.{nat_lt}
use Rattle.std.proofs.lemmas.Bool.{lt-ltb, le-ltb, cases_lt}
use Rattle.std.proofs.lemmas.Bool.Decides.{eqb_tells}
use Rattle.std.proofs.lemmas.List.{get_or-set_same, get_or-set_other}

-- of some numbers, the first k are changed, each by its place
abbrev pub ChangedBelow : ℕ → (ℕ → ℕ → ℕ) → ℕ → List ℕ → List ℕ → Type 0
ChangedBelow k change n old new =
    (i : ℕ) → i < n → get_or new i 0 ≡ cond (nat_lt i k) (change i (get_or old i 0)) (get_or old i 0)

pub none-changed : (change : ℕ → ℕ → ℕ) (n : ℕ) (old : List ℕ) → ChangedBelow 0 change n old old
none-changed change n old i below = sym (ap (λ b. cond b (change i (get_or old i 0)) (get_or old i 0)) (le-ltb i 0 (omega arith)))

same-below : (i k : ℕ) → (i ≡ k → ⊥) → nat_lt i k ≡ nat_lt i (k + 1)
same-below i k apart = elim (cases_lt i k) [
  | inl low ↦ lt-ltb i k low ∙ sym (lt-ltb i (k + 1) (omega (arith, low)))
  | inr high ↦
      let above : k + 1 ≤ i = omega (arith, high, apart) in
      le-ltb i k high ∙ sym (le-ltb i (k + 1) above)
]

pub one-changed : (k : ℕ) (change : ℕ → ℕ → ℕ) (n : ℕ) (old numbers : List ℕ) (value : ℕ) → n ≤ length numbers → k < n
    → value ≡ change k (get_or numbers k 0) → ChangedBelow k change n old numbers → ChangedBelow (k + 1) change n old (set numbers k value)
one-changed k change n old numbers value long there made before i below =
    elim (eqb_tells i k) [
      | inl h ↦
          let was : get_or numbers k 0 ≡ get_or old k 0 = before k there ∙ ap (λ b. cond b (change k (get_or old k 0)) (get_or old k 0)) (le-ltb k k (omega arith)) in
          rw (h.1, lt-ltb k (k + 1) (omega arith), get_or-set_same numbers k value 0 (omega (arith, there, long))) (made ∙ ap (change k) was)
      | inr h ↦
          get_or-set_other numbers k i value 0 h.1 ∙ before i below
          ∙ ap (λ b. cond b (change i (get_or old i 0)) (get_or old i 0)) (same-below i k h.1)
    ]

pub all-changed : (k : ℕ) (change : ℕ → ℕ → ℕ) (n : ℕ) (old new : List ℕ) → n ≤ k → ChangedBelow k change n old new
    → (i : ℕ) → i < n → get_or new i 0 ≡ change i (get_or old i 0)
all-changed k change n old new done before i below =
    before i below ∙ ap (λ b. cond b (change i (get_or old i 0)) (get_or old i 0)) (lt-ltb i k (omega (arith, below, done)))
