-- The variables that pass a test, in order.
use Rattle.std.proofs.Common.{◌≡◌, ℕ, zero, suc, ◌+◌, ◌<◌, ◌≤◌, Bool, true, false, cond, List, ◌∷◌, length, get_or, refl, arith}
use Rattle.std.specs.List.{filter, range_with_len}
use Rattle.std.specs.List.Sorted.{IsStrictlyIncreasing}

-- none is below the first of the range
low : (used : ℕ → Bool) (a n k : ℕ) → k < length (filter used (range_with_len a n)) → a ≤ get_or (filter used (range_with_len a n)) k 0
low used a zero k below = absurd (omega arith)
low used a (suc n) k below =
    let rest : List ℕ = filter used (range_with_len (a + 1) n) in
    elim (used a) as (λ b. k < length (cond b (a ∷ rest) rest) → a ≤ get_or (cond b (a ∷ rest) rest) k 0) [
      | true ↦ elim k as (λ k. k < length (a ∷ rest) → a ≤ get_or (a ∷ rest) k 0) [ zero ↦ λ _. omega arith | suc j ↦ λ h. omega (arith, low used (a + 1) n j (omega arith)) ]
      | false ↦ λ h. omega (arith, low used (a + 1) n k h)
    ] below

pub filter-ascends : (used : ℕ → Bool) (a n : ℕ) → IsStrictlyIncreasing (filter used (range_with_len a n))
filter-ascends used a zero k below = absurd (omega arith)
filter-ascends used a (suc n) k below =
    let rest : List ℕ = filter used (range_with_len (a + 1) n) in
    elim (used a) as (λ b. k + 1 < length (cond b (a ∷ rest) rest) → get_or (cond b (a ∷ rest) rest) k 0 < get_or (cond b (a ∷ rest) rest) (k + 1) 0) [
      | true ↦ elim k as (λ k. k + 1 < length (a ∷ rest) → get_or (a ∷ rest) k 0 < get_or (a ∷ rest) (k + 1) 0) [
        | zero ↦ λ h. omega (arith, low used (a + 1) n 0 (omega arith))
        | suc j ↦ λ h.
            let two : suc j + 1 ≡ suc (suc j) = omega arith in
            let one : j + 1 ≡ suc j = omega arith in
            rw two (rw one at (filter-ascends used (a + 1) n j (omega arith)))
      ]
      | false ↦ λ h. filter-ascends used (a + 1) n k h
    ] below

-- each is below the end of the range
pub filter-below : (used : ℕ → Bool) (a n k : ℕ) → k < length (filter used (range_with_len a n)) → get_or (filter used (range_with_len a n)) k 0 < a + n
filter-below used a zero k below = absurd (omega arith)
filter-below used a (suc n) k below =
    let rest : List ℕ = filter used (range_with_len (a + 1) n) in
    elim (used a) as (λ b. k < length (cond b (a ∷ rest) rest) → get_or (cond b (a ∷ rest) rest) k 0 < a + suc n) [
      | true ↦ elim k as (λ k. k < length (a ∷ rest) → get_or (a ∷ rest) k 0 < a + suc n) [ zero ↦ λ _. omega arith | suc j ↦ λ h. omega (arith, filter-below used (a + 1) n j (omega arith)) ]
      | false ↦ λ h. omega (arith, filter-below used (a + 1) n k h)
    ] below

-- each passes
pub filter-passes : (used : ℕ → Bool) (a n k : ℕ) → k < length (filter used (range_with_len a n)) → used (get_or (filter used (range_with_len a n)) k 0) ≡ true
filter-passes used a zero k below = absurd (omega arith)
filter-passes used a (suc n) k below =
    let rest : List ℕ = filter used (range_with_len (a + 1) n) in
    elim (used a) as (λ b. used a ≡ b → k < length (cond b (a ∷ rest) rest) → used (get_or (cond b (a ∷ rest) rest) k 0) ≡ true) [
      | true ↦ λ e. elim k as (λ k. k < length (a ∷ rest) → used (get_or (a ∷ rest) k 0) ≡ true) [ zero ↦ λ _. e | suc j ↦ λ h. filter-passes used (a + 1) n j (omega arith) ]
      | false ↦ λ e h. filter-passes used (a + 1) n k h
    ] refl below

-- they are no more than the range has
pub filter-few : (used : ℕ → Bool) (a n : ℕ) → length (filter used (range_with_len a n)) ≤ n
filter-few used a zero = omega arith
filter-few used a (suc n) =
    let rest : List ℕ = filter used (range_with_len (a + 1) n) in
    elim (used a) as (λ b. length (cond b (a ∷ rest) rest) ≤ suc n) [
      | true ↦ omega (arith, filter-few used (a + 1) n)
      | false ↦ omega (arith, filter-few used (a + 1) n)
    ]
