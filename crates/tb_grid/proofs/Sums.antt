-- Sums over the places that lie in a place.
use Rattle.std.proofs.Common.{◌≡◌, ℕ, zero, suc, ◌+◌, ◌-◌, ◌*◌, ◌/◌, ◌%◌, ◌<◌, ◌≤◌, ◌&&◌, ◌||◌, Bool, true, false, cond, List, [], ◌∷◌, length, get_or, refl, ap, sym, ◌∙◌, inl, inr, arith, add-one}
use Rattle.std.specs.Prelude.{◌==◌, nat_lt}
use Rattle.std.specs.List.{sum_by, range_with_len}
use Rattle.std.proofs.Math.Nat.{mod-add-div', mod-mod}
use Rattle.std.proofs.lemmas.Bool.{cases_lt, lt-ltb, le-ltb, ne_eqb, eq-eqb}
use Rattle.std.proofs.lemmas.Bool.Decides.{eqb_tells}
use Rattle.std.proofs.lemmas.Nat.{mod_below, div_below, div-mul-add, mod-mul-add, mul-add-lt}
use Rattle.std.proofs.lemmas.List.Sums.{sum_by-cons}
use Rattle.tb_model.specs.RowMajor.{product}
use Rattle.tb_model.proofs.RowMajorLemmas.{some_rows}
use Rattle.tb_model.proofs.SumLemmas.{sum_by-ext, sum_by-none, sum_by-add, sum_by-mod}
use Rattle.tb_grid.specs.Totals.{total_at}

-- a sum over a range, by its terms alone
pub sum-range : (f g : ℕ → ℕ) (a n : ℕ) → ((e : ℕ) → e < a + n → f e ≡ g e) → sum_by f (range_with_len a n) ≡ sum_by g (range_with_len a n)
sum-range f g a zero same = refl
sum-range f g a (suc n) same =
    rw (sum_by-cons f a (range_with_len (a + 1) n), sum_by-cons g a (range_with_len (a + 1) n), same a (omega arith), sum-range f g (a + 1) n (λ e below. same e (omega arith))) refl

-- a sum over a range with one more number
sum-suc : (f : ℕ → ℕ) (a n : ℕ) → sum_by f (range_with_len a (suc n)) ≡ sum_by f (range_with_len a n) + f (a + n)
sum-suc f a zero = let e : a + 0 ≡ a = omega arith in rw e (omega arith)
sum-suc f a (suc n) =
    let same : a + 1 + n ≡ a + suc n = omega arith in
    rw (sum_by-cons f a (range_with_len (a + 1) (suc n)), sum-suc f (a + 1) n, sum_by-cons f a (range_with_len (a + 1) n), same) (omega arith)

pub sum-more : (f : ℕ → ℕ) (a n : ℕ) → sum_by f (range_with_len a (n + 1)) ≡ sum_by f (range_with_len a n) + f (a + n)
sum-more f a n = rw add-one (sum-suc f a n)

-- the same modulo a number
pub sum-range-mod : (f g : ℕ → ℕ) (m n : ℕ) → ((e : ℕ) → e < n → f e % m ≡ g e % m) → sum_by f (range_with_len 0 n) % m ≡ sum_by g (range_with_len 0 n) % m
sum-range-mod f g m n same =
    sym (sum_by-mod f m (range_with_len 0 n))
    ∙ ap (λ x. x % m) (sum-range (λ e. f e % m) (λ e. g e % m) 0 n (λ e below. same e (omega arith)))
    ∙ sum_by-mod g m (range_with_len 0 n)

range-never : (t : ℕ) (a low n : ℕ) → a < low → sum_by (λ k. cond (a == k) t 0) (range_with_len low n) ≡ 0
range-never t a low zero below = refl
range-never t a low (suc n) below =
    rw (sum_by-cons (λ k. cond (a == k) t 0) low (range_with_len (low + 1) n), range-never t a (low + 1) n (omega arith))
    (elim (eqb_tells a low) [ inl h ↦ absurd (omega (arith, h.1)) | inr h ↦ rw h.0 refl ])

-- a number is exactly one of a range
pub range-once : (t : ℕ) (a low n : ℕ) → low ≤ a → a < low + n → sum_by (λ k. cond (a == k) t 0) (range_with_len low n) ≡ t
range-once t a low zero from below = absurd (omega arith)
range-once t a low (suc n) from below =
    rw (sum_by-cons (λ k. cond (a == k) t 0) low (range_with_len (low + 1) n))
    (elim (eqb_tells a low) [
      | inl h ↦ rw (h.0, range-never t a (low + 1) n (omega (arith, h.1))) (omega arith)
      | inr h ↦ rw (h.0, range-once t a (low + 1) n (omega (arith, h.1)) (omega arith)) (omega arith)
    ])

pub total-last : (n : ℕ) (ns : List ℕ) (f : ℕ → ℕ) (r : ℕ) → r < product ns
    → total_at (n ∷ ns) f ((n - 1) * product ns + r) ≡ sum_by (λ e. total_at ns (λ j. f (e * product ns + j)) r) (range_with_len 0 n)
unfolding total_at
total-last n ns f r below = rw (div-mul-add (n - 1) (product ns) r below, mod-mul-add (n - 1) (product ns) r below, eq-eqb (n - 1) (n - 1) refl) refl

pub total-other : (n : ℕ) (ns : List ℕ) (f : ℕ → ℕ) (q r : ℕ) → r < product ns → (q ≡ n - 1 → ⊥)
    → total_at (n ∷ ns) f (q * product ns + r) ≡ total_at ns (λ j. f (q * product ns + j)) r
unfolding total_at
total-other n ns f q r below other = rw (div-mul-add q (product ns) r below, mod-mul-add q (product ns) r below, ne_eqb q (n - 1) other) refl

-- a number below a product of rows and columns has its row and its column
pub record Cut (n m i : ℕ) : Type 0 where
  pub row : i / m < n
  pub column : i % m < m
  pub whole : i / m * m + i % m ≡ i

pub cut : (n m i : ℕ) → i < n * m → Cut n m i
cut n m i below =
    let some : 0 < m = some_rows n m i below in
    record { row = div_below i m n some below; column = mod_below i m some; whole = omega (arith, mod-add-div' i m) }

pub row-below : (n m q r : ℕ) → q < n → r < m → q * m + r < n * m
row-below n m q r p s = omega (arith, mul-add-lt q m r n p s)

mod-whole : (x m : ℕ) → x / m * m + x % m ≡ x
mod-whole x m = omega (arith, mod-add-div' x m)

-- a sum over places takes its terms at places alone
pub total-ext : (ns : List ℕ) (f g : ℕ → ℕ) (i : ℕ) → i < product ns → ((j : ℕ) → j < product ns → f j ≡ g j) → total_at ns f i ≡ total_at ns g i
unfolding total_at
total-ext [] f g i below same = same i below
total-ext (n ∷ ns) f g i below same =
    let m : ℕ = product ns in
    let c = cut n m i below in
    elim (i / m == n - 1) as (λ b. cond b (sum_by (λ e. total_at ns (λ j. f (e * m + j)) (i % m)) (range_with_len 0 n)) (total_at ns (λ j. f (i / m * m + j)) (i % m)) ≡ cond b (sum_by (λ e. total_at ns (λ j. g (e * m + j)) (i % m)) (range_with_len 0 n)) (total_at ns (λ j. g (i / m * m + j)) (i % m))) [
      | true ↦ sum-range _ _ 0 n (λ e inside. total-ext ns (λ j. f (e * m + j)) (λ j. g (e * m + j)) (i % m) c.column (λ j low. same (e * m + j) (row-below n m e j (omega arith) low)))
      | false ↦ total-ext ns (λ j. f (i / m * m + j)) (λ j. g (i / m * m + j)) (i % m) c.column (λ j low. same (i / m * m + j) (row-below n m (i / m) j c.row low))
    ]

pub total-zero : (ns : List ℕ) (i : ℕ) → total_at ns (λ _. 0) i ≡ 0
unfolding total_at
total-zero [] i = refl
total-zero (n ∷ ns) i =
    let m : ℕ = product ns in
    elim (i / m == n - 1) as (λ b. cond b (sum_by (λ e. total_at ns (λ _. 0) (i % m)) (range_with_len 0 n)) (total_at ns (λ _. 0) (i % m)) ≡ 0) [
      | true ↦ sum_by-ext _ _ (range_with_len 0 n) (λ e. total-zero ns (i % m)) ∙ sum_by-none (range_with_len 0 n)
      | false ↦ total-zero ns (i % m)
    ]

pub total-add : (ns : List ℕ) (f g : ℕ → ℕ) (i : ℕ) → total_at ns (λ j. f j + g j) i ≡ total_at ns f i + total_at ns g i
unfolding total_at
total-add [] f g i = refl
total-add (n ∷ ns) f g i =
    let m : ℕ = product ns in
    elim (i / m == n - 1) as (λ b. cond b (sum_by (λ e. total_at ns (λ j. f (e * m + j) + g (e * m + j)) (i % m)) (range_with_len 0 n)) (total_at ns (λ j. f (i / m * m + j) + g (i / m * m + j)) (i % m))
    ≡ cond b (sum_by (λ e. total_at ns (λ j. f (e * m + j)) (i % m)) (range_with_len 0 n)) (total_at ns (λ j. f (i / m * m + j)) (i % m)) + cond b (sum_by (λ e. total_at ns (λ j. g (e * m + j)) (i % m)) (range_with_len 0 n)) (total_at ns (λ j. g (i / m * m + j)) (i % m))) [
      | true ↦
          sum_by-ext _ _ (range_with_len 0 n) (λ e. total-add ns (λ j. f (e * m + j)) (λ j. g (e * m + j)) (i % m))
          ∙ sum_by-add (λ e. total_at ns (λ j. f (e * m + j)) (i % m)) (λ e. total_at ns (λ j. g (e * m + j)) (i % m)) (range_with_len 0 n)
      | false ↦ total-add ns (λ j. f (i / m * m + j)) (λ j. g (i / m * m + j)) (i % m)
    ]

-- the sum over places of a sum over a list
pub total-sum : {X : Type 0} (ns : List ℕ) (f : X → ℕ → ℕ) (xs : List X) (i : ℕ) → i < product ns → total_at ns (λ j. sum_by (λ x. f x j) xs) i ≡ sum_by (λ x. total_at ns (f x) i) xs
total-sum ns f [] i below = total-zero ns i
total-sum ns f (x ∷ xs) i below =
    total-ext ns (λ j. sum_by (λ y. f y j) (x ∷ xs)) (λ j. f x j + sum_by (λ y. f y j) xs) i below (λ j _. sum_by-cons (λ y. f y j) x xs)
    ∙ total-add ns (f x) (λ j. sum_by (λ y. f y j) xs) i
    ∙ ap (λ s. total_at ns (f x) i + s) (total-sum ns f xs i below)
    ∙ sym (sum_by-cons (λ y. total_at ns (f y) i) x xs)

-- modulo a number each term may be taken modulo it
pub total-mod : (ns : List ℕ) (f : ℕ → ℕ) (k i : ℕ) → total_at ns (λ j. f j % k) i % k ≡ total_at ns f i % k
unfolding total_at
total-mod [] f k i = mod-mod (f i) k
total-mod (n ∷ ns) f k i =
    let m : ℕ = product ns in
    elim (i / m == n - 1) as (λ b. cond b (sum_by (λ e. total_at ns (λ j. f (e * m + j) % k) (i % m)) (range_with_len 0 n)) (total_at ns (λ j. f (i / m * m + j) % k) (i % m)) % k ≡ cond b (sum_by (λ e. total_at ns (λ j. f (e * m + j)) (i % m)) (range_with_len 0 n)) (total_at ns (λ j. f (i / m * m + j)) (i % m)) % k) [
      | true ↦ sum-range-mod _ _ k n (λ e _. total-mod ns (λ j. f (e * m + j)) k (i % m))
      | false ↦ total-mod ns (λ j. f (i / m * m + j)) k (i % m)
    ]

pub total-same-mod : (ns : List ℕ) (f g : ℕ → ℕ) (k i : ℕ) → i < product ns → ((j : ℕ) → j < product ns → f j % k ≡ g j % k) → total_at ns f i % k ≡ total_at ns g i % k
total-same-mod ns f g k i below same =
    sym (total-mod ns f k i) ∙ ap (λ x. x % k) (total-ext ns (λ j. f j % k) (λ j. g j % k) i below same) ∙ total-mod ns g k i

-- whether a place lies in another: on each dimension it has the same entry, or the other has the last
abbrev pub under : Bool → List ℕ → ℕ → ℕ → Bool
under totals [] i x = true
under totals (n ∷ ns) i x = ((x / product ns == i / product ns) || (totals && (i / product ns == n - 1))) && under totals ns (i % product ns) (x % product ns)

-- the order of two numbers doesn't matter
pub eq-swap : (a b : ℕ) → (a == b) ≡ (b == a)
eq-swap a b = elim (eqb_tells a b) [ inl h ↦ rw (h.0, h.1, eq-eqb b b refl) refl | inr h ↦ rw (h.0, ne_eqb b a (λ e. h.1 (sym e))) refl ]

-- a number by its row and column
pub same-place : (m x e j : ℕ) → j < m → (x == e * m + j) ≡ ((x / m == e) && (x % m == j))
same-place m x e j below =
    elim (eqb_tells x (e * m + j)) [
      | inl h ↦ rw (h.0, ap (λ y. y / m) h.1 ∙ div-mul-add e m j below, ap (λ y. y % m) h.1 ∙ mod-mul-add e m j below, eq-eqb e e refl, eq-eqb j j refl) refl
      | inr h ↦
          elim (eqb_tells (x / m) e) [
            | inl a ↦ elim (eqb_tells (x % m) j) [
              | inl b ↦ absurd (h.1 (sym (rw (← a.1, ← b.1) (mod-whole x m))))
              | inr b ↦ rw (h.0, a.0, b.0) refl
            ]
            | inr a ↦ rw (h.0, a.0) refl
          ]
    ]

or-true : (b : Bool) → (b || true) ≡ true
or-true true = refl
or-true false = refl

or-false : (b : Bool) → (b || false) ≡ b
or-false true = refl
or-false false = refl

-- of the terms of one place, a sum takes those of the places that it lies in
row-once : (ns : List ℕ) (w i x e : ℕ) → i < product ns → total_at ns (λ j. cond (x == e * product ns + j) w 0) i ≡ cond (x / product ns == e) (total_at ns (λ j. cond (x % product ns == j) w 0) i) 0
row-once ns w i x e below =
    total-ext ns (λ j. cond (x == e * product ns + j) w 0) (λ j. cond (x / product ns == e) (cond (x % product ns == j) w 0) 0) i below
    (λ j low. rw (same-place (product ns) x e j low) (elim (x / product ns == e) as (λ b. cond (b && (x % product ns == j)) w 0 ≡ cond b (cond (x % product ns == j) w 0) 0) [ true ↦ refl | false ↦ refl ]))
    ∙ elim (x / product ns == e) as (λ b. total_at ns (λ j. cond b (cond (x % product ns == j) w 0) 0) i ≡ cond b (total_at ns (λ j. cond (x % product ns == j) w 0) i) 0) [ true ↦ refl | false ↦ total-zero ns i ]

pub total-once : (ns : List ℕ) (w i x : ℕ) → i < product ns → x < product ns → total_at ns (λ j. cond (x == j) w 0) i ≡ cond (under true ns i x) w 0
unfolding total_at
total-once [] w i x below within =
    let a : x ≡ i = omega arith in rw (eq-eqb x i a) refl
total-once (n ∷ ns) w i x below within =
    let m : ℕ = product ns in
    let c = cut n m i below in
    let d = cut n m x within in
    let rest : ℕ = total_at ns (λ j. cond (x % m == j) w 0) (i % m) in
    let ih : rest ≡ cond (under true ns (i % m) (x % m)) w 0 = total-once ns w (i % m) (x % m) c.column d.column in
    elim (eqb_tells (i / m) (n - 1)) [
      | inl h ↦
          rw (h.0, or-true (x / m == i / m))
          (sum_by-ext (λ e. total_at ns (λ j. cond (x == e * m + j) w 0) (i % m)) (λ e. cond (x / m == e) rest 0) (range_with_len 0 n) (λ e. row-once ns w (i % m) x e c.column)
          ∙ range-once rest (x / m) 0 n (omega arith) (omega (arith, d.row))
          ∙ ih)
      | inr h ↦
          rw (h.0, or-false (x / m == i / m))
          (row-once ns w (i % m) x (i / m) c.column
          ∙ elim (x / m == i / m) as (λ b. cond b rest 0 ≡ cond (b && under true ns (i % m) (x % m)) w 0) [ true ↦ ih | false ↦ refl ])
    ]

-- the same for any number: one past the places lies in none
pub total-number : (ns : List ℕ) (w i x : ℕ) → i < product ns → total_at ns (λ j. cond (x == j) w 0) i ≡ cond (nat_lt x (product ns) && under true ns i x) w 0
total-number ns w i x below =
    elim (cases_lt x (product ns)) [
      | inl h ↦ rw (lt-ltb x (product ns) h) (total-once ns w i x below h)
      | inr h ↦
          rw (le-ltb x (product ns) h)
          (total-ext ns (λ j. cond (x == j) w 0) (λ _. 0) i below (λ j low. rw (ne_eqb x j (λ e. omega (arith, e))) refl) ∙ total-zero ns i)
    ]

-- with no totals a place lies in itself alone
pub under-alone : (ns : List ℕ) (i x : ℕ) → i < product ns → x < product ns → under false ns i x ≡ (x == i)
under-alone [] i x below within = let a : x ≡ i = omega arith in sym (eq-eqb x i a)
under-alone (n ∷ ns) i x below within =
    let m : ℕ = product ns in
    let c = cut n m i below in
    let d = cut n m x within in
    rw (or-false (x / m == i / m), under-alone ns (i % m) (x % m) c.column d.column)
    (sym (ap (λ k. x == k) (sym c.whole) ∙ same-place m x (i / m) (i % m) c.column))

-- a sum over a list of one, of two and of three
pub sum-one : {X : Type 0} (f : X → ℕ) (xs : List X) (d : X) → length xs ≡ 1 → f (get_or xs 0 d) ≡ sum_by f xs
sum-one f [] d e = absurd (omega (arith, e))
sum-one f (x ∷ []) d e = let z : f x + 0 ≡ f x = omega arith in sym (sum_by-cons f x [] ∙ z)
sum-one f (x ∷ y ∷ ys) d e = absurd (omega (arith, e))

pub sum-two : {X : Type 0} (f : X → ℕ) (xs : List X) (d : X) → length xs ≡ 2 → f (get_or xs 0 d) + f (get_or xs 1 d) ≡ sum_by f xs
sum-two f [] d e = absurd (omega (arith, e))
sum-two f (x ∷ ys) d e = ap (λ s. f x + s) (sum-one f ys d (omega (arith, e))) ∙ sym (sum_by-cons f x ys)

pub sum-three : {X : Type 0} (f : X → ℕ) (xs : List X) (d : X) → length xs ≡ 3
    → f (get_or xs 0 d) + f (get_or xs 1 d) + f (get_or xs 2 d) ≡ sum_by f xs
sum-three f [] d e = absurd (omega (arith, e))
sum-three f (x ∷ ys) d e =
    let sign : f x + f (get_or ys 0 d) + f (get_or ys 1 d) ≡ f x + (f (get_or ys 0 d) + f (get_or ys 1 d)) = omega arith in
    sign ∙ ap (λ s. f x + s) (sum-two f ys d (omega (arith, e))) ∙ sym (sum_by-cons f x ys)
