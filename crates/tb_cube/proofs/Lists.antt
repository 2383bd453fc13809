-- The variables of a cube, its lists of categories, and merges of cells by a test of them.
use Rattle.std.proofs.Common.{◌≡◌, ℕ, zero, suc, ◌+◌, ◌%◌, ◌^◌, ◌<◌, ◌≤◌, Bool, true, false, cond, List, [], ◌∷◌, ◌++◌, length, map, get_or, refl, ap, sym, ◌∙◌, inl, inr, arith}
use Rattle.std.specs.Prelude.{◌==◌, slice_index}
use Rattle.std.specs.List.{sum_by, range_with_len, filter, list_any, flat_map, zip}
use Rattle.std.specs.List.Sorted.{IsStrictlyIncreasing}
use Rattle.std.proofs.Math.Nat.{mod-eq_of_lt}
use Rattle.std.proofs.lemmas.Bool.Decides.{eqb_tells}
use Rattle.std.proofs.lemmas.List.Sums.{sum_by-cons}
use Rattle.tb_base.specs.declared.cells.Cell.{Cell}
use Rattle.tb_base.specs.Parts.{Part, part, modulus}
use Rattle.tb_base.specs.Parts.Part.{counts, keys}
use Rattle.tb_model.specs.Cubes.{category_lists, category_in, merged_where}
use Rattle.tb_model.proofs.SumLemmas.{sum_by-map, sum_by-filter}

abbrev pub NotIn : ℕ → List ℕ → Type 0
NotIn v [] = Unit {0}
NotIn v (w ∷ ws) = (v ≡ w → ⊥) × NotIn v ws

-- no variable stands twice
abbrev pub Distinct : List ℕ → Type 0
Distinct [] = Unit {0}
Distinct (v ∷ vs) = NotIn v vs × Distinct vs

tail-ascends : (v : ℕ) (vs : List ℕ) → IsStrictlyIncreasing (v ∷ vs) → IsStrictlyIncreasing vs
tail-ascends v vs s k below =
    let two : suc k + 1 ≡ suc (k + 1) = omega arith in
    rw two at (s (suc k) (omega arith))

above : (v : ℕ) (vs : List ℕ) → IsStrictlyIncreasing (v ∷ vs) → (j : ℕ) → j < length vs → v < get_or vs j 0
above v [] s j below = absurd (omega arith)
above v (w ∷ ws) s zero below = s 0 (omega arith)
above v (w ∷ ws) s (suc j) below =
    let first : v < w = s 0 (omega arith) in
    omega (arith, above w ws (tail-ascends v (w ∷ ws) s) j (omega arith), first)

not-in : (v : ℕ) (vs : List ℕ) → ((j : ℕ) → j < length vs → v < get_or vs j 0) → NotIn v vs
not-in v [] up = tt
not-in v (w ∷ ws) up = let low : v < w = up 0 (omega arith) in (λ e. omega arith, not-in v ws (λ j below. up (suc j) (omega arith)))

pub distinct : (vs : List ℕ) → IsStrictlyIncreasing vs → Distinct vs
distinct [] s = tt
distinct (v ∷ vs) s = (not-in v vs (above v vs s), distinct vs (tail-ascends v vs s))

-- a list has a category of each variable
abbrev pub FitsList : List ℕ → List ℕ → List ℕ → Type 0
FitsList shape [] cs = Unit {0}
FitsList shape (v ∷ vs) [] = ⊥
FitsList shape (v ∷ vs) (c ∷ cs) = (c < slice_index shape v) × FitsList shape vs cs

abbrev pub AllLists : (List ℕ → Type 0) → List (List ℕ) → Type 0
AllLists P [] = Unit {0}
AllLists P (x ∷ xs) = P x × AllLists P xs

all-append : (P : List ℕ → Type 0) (xs ys : List (List ℕ)) → AllLists P xs → AllLists P ys → AllLists P (xs ++ ys)
all-append P [] ys a b = b
all-append P (x ∷ xs) ys a b = (a.0, all-append P xs ys a.1 b)

all-put : (shape : List ℕ) (v : ℕ) (vs : List ℕ) (c : ℕ) (L : List (List ℕ)) → c < slice_index shape v → AllLists (FitsList shape vs) L → AllLists (FitsList shape (v ∷ vs)) (map (λ x. c ∷ x) L)
all-put shape v vs c [] low all = tt
all-put shape v vs c (x ∷ xs) low all = ((low, all.0), all-put shape v vs c xs low all.1)

all-rows : (shape : List ℕ) (v : ℕ) (vs : List ℕ) (L : List (List ℕ)) (a n : ℕ) → a + n ≤ slice_index shape v → AllLists (FitsList shape vs) L → AllLists (FitsList shape (v ∷ vs)) (flat_map (λ c. map (λ x. c ∷ x) L) (range_with_len a n))
all-rows shape v vs L a zero within all = tt
all-rows shape v vs L a (suc n) within all =
    all-append (FitsList shape (v ∷ vs)) (map (λ x. a ∷ x) L) (flat_map (λ c. map (λ x. c ∷ x) L) (range_with_len (a + 1) n)) (all-put shape v vs a L (omega arith) all) (all-rows shape v vs L (a + 1) n (omega arith) all)

pub lists-fit : (shape vars : List ℕ) → AllLists (FitsList shape vars) (category_lists shape vars)
lists-fit shape [] = (tt, tt)
lists-fit shape (v ∷ vs) = all-rows shape v vs (category_lists shape vs) 0 (slice_index shape v) (omega arith) (lists-fit shape vs)

pub category-below : (shape vars cs : List ℕ) (v : ℕ) → FitsList shape vars cs → list_any (λ w. w == v) vars ≡ true → category_in vars cs v < slice_index shape v
category-below shape [] cs v fits among = cc
category-below shape (w ∷ ws) [] v fits among = absurd fits
category-below shape (w ∷ ws) (c ∷ cs) v fits among =
    elim (eqb_tells w v) [
      | inl h ↦ rw h.0 (rw h.1 at fits.0)
      | inr h ↦ rw h.0 (category-below shape ws cs v fits.1 (rw h.0 at among))
    ]

-- a sum over lists with their cells, by the lists that are there
pub zip-ext : (P : List ℕ → Type 0) (f g : List ℕ × Cell → ℕ) (L : List (List ℕ)) (cells : List Cell) → AllLists P L → ((x : List ℕ) (c : Cell) → P x → f (x, c) ≡ g (x, c)) → sum_by f (zip L cells) ≡ sum_by g (zip L cells)
zip-ext P f g [] cells all same = refl
zip-ext P f g (x ∷ xs) [] all same = refl
zip-ext P f g (x ∷ xs) (c ∷ cs) all same = rw (sum_by-cons f (x, c) (zip xs cs), sum_by-cons g (x, c) (zip xs cs), same x c all.0, zip-ext P f g xs cs all.1 same) refl

-- the counts that pass a test are no more than all
counts-where : (test : (ℕ → ℕ) → Bool) (vars : List ℕ) (L : List (List ℕ)) (cells : List Cell) → sum_by (λ (q : List ℕ × Cell). cond (test (category_in vars q.0)) q.1.count 0) (zip L cells) ≤ sum_by (λ c. c.count) cells
counts-where test vars [] cells = omega arith
counts-where test vars (x ∷ xs) [] = omega arith
counts-where test vars (x ∷ xs) (c ∷ cs) =
    let ih = counts-where test vars xs cs in
    let f : List ℕ × Cell → ℕ = λ q. cond (test (category_in vars q.0)) q.1.count 0 in
    let one : f (x, c) ≤ c.count = elim (test (category_in vars x)) as (λ b. cond b c.count 0 ≤ c.count) [ true ↦ omega arith | false ↦ omega arith ] in
    rw (sum_by-cons f (x, c) (zip xs cs), sum_by-cons (λ (d : Cell). d.count) c cs) (omega (arith, ih, one))

-- the parts of a merge
pub part-where : (p : Part) (test : (ℕ → ℕ) → Bool) (shape vars : List ℕ) (cells : List Cell) → sum_by (λ c. c.count) cells < 2 ^ 32
    → part p (merged_where test shape vars cells) ≡ sum_by (λ q. cond (test (category_in vars q.0)) (part p q.1) 0) (zip (category_lists shape vars) cells) % modulus p
part-where counts test shape vars cells few =
    let pairs : List (List ℕ × Cell) = zip (category_lists shape vars) cells in
    let whole : sum_by (λ (c : Cell). c.count) (map (λ (q : List ℕ × Cell). q.1) (filter (λ (q : List ℕ × Cell). test (category_in vars q.0)) pairs)) ≡ sum_by (λ (q : List ℕ × Cell). cond (test (category_in vars q.0)) q.1.count 0) pairs =
    sum_by-map (λ (c : Cell). c.count) (λ (q : List ℕ × Cell). q.1) (filter (λ (q : List ℕ × Cell). test (category_in vars q.0)) pairs) ∙ sum_by-filter (λ (q : List ℕ × Cell). q.1.count) (λ (q : List ℕ × Cell). test (category_in vars q.0)) pairs in
    let small : sum_by (λ (q : List ℕ × Cell). cond (test (category_in vars q.0)) q.1.count 0) pairs < 2 ^ 32 = omega (arith, counts-where test vars (category_lists shape vars) cells) in
    whole ∙ sym (mod-eq_of_lt small)
part-where keys test shape vars cells few =
    let pairs : List (List ℕ × Cell) = zip (category_lists shape vars) cells in
    ap (λ s. s % modulus keys) (sum_by-map (λ (c : Cell). c.key) (λ (q : List ℕ × Cell). q.1)
    (filter (λ (q : List ℕ × Cell). test (category_in vars q.0)) pairs) ∙ sum_by-filter (λ (q : List ℕ × Cell). q.1.key)
    (λ (q : List ℕ × Cell). test (category_in vars q.0)) pairs)
