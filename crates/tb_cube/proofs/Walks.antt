-- What a walk over cells adds at a number.
use Rattle.std.proofs.Common.{◌≡◌, ℕ, zero, suc, ◌+◌, ◌*◌, ◌%◌, ◌<◌, ◌≤◌, ◌⊎◌, cond, List, [], ◌∷◌, ◌++◌, length, map, refl, ap, sym, ◌∙◌, inl, inr, arith}
use Rattle.std.specs.Prelude.{◌==◌}
use Rattle.std.specs.List.{sum_by, range_with_len, flat_map, zip}
use Rattle.std.proofs.Math.Nat.{mod-mod, add-mod-mod}
use Rattle.std.proofs.lemmas.Bool.{ne_eqb}
use Rattle.std.proofs.lemmas.List.{length-map}
use Rattle.std.proofs.lemmas.List.Sums.{sum_by-cons}
use Rattle.std.proofs.lemmas.List.FromFn.{length-range_with_len}
use Rattle.std.proofs.lemmas.Nat.{mul-le}
use Rattle.tb_base.specs.declared.cells.Cell.{Cell}
use Rattle.tb_base.specs.Parts.{Part, part, part_at, modulus}
use Rattle.tb_base.proofs.PartLemmas.{add-more, nothing}
use Rattle.tb_model.specs.RowMajor.{row_major, product}
use Rattle.tb_model.proofs.RowMajorLemmas.{length-row_major}
use Rattle.tb_model.proofs.SumLemmas.{sum_by-ext, sum_by-none}
use Rattle.tb_grid.proofs.Sums.{sum-more}
use Rattle.tb_grid.proofs.Factors.{at-least}
use Rattle.tb_cube.specs.Walks.{count_of, spread, Fork, StandsAt}

pub spread-more : (t : Fork) (ts : List Fork) (f : ℕ → ℕ) (k base i : ℕ)
    → spread (t ∷ ts) f k base i ≡ sum_by (λ c. spread ts f (k * t.count + c) (base + t.step c) i) (range_with_len 0 t.count)
unfolding spread
spread-more t ts f k base i = refl

pub spread-end : (f : ℕ → ℕ) (k base i : ℕ) → spread [] f k base i ≡ cond (base == i) (f k) 0
unfolding spread
spread-end f k base i = refl

-- a number past a place adds nothing there
pub spread-past : (ts : List Fork) (f : ℕ → ℕ) (k base i : ℕ) → i < base → spread ts f k base i ≡ 0
unfolding spread
spread-past [] f k base i past = rw (ne_eqb base i (λ e. omega arith)) refl
spread-past (t ∷ ts) f k base i past =
    sum_by-ext _ (λ (_ : ℕ). 0) (range_with_len 0 t.count) (λ c. spread-past ts f (k * t.count + c) (base + t.step c) i (omega arith))
    ∙ sum_by-none (range_with_len 0 t.count)

pub zero-factor : (n m : ℕ) → n * m ≡ 0 → (n ≡ 0) ⊎ (m ≡ 0)
zero-factor zero m h = inl refl
zero-factor (suc n) m h = inr (omega (arith, h, at-least (suc n) m (omega arith)))

pub second-factor : (n m : ℕ) → 0 < n * m → 0 < m
second-factor n zero h = absurd (omega arith)
second-factor n (suc m) h = omega arith

-- where there are no cells nothing is added
pub spread-none : (ts : List Fork) (f : ℕ → ℕ) (k base i : ℕ) → count_of ts ≡ 0 → spread ts f k base i ≡ 0
unfolding spread
spread-none [] f k base i none = absurd (omega (arith, none))
spread-none (t ∷ ts) f k base i none = elim (zero-factor t.count (count_of ts) none) [
  | inl h ↦ ap (λ n. sum_by (λ c. spread ts f (k * t.count + c) (base + t.step c) i) (range_with_len 0 n)) h
  | inr h ↦
      sum_by-ext _ (λ (_ : ℕ). 0) (range_with_len 0 t.count) (λ c. spread-none ts f (k * t.count + c) (base + t.step c) i h)
      ∙ sum_by-none (range_with_len 0 t.count)
]

-- a range in rows
pub sum-shift : (f : ℕ → ℕ) (a n : ℕ) → sum_by f (range_with_len (a + 1) n) ≡ sum_by (λ e. f (e + 1)) (range_with_len a n)
sum-shift f a zero = refl
sum-shift f a (suc n) = rw (sum_by-cons f (a + 1) (range_with_len (a + 1 + 1) n), sum_by-cons (λ e. f (e + 1)) a (range_with_len (a + 1) n), sum-shift f (a + 1) n) refl

pub sum-next : (f : ℕ → ℕ) (n : ℕ) → sum_by f (range_with_len 0 (n + 1)) ≡ sum_by f (range_with_len 0 n) + f n
sum-next f n = let z : 0 + n ≡ n = omega arith in sum-more f 0 n ∙ ap (λ j. sum_by f (range_with_len 0 n) + f j) z

-- a range in two parts, and in rows
sum-join : (f : ℕ → ℕ) (a m : ℕ) → sum_by f (range_with_len 0 (m + a)) ≡ sum_by f (range_with_len 0 m) + sum_by (λ r. f (m + r)) (range_with_len 0 a)
sum-join f zero m = let e : m + 0 ≡ m = omega arith in rw e (omega arith)
sum-join f (suc a) m =
    let e : m + suc a ≡ m + a + 1 = omega arith in
    let s : suc a ≡ a + 1 = omega arith in
    let left : sum_by f (range_with_len 0 (m + suc a)) ≡ sum_by f (range_with_len 0 (m + a)) + f (m + a) = ap (λ j. sum_by f (range_with_len 0 j)) e ∙ sum-next f (m + a) in
    let right : sum_by (λ r. f (m + r)) (range_with_len 0 (suc a)) ≡ sum_by (λ r. f (m + r)) (range_with_len 0 a) + f (m + a) = ap (λ j. sum_by (λ r. f (m + r)) (range_with_len 0 j)) s ∙ sum-next (λ r. f (m + r)) a in
    left ∙ ap (λ x. x + f (m + a)) (sum-join f a m) ∙ (let turn : sum_by f (range_with_len 0 m) + sum_by (λ r. f (m + r)) (range_with_len 0 a) + f (m + a) ≡ sum_by f (range_with_len 0 m) + (sum_by (λ r. f (m + r)) (range_with_len 0 a) + f (m + a)) = omega arith in turn) ∙ ap (λ x. sum_by f (range_with_len 0 m) + x) (sym right)

pub sum-rows : (f : ℕ → ℕ) (n m : ℕ) → sum_by f (range_with_len 0 (n * m)) ≡ sum_by (λ c. sum_by (λ r. f (c * m + r)) (range_with_len 0 m)) (range_with_len 0 n)
sum-rows f zero m = let e : 0 * m ≡ 0 = omega arith in ap (λ j. sum_by f (range_with_len 0 j)) e
sum-rows f (suc n) m =
    let row : ℕ → ℕ = λ c. sum_by (λ r. f (c * m + r)) (range_with_len 0 m) in
    let e : suc n * m ≡ n * m + m = omega arith in
    let s : suc n ≡ n + 1 = omega arith in
    ap (λ j. sum_by f (range_with_len 0 j)) e ∙ sum-join f m (n * m) ∙ ap (λ x. x + row n) (sum-rows f n m) ∙ sym (ap (λ j. sum_by row (range_with_len 0 j)) s ∙ sum-next row n)

-- a cell to which a cell with this sum is added
pub sum-added : (p : Part) (old new sum : Cell) (x : ℕ) → part p new ≡ (part p old + part p sum) % modulus p
    → part p sum % modulus p ≡ x % modulus p → part p new % modulus p ≡ (part p old + x) % modulus p
sum-added p old new sum x made is =
    let k : ℕ = modulus p in
    ap (λ y. y % k) made ∙ mod-mod (part p old + part p sum) k ∙ sym (add-mod-mod (part p old) (part p sum) k) ∙ ap
    (λ y. (part p old + y) % k) is ∙ add-mod-mod (part p old) x k

turned : (n m : ℕ) → n * m ≡ m * n
turned n m = omega arith

-- the categories of one fork, where more follow
pub inside-row : (n m k c long : ℕ) → (k + 1) * (n * m) ≤ long → 0 < m → c < n → (k * n + c + 1) * m ≤ long
inside-row n m k c long whole some low =
    let row : k * n + c + 1 ≤ (k + 1) * n = omega arith in
    let flat : (k + 1) * n * m ≡ (k + 1) * (n * m) = omega arith in
    omega (arith, mul-le (k * n + c + 1) m ((k + 1) * n) m row (omega arith), flat, whole)

pub room-row : (n m k c long : ℕ) → (k + 1) * (n * m) ≤ long → 0 < m → c < n → k * n + c < long
room-row n m k c long whole some low =
    omega (arith, inside-row n m k c long whole some low, at-least m (k * n + c + 1) some, turned m (k * n + c + 1))

-- a walk that stands before a fork
module _ (t : Fork) (ts : List Fork) (long cells k base : ℕ) (at : StandsAt (t ∷ ts) long cells k base) where
  some-after : 0 < count_of ts
  some-after = second-factor t.count (count_of ts) at.some

  pub has-room : (c : ℕ) → c < t.count → k * t.count + c < long
  has-room c low = room-row t.count (count_of ts) k c long at.whole some-after low

  -- goes on to the next after one of its categories
  pub goes-on : (c to now : ℕ) → c < t.count → now ≡ cells → to < now → StandsAt ts long now (k * t.count + c) to
  goes-on c to now low same below = record {
    whole = inside-row t.count (count_of ts) k c long at.whole some-after low;
    some = some-after;
    small = at.small;
    low = below;
    few = omega (arith, same, at.few);
  }

  -- what the first c categories add, where one of them has the number to
  module _ (f : ℕ → ℕ) (m i old : ℕ) where
    abbrev pub so_far : ℕ → ℕ
    so_far c = sum_by (λ e. spread ts f (k * t.count + e) (base + t.step e) i) (range_with_len 0 c)

    pub one-more : (c mid new : ℕ) → mid % m ≡ (old + so_far c) % m
        → new % m ≡ (mid + spread ts f (k * t.count + c) (base + t.step c) i) % m → new % m ≡ (old + so_far (c + 1)) % m
    one-more c mid new h e =
        let g : ℕ → ℕ = λ e. spread ts f (k * t.count + e) (base + t.step e) i in
        add-more m old mid new (so_far c) (g c) h e ∙ ap (λ s. (old + s) % m) (sym (sum-next g c))

    pub left-out : (c mid : ℕ) → i < base + t.step c → mid % m ≡ (old + so_far c) % m → mid % m ≡ (old + so_far (c + 1)) % m
    left-out c mid past h = one-more c mid mid h (nothing m mid _ (spread-past ts f (k * t.count + c) (base + t.step c) i past))

    pub all-gone : (c new : ℕ) → c ≡ t.count → new % m ≡ (old + so_far c) % m → new % m ≡ (old + spread (t ∷ ts) f k base i) % m
    all-gone c new done h =
        h ∙ ap (λ x. (old + so_far x) % m) done ∙ ap (λ s. (old + s) % m) (sym (spread-more t ts f k base i))

-- ---- as one sum over the lists of categories with their cells
abbrev pub lists_of : List Fork → List (List ℕ)
lists_of forks = row_major (map (λ (t : Fork). range_with_len 0 t.count) forks)

sizes-of : (ts : List Fork) → product (map length (map (λ (t : Fork). range_with_len 0 t.count) ts)) ≡ count_of ts
sizes-of [] = refl
sizes-of (t ∷ ts) = rw (length-range_with_len 0 t.count, sizes-of ts) refl

pub length-lists_of : (forks : List Fork) → length (lists_of forks) ≡ count_of forks
length-lists_of forks = length-row_major (map (λ (t : Fork). range_with_len 0 t.count) forks) ∙ sizes-of forks

-- a sum over lists, where g gives a number for each place
abbrev pub weigh : (List ℕ → ℕ → ℕ) → List (List ℕ) → (ℕ → ℕ) → ℕ
weigh h [] g = 0
weigh h (x ∷ xs) g = h x (g 0) + weigh h xs (λ j. g (suc j))

weigh-ext : (h k : List ℕ → ℕ → ℕ) (xs : List (List ℕ)) (g l : ℕ → ℕ) → ((x : List ℕ) (y : ℕ) → h x y ≡ k x y) → ((j : ℕ) → g j ≡ l j) → weigh h xs g ≡ weigh k xs l
weigh-ext h k [] g l p q = refl
weigh-ext h k (x ∷ xs) g l p q =
    ap (λ s. s + weigh h xs (λ j. g (suc j))) (p x (g 0) ∙ ap (k x) (q 0)) ∙ ap (λ s. k x (l 0) + s) (weigh-ext h k xs (λ j. g (suc j)) (λ j. l (suc j)) p (λ j. q (suc j)))

weigh-append : (h : List ℕ → ℕ → ℕ) (xs ys : List (List ℕ)) (g : ℕ → ℕ) → weigh h (xs ++ ys) g ≡ weigh h xs g + weigh h ys (λ j. g (length xs + j))
weigh-append h [] ys g =
    let none : (j : ℕ) → j ≡ 0 + j = λ j. omega arith in
    weigh-ext h h ys g (λ j. g (0 + j)) (λ x y. refl) (λ j. ap g (none j)) ∙ (let e : weigh h ys (λ j. g (0 + j)) ≡ 0 + weigh h ys (λ j. g (0 + j)) = omega arith in e)
weigh-append h (x ∷ xs) ys g =
    let next : (j : ℕ) → suc (length xs + j) ≡ suc (length xs) + j = λ j. omega arith in
    let a : ℕ = h x (g 0) in
    let b : ℕ = weigh h xs (λ j. g (suc j)) in
    let c : ℕ = weigh h ys (λ j. g (suc (length xs) + j)) in
    ap (λ s. a + s) (weigh-append h xs ys (λ j. g (suc j)) ∙ ap (λ s. b + s) (weigh-ext h h ys (λ j. g (suc (length xs + j))) (λ j. g (suc (length xs) + j)) (λ x y. refl) (λ j. ap g (next j))))
    ∙ (let e : a + (b + c) ≡ a + b + c = omega arith in e)

weigh-map : (h : List ℕ → ℕ → ℕ) (f : List ℕ → List ℕ) (xs : List (List ℕ)) (g : ℕ → ℕ) → weigh h (map f xs) g ≡ weigh (λ x. h (f x)) xs g
weigh-map h f [] g = refl
weigh-map h f (x ∷ xs) g = ap (λ s. h (f x) (g 0) + s) (weigh-map h f xs (λ j. g (suc j)))

-- row by row
weigh-rows : (h : List ℕ → ℕ → ℕ) (L : List (List ℕ)) (a n : ℕ) (g : ℕ → ℕ)
    → weigh h (flat_map (λ c. map (λ x. c ∷ x) L) (range_with_len a n)) g ≡ sum_by (λ e. weigh (λ x. h ((a + e) ∷ x)) L (λ j. g (e * length L + j))) (range_with_len 0 n)
weigh-rows h L a zero g = refl
weigh-rows h L a (suc n) g =
    let len : ℕ = length L in
    let F : ℕ → ℕ = λ e. weigh (λ x. h ((a + e) ∷ x)) L (λ j. g (e * len + j)) in
    let long : length (map (λ x. a ∷ x) L) ≡ len = length-map L (λ x. a ∷ x) in
    let first : a ≡ a + 0 = omega arith in
    let start : (j : ℕ) → j ≡ 0 * len + j = λ j. omega arith in
    let head : weigh h (map (λ x. a ∷ x) L) g ≡ F 0 = weigh-map h (λ x. a ∷ x) L g ∙ weigh-ext (λ x. h (a ∷ x)) (λ x. h ((a + 0) ∷ x)) L g (λ j. g (0 * len + j)) (λ x y. ap (λ k. h (k ∷ x) y) first) (λ j. ap g (start j)) in
    let more : (e : ℕ) → weigh (λ x. h ((a + 1 + e) ∷ x)) L (λ j. g (len + (e * len + j))) ≡ F (e + 1) = λ e.
    let which : a + 1 + e ≡ a + (e + 1) = omega arith in
    let where' : (j : ℕ) → len + (e * len + j) ≡ (e + 1) * len + j = λ j. omega arith in
    weigh-ext (λ x. h ((a + 1 + e) ∷ x)) (λ x. h ((a + (e + 1)) ∷ x)) L (λ j. g (len + (e * len + j))) (λ j. g ((e + 1) * len + j)) (λ x y. ap (λ k. h (k ∷ x) y) which) (λ j. ap g (where' j)) in
    let tail : weigh h (flat_map (λ c. map (λ x. c ∷ x) L) (range_with_len (a + 1) n)) (λ j. g (len + j)) ≡ sum_by F (range_with_len (0 + 1) n) =
    weigh-rows h L (a + 1) n (λ j. g (len + j)) ∙ sum_by-ext _ _ (range_with_len 0 n) more ∙ sym (sum-shift F 0 n) in
    weigh-append h (map (λ x. a ∷ x) L) (flat_map (λ c. map (λ x. c ∷ x) L) (range_with_len (a + 1) n)) g
    ∙ ap (λ k. weigh h (map (λ x. a ∷ x) L) g + weigh h (flat_map (λ c. map (λ x. c ∷ x) L) (range_with_len (a + 1) n)) (λ j. g (k + j))) long
    ∙ ap (λ s. s + weigh h (flat_map (λ c. map (λ x. c ∷ x) L) (range_with_len (a + 1) n)) (λ j. g (len + j))) head
    ∙ ap (λ s. F 0 + s) tail
    ∙ sym (sum_by-cons F 0 (range_with_len (0 + 1) n))

-- the number to which a list of categories leads
abbrev pub lead : List Fork → List ℕ → ℕ
lead [] cs = 0
lead (t ∷ ts) [] = 0
lead (t ∷ ts) (c ∷ cs) = t.step c + lead ts cs

spread-weigh : (forks : List Fork) (f : ℕ → ℕ) (k base i : ℕ)
    → spread forks f k base i ≡ weigh (λ cs x. cond (base + lead forks cs == i) x 0) (lists_of forks) (λ j. f (k * count_of forks + j))
spread-weigh [] f k base i =
    let none : base ≡ base + 0 = omega arith in
    let here : k ≡ k * 1 + 0 = omega arith in
    spread-end f k base i ∙ ap (λ b. cond (b == i) (f k) 0) none ∙ ap (λ j. cond (base + 0 == i) (f j) 0) here
    ∙ (let e : cond (base + 0 == i) (f (k * 1 + 0)) 0 ≡ cond (base + 0 == i) (f (k * 1 + 0)) 0 + 0 = omega arith in e)
spread-weigh (t ∷ ts) f k base i =
    let n : ℕ = t.count in
    let m : ℕ = count_of ts in
    let L : List (List ℕ) = lists_of ts in
    let h : List ℕ → ℕ → ℕ = λ cs x. cond (base + lead (t ∷ ts) cs == i) x 0 in
    let long : length L ≡ m = length-lists_of ts in
    let row : (c : ℕ) → spread ts f (k * n + c) (base + t.step c) i ≡ weigh (λ x. h ((0 + c) ∷ x)) L (λ j. f (k * (n * m) + (c * length L + j))) = λ c.
    let from : 0 + c ≡ c = omega arith in
    spread-weigh ts f (k * n + c) (base + t.step c) i
    ∙ weigh-ext (λ cs x. cond (base + t.step c + lead ts cs == i) x 0) (λ x. h ((0 + c) ∷ x)) L (λ j. f ((k * n + c) * m + j)) (λ j. f (k * (n * m) + (c * length L + j)))
    (λ x y. let e : base + t.step c + lead ts x ≡ base + (t.step c + lead ts x) = omega arith in ap (λ b. cond (b == i) y 0) (e ∙ ap (λ d. base + (t.step d + lead ts x)) (sym from)))
    (λ j. let e : (k * n + c) * m + j ≡ k * (n * m) + (c * m + j) = omega arith in ap f (e ∙ ap (λ l. k * (n * m) + (c * l + j)) (sym long))) in
    spread-more t ts f k base i ∙ sum_by-ext _ _ (range_with_len 0 n) row ∙ sym (weigh-rows h L 0 n (λ j. f (k * (n * m) + j)))

weigh-zip : (h : List ℕ → ℕ → ℕ) (p : Part) (L : List (List ℕ)) (cells : List Cell) → length L ≡ length cells → weigh h L (part_at p cells) ≡ sum_by (λ q. h q.0 (part p q.1)) (zip L cells)
weigh-zip h p [] cells e = refl
weigh-zip h p (x ∷ xs) [] e = absurd (omega (arith, e))
weigh-zip h p (x ∷ xs) (c ∷ cs) e =
    ap (λ s. h x (part p c) + s) (weigh-zip h p xs cs (omega (arith, e))) ∙ sym (sum_by-cons (λ (q : List ℕ × Cell). h q.0 (part p q.1)) (x, c) (zip xs cs))

-- what all cells add at a number
pub spread-zip : (forks : List Fork) (p : Part) (cells : List Cell) (i : ℕ) → length cells ≡ count_of forks
    → spread forks (part_at p cells) 0 0 i ≡ sum_by (λ q. cond (lead forks q.0 == i) (part p q.1) 0) (zip (lists_of forks) cells)
spread-zip forks p cells i long =
    let L : List (List ℕ) = lists_of forks in
    spread-weigh forks (part_at p cells) 0 0 i
    ∙ weigh-ext (λ cs x. cond (0 + lead forks cs == i) x 0) (λ cs x. cond (lead forks cs == i) x 0) L (λ j. part_at p cells (0 * count_of forks + j)) (part_at p cells)
    (λ x y. let e : 0 + lead forks x ≡ lead forks x = omega arith in ap (λ b. cond (b == i) y 0) e)
    (λ j. let e : 0 * count_of forks + j ≡ j = omega arith in ap (part_at p cells) e)
    ∙ weigh-zip (λ cs x. cond (lead forks cs == i) x 0) p L cells (length-lists_of forks ∙ sym long)
