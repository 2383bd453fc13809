-- Sums that lanes keep, each modulo a number, and the keys that stand at a place.
use Rattle.std.proofs.Common.{◌≡◌, ℕ, zero, suc, ◌+◌, ◌%◌, ◌^◌, ◌<◌, ◌≤◌, Bool, true, false, cond, eqb, List, [], ◌∷◌, ◌++◌, length, map, take, replicate, take-add, length-take, length-append, append-nil, get_or, refl, sym, ap, ap₂, ◌∙◌, arith}
use Rattle.std.specs.List.{sum}
use Rattle.std.specs.Simd.Lanes.{zip2, sel_l, fold_l, Each1, chunk, top}
use Rattle.std.proofs.Math.Nat.{mod-add-mod, add-mod-mod}
use Rattle.std.proofs.lemmas.Bool.{eq-eqb, ne_eqb}
use Rattle.std.proofs.lemmas.List.{take_more}
use Rattle.std.proofs.lemmas.List.Sums.{sum_by-cons, sum_by_push}
use Rattle.tb_base.specs.declared.keys.TheConstants.{MOST_KEYS}
use Rattle.tb_base.specs.declared.cells.Cell.{Cell}
use Rattle.tb_base.specs.Cells.{with_key}
use Rattle.tb_base.specs.declared.people.TheConstants.{MOST_PERSONS}
use Rattle.tb_base.specs.Tallies.{keys_at, tally_of}

sum-cons : (x : ℕ) (xs : List ℕ) → sum (x ∷ xs) ≡ x + sum xs
sum-cons x xs = sum_by-cons (λ (y : ℕ). y) x xs

-- vectors added lane by lane, each lane modulo m
pub added-lanes : (m : ℕ) (f : ℕ → ℕ → ℕ) → ((a b : ℕ) → f a b ≡ (a + b) % m) → (xs ys : List ℕ) → length xs ≡ length ys
    → sum (zip2 f xs ys) % m ≡ (sum xs + sum ys) % m
added-lanes m f is [] [] e = refl
added-lanes m f is [] (y ∷ ys) e = absurd (omega (arith, e))
added-lanes m f is (x ∷ xs) [] e = absurd (omega (arith, e))
added-lanes m f is (x ∷ xs) (y ∷ ys) e =
    let rest = added-lanes m f is xs ys (omega (arith, e)) in
    let turn : x + y + (sum xs + sum ys) ≡ x + sum xs + (y + sum ys) = omega arith in
    ap (λ s. s % m) (sum-cons (f x y) (zip2 f xs ys) ∙ ap (λ z. z + sum (zip2 f xs ys)) (is x y))
    ∙ mod-add-mod (x + y) m (sum (zip2 f xs ys))
    ∙ sym (add-mod-mod (x + y) (sum (zip2 f xs ys)) m)
    ∙ ap (λ s. (x + y + s) % m) rest
    ∙ add-mod-mod (x + y) (sum xs + sum ys) m
    ∙ ap (λ s. s % m) (turn ∙ sym (ap₂ (λ a b. a + b) (sum-cons x xs) (sum-cons y ys)))

-- all lanes of a vector added up, modulo m
pub folded-lanes : (m : ℕ) (f : ℕ → ℕ → ℕ) → ((a b : ℕ) → f a b ≡ (a + b) % m) → (xs : List ℕ) (a : ℕ)
    → fold_l f (a % m) xs ≡ (a + sum xs) % m
folded-lanes m f is [] a = let e : a ≡ a + 0 = omega arith in ap (λ s. s % m) e
folded-lanes m f is (x ∷ xs) a =
    let turn : a + x + sum xs ≡ a + (x + sum xs) = omega arith in
    ap (λ s. fold_l f s xs) (is (a % m) x ∙ mod-add-mod a m x)
    ∙ folded-lanes m f is xs (a + x)
    ∙ ap (λ s. s % m) (turn ∙ sym (ap (λ s. a + s) (sum-cons x xs)))

-- the keys at a place, of one more position in front
pub keys-cons : (place x k : ℕ) (xs ks : List ℕ) (b : Bool) → eqb x place ≡ b → keys_at place (x ∷ xs) (k ∷ ks) ≡ cond b (k ∷ keys_at place xs ks) (keys_at place xs ks)
keys-cons place x k xs ks true h = rw h refl
keys-cons place x k xs ks false h = rw h refl

append-step : (place x k : ℕ) (xs ks ys ls : List ℕ) → keys_at place (xs ++ ys) (ks ++ ls) ≡ keys_at place xs ks ++ keys_at place ys ls → (b : Bool) → eqb x place ≡ b
    → keys_at place ((x ∷ xs) ++ ys) ((k ∷ ks) ++ ls) ≡ keys_at place (x ∷ xs) (k ∷ ks) ++ keys_at place ys ls
append-step place x k xs ks ys ls rest true h = keys-cons place x k (xs ++ ys) (ks ++ ls) true h ∙ ap (λ l. k ∷ l) rest ∙ sym (ap (λ l. l ++ keys_at place ys ls) (keys-cons place x k xs ks true h))
append-step place x k xs ks ys ls rest false h = keys-cons place x k (xs ++ ys) (ks ++ ls) false h ∙ rest ∙ sym (ap (λ l. l ++ keys_at place ys ls) (keys-cons place x k xs ks false h))

pub keys_at-append : (place : ℕ) (xs ks ys ls : List ℕ) → length ks ≡ length xs → keys_at place (xs ++ ys) (ks ++ ls) ≡ keys_at place xs ks ++ keys_at place ys ls
keys_at-append place [] [] ys ls e = refl
keys_at-append place [] (k ∷ ks) ys ls e = absurd (omega (arith, e))
keys_at-append place (x ∷ xs) [] ys ls e = absurd (omega (arith, e))
keys_at-append place (x ∷ xs) (k ∷ ks) ys ls e = append-step place x k xs ks ys ls (keys_at-append place xs ks ys ls (omega (arith, e))) (eqb x place) refl

-- ones where the place stands, and the keys there, as `select` leaves them
from-zero : (x : ℕ) → 0 + x ≡ x
from-zero x = omega arith

ones-step : (place x k : ℕ) (xs ks lanes : List ℕ) → sum lanes ≡ length (keys_at place xs ks) → (b : Bool) → eqb x place ≡ b
    → sum (cond b 1 0 ∷ lanes) ≡ length (keys_at place (x ∷ xs) (k ∷ ks))
ones-step place x k xs ks lanes rest true h = sum-cons 1 lanes ∙ ap (λ s. 1 + s) rest ∙ omega arith ∙ sym (ap length (keys-cons place x k xs ks true h))
ones-step place x k xs ks lanes rest false h = sum-cons 0 lanes ∙ from-zero (sum lanes) ∙ rest ∙ sym (ap length (keys-cons place x k xs ks false h))

pub ones-at : (place n : ℕ) (xs ks : List ℕ) → length xs ≡ n → length ks ≡ n
    → sum (sel_l (zip2 eqb xs (replicate n place)) (replicate n 1) (replicate n 0)) ≡ length (keys_at place xs ks)
ones-at place zero [] [] e f = refl
ones-at place (suc n) [] ks e f = absurd (omega (arith, e))
ones-at place zero (x ∷ xs) ks e f = absurd (omega (arith, e))
ones-at place zero [] (k ∷ ks) e f = absurd (omega (arith, f))
ones-at place (suc n) (x ∷ xs) [] e f = absurd (omega (arith, f))
ones-at place (suc n) (x ∷ xs) (k ∷ ks) e f =
    ones-step place x k xs ks (sel_l (zip2 eqb xs (replicate n place)) (replicate n 1) (replicate n 0)) (ones-at place n xs ks (omega (arith, e)) (omega (arith, f))) (eqb x place) refl

keys-step : (place x k : ℕ) (xs ks lanes : List ℕ) → sum lanes ≡ sum (keys_at place xs ks) → (b : Bool) → eqb x place ≡ b
    → sum (cond b k 0 ∷ lanes) ≡ sum (keys_at place (x ∷ xs) (k ∷ ks))
keys-step place x k xs ks lanes rest true h = sum-cons k lanes ∙ ap (λ s. k + s) rest ∙ sym (sum-cons k (keys_at place xs ks)) ∙ sym (ap sum (keys-cons place x k xs ks true h))
keys-step place x k xs ks lanes rest false h = sum-cons 0 lanes ∙ from-zero (sum lanes) ∙ rest ∙ sym (ap sum (keys-cons place x k xs ks false h))

pub keys-at : (place n : ℕ) (xs ks : List ℕ) → length xs ≡ n → length ks ≡ n
    → sum (sel_l (zip2 eqb xs (replicate n place)) ks (replicate n 0)) ≡ sum (keys_at place xs ks)
keys-at place zero [] [] e f = refl
keys-at place (suc n) [] ks e f = absurd (omega (arith, e))
keys-at place zero (x ∷ xs) ks e f = absurd (omega (arith, e))
keys-at place zero [] (k ∷ ks) e f = absurd (omega (arith, f))
keys-at place (suc n) (x ∷ xs) [] e f = absurd (omega (arith, f))
keys-at place (suc n) (x ∷ xs) (k ∷ ks) e f =
    keys-step place x k xs ks (sel_l (zip2 eqb xs (replicate n place)) ks (replicate n 0)) (keys-at place n xs ks (omega (arith, e)) (omega (arith, f))) (eqb x place) refl

-- where two vectors agree, as lanes of 16 bits made of wider ones; m is a wider lane with all bits set
one-narrowed : (f : ℕ → ℕ) (g : ℕ → ℕ → ℕ) (m : ℕ) → top 15 (f (g m 0)) ≡ true → top 15 (f (g 0 0)) ≡ false → (b : Bool) → top 15 (f (g (cond b m 0) 0)) ≡ b
one-narrowed f g m all clear true = all
one-narrowed f g m all clear false = clear

pub narrowed : (f : ℕ → ℕ) (g : ℕ → ℕ → ℕ) (m : ℕ) → top 15 (f (g m 0)) ≡ true → top 15 (f (g 0 0)) ≡ false → (t : ℕ → ℕ → Bool) (n : ℕ) (xs ys : List ℕ) → length xs ≡ n → length ys ≡ n
    → map (top 15) (map f (zip2 g (zip2 (λ a b. cond (t a b) m 0) xs ys) (replicate n 0))) ≡ zip2 t xs ys
narrowed f g m all clear t zero [] ys e h = refl
narrowed f g m all clear t (suc n) [] ys e h = absurd (omega (arith, e))
narrowed f g m all clear t zero (x ∷ xs) ys e h = absurd (omega (arith, e))
narrowed f g m all clear t (suc n) (x ∷ xs) [] e h = absurd (omega (arith, h))
narrowed f g m all clear t (suc n) (x ∷ xs) (y ∷ ys) e h = ap₂ (λ b l. b ∷ l) (one-narrowed f g m all clear (t x y)) (narrowed f g m all clear t n xs ys (omega (arith, e)) (omega (arith, h)))

one-fits : (P : ℕ → Type 0) (g : ℕ → ℕ → ℕ) (m : ℕ) → P (g m 0) → P (g 0 0) → (b : Bool) → P (g (cond b m 0) 0)
one-fits P g m all clear true = all
one-fits P g m all clear false = clear

pub each-narrowed : (P : ℕ → Type 0) (g : ℕ → ℕ → ℕ) (m : ℕ) → P (g m 0) → P (g 0 0) → (t : ℕ → ℕ → Bool) (n : ℕ) (xs ys : List ℕ)
    → Each1 P (zip2 g (zip2 (λ a b. cond (t a b) m 0) xs ys) (replicate n 0))
each-narrowed P g m all clear t n [] ys = tt
each-narrowed P g m all clear t n (x ∷ xs) [] = tt
each-narrowed P g m all clear t zero (x ∷ xs) (y ∷ ys) = tt
each-narrowed P g m all clear t (suc n) (x ∷ xs) (y ∷ ys) = (one-fits P g m all clear (t x y), each-narrowed P g m all clear t n xs ys)

-- a vector is added to the lanes of the vectors before
pub vector-added : (m : ℕ) (f : ℕ → ℕ → ℕ) → ((a b : ℕ) → f a b ≡ (a + b) % m) → (xs lanes : List ℕ) (before more : ℕ) → length xs ≡ length lanes
    → sum xs % m ≡ before % m → sum lanes ≡ more → sum (zip2 f xs lanes) % m ≡ (before + more) % m
vector-added m f is xs lanes before more long h e =
    added-lanes m f is xs lanes long
    ∙ sym (mod-add-mod (sum xs) m (sum lanes))
    ∙ ap₂ (λ a b. (a + b) % m) h e
    ∙ mod-add-mod before m more

-- the keys of one more vector
pub keys-vector : (place i n j : ℕ) (xs ks : List ℕ) → length ks ≡ length xs → j ≡ i + n → j ≤ length xs
    → keys_at place (take j xs) (take j ks) ≡ keys_at place (take i xs) (take i ks) ++ keys_at place (chunk i n xs) (chunk i n ks)
keys-vector place i n j xs ks same e room =
    ap (λ m. keys_at place (take m xs) (take m ks)) e
    ∙ ap₂ (keys_at place) (take-add i n xs) (take-add i n ks)
    ∙ keys_at-append place (take i xs) (take i ks) (chunk i n xs) (chunk i n ks) (omega (arith, length-take i xs, length-take i ks, same))

length-step : (place x k : ℕ) (xs ks : List ℕ) → length (keys_at place xs ks) ≤ length xs → (b : Bool) → eqb x place ≡ b → length (keys_at place (x ∷ xs) (k ∷ ks)) ≤ length (x ∷ xs)
length-step place x k xs ks rest true h = omega (arith, ap length (keys-cons place x k xs ks true h), rest)
length-step place x k xs ks rest false h = omega (arith, ap length (keys-cons place x k xs ks false h), rest)

pub length-keys : (place : ℕ) (xs ks : List ℕ) → length (keys_at place xs ks) ≤ length xs
length-keys place [] ks = omega arith
length-keys place (x ∷ xs) [] = omega arith
length-keys place (x ∷ xs) (k ∷ ks) = length-step place x k xs ks (length-keys place xs ks) (eqb x place) refl

-- all lanes from 0 on
pub all-lanes : (m : ℕ) (f : ℕ → ℕ → ℕ) → ((a b : ℕ) → f a b ≡ (a + b) % m) → (xs : List ℕ) → 0 % m ≡ 0 → fold_l f 0 xs ≡ sum xs % m
all-lanes m f is xs none =
    let e : 0 + sum xs ≡ sum xs = omega arith in
    ap (λ a. fold_l f a xs) (sym none) ∙ folded-lanes m f is xs 0 ∙ ap (λ s. s % m) e

-- what lanes of 16 bits keep of a sum of keys is enough: the largest key range divides 2 ^ 16
pub within-lanes : (s : ℕ) → (s % 2 ^ 16) % MOST_KEYS ≡ s % MOST_KEYS
within-lanes s = omega arith

-- the cell of some keys
abbrev cell_of_keys : List ℕ → Cell
cell_of_keys keys = record { count = length keys; key = sum keys % MOST_KEYS }

-- one more position
push-step : (place x k : ℕ) (before : List ℕ) (b : Bool) → eqb x place ≡ b
    → cell_of_keys (before ++ keys_at place (x ∷ []) (k ∷ [])) ≡ cond b (with_key (cell_of_keys before) k) (cell_of_keys before)
push-step place x k before true h =
    let counts : length (before ++ k ∷ []) ≡ length before + 1 = length-append before (k ∷ []) in
    let keys : sum (before ++ k ∷ []) ≡ sum before + k = sum_by_push (λ (y : ℕ). y) before k in
    let made : ℕ → ℕ → Cell = λ n s. record { count = n; key = s } in
    ap (λ l. cell_of_keys (before ++ l)) (keys-cons place x k [] [] true h)
    ∙ ap₂ (λ n s. made n (s % MOST_KEYS)) counts keys
    ∙ ap (made (length before + 1)) (sym (mod-add-mod (sum before) MOST_KEYS k))
push-step place x k before false h = ap (λ l. cell_of_keys (before ++ l)) (keys-cons place x k [] [] false h) ∙ ap cell_of_keys (append-nil before)

pub tally-more : (place : ℕ) (xs ks : List ℕ) (i : ℕ) (b : Bool) → length ks ≡ length xs → i < length xs → eqb (get_or xs i 0) place ≡ b
    → tally_of place (take (i + 1) xs) (take (i + 1) ks) ≡ cond b (with_key (tally_of place (take i xs) (take i ks)) (get_or ks i 0)) (tally_of place (take i xs) (take i ks))
tally-more place xs ks i b same below h =
    ap cell_of_keys (ap₂ (keys_at place) (take_more xs i 0 below) (take_more ks i 0 (omega (arith, below, same)))
    ∙ keys_at-append place (take i xs) (take i ks) (get_or xs i 0 ∷ []) (get_or ks i 0 ∷ []) (omega (arith, length-take i xs, length-take i ks, same)))
    ∙ push-step place (get_or xs i 0) (get_or ks i 0) (keys_at place (take i xs) (take i ks)) b h

-- so is a cell that is changed where the place stands there, and else stays
pub tally-put : (place : ℕ) (xs ks : List ℕ) (i : ℕ) (old new : Cell) → length ks ≡ length xs → length xs ≤ MOST_PERSONS → i < length xs → get_or xs i 0 ≡ place
    → old ≡ tally_of place (take i xs) (take i ks) → (old.count + 1 < 2 ^ 32 → new ≡ with_key old (get_or ks i 0)) → new ≡ tally_of place (take (i + 1) xs) (take (i + 1) ks)
tally-put place xs ks i old new same few below hit so_far exact =
    let counts : old.count ≡ length (keys_at place (take i xs) (take i ks)) = ap (λ (c : Cell). c.count) so_far in
    let small : old.count + 1 < 2 ^ 32 = omega (arith, counts, length-keys place (take i xs) (take i ks), length-take i xs, few) in
    exact small ∙ ap (λ c. with_key c (get_or ks i 0)) so_far ∙ sym (tally-more place xs ks i true same below (eq-eqb (get_or xs i 0) place hit))

pub tally-pass : (place : ℕ) (xs ks : List ℕ) (i : ℕ) (cell : Cell) → length ks ≡ length xs → i < length xs → (get_or xs i 0 ≡ place → ⊥)
    → cell ≡ tally_of place (take i xs) (take i ks) → cell ≡ tally_of place (take (i + 1) xs) (take (i + 1) ks)
tally-pass place xs ks i cell same below other so_far = so_far ∙ sym (tally-more place xs ks i false same below (ne_eqb (get_or xs i 0) place other))
