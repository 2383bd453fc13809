-- Loops that write: what is written so far, and then the lines of the rest, is the whole.
use Rattle.std.proofs.Common.{◌≡◌, refl, sym, ap, ◌∙◌, ℕ}
use Rattle.std.proofs.Common.{zero, suc, ◌+◌, ◌-◌, ◌*◌, ◌/◌, ◌<◌, ◌≤◌, List, ◌++◌, arith, append_assoc, append-nil}
use Rattle.std.specs.List.{flat_map, range_with_len}
use Rattle.tb_gen.specs.Draws.{after, draw, next_state}
use Rattle.tb_gen.specs.Lines.{each_below}

-- the lines of the numbers from one on that are below a bound
unfoldable pub rest_of : ℕ → (ℕ → List ℕ) → ℕ → List ℕ
rest_of n lines i = flat_map lines (range_with_len i (n - i))

-- at the first number the rest is the whole
pub all_left : (n : ℕ) (lines : ℕ → List ℕ) → rest_of n lines 0 ≡ each_below n lines
unfolding rest_of each_below
all_left n lines = let same : n - 0 ≡ n = omega arith in ap (λ k. flat_map lines (range_with_len 0 k)) same

-- the lines of one number are written
pub one_more : (n : ℕ) (lines : ℕ → List ℕ) (i : ℕ) (old new all : List ℕ) → i < n → new ≡ old ++ lines i
    → old ++ rest_of n lines i ≡ all → new ++ rest_of n lines (i + 1) ≡ all
unfolding rest_of
one_more n lines i old new all below grown whole =
    let count : n - i ≡ suc (n - (i + 1)) = omega arith in
    ap (λ t. t ++ flat_map lines (range_with_len (i + 1) (n - (i + 1)))) grown
    ∙ append_assoc old (lines i) (flat_map lines (range_with_len (i + 1) (n - (i + 1))))
    ∙ ap (λ k. old ++ flat_map lines (range_with_len i k)) (sym count)
    ∙ whole

-- nothing is left at the bound
pub none_left : (n : ℕ) (lines : ℕ → List ℕ) (i : ℕ) (old all : List ℕ) → n ≤ i → old ++ rest_of n lines i ≡ all → old ≡ all
unfolding rest_of
none_left n lines i old all past whole =
    let count : 0 ≡ n - i = omega arith in
    sym (append-nil old) ∙ ap (λ k. old ++ flat_map lines (range_with_len i k)) count ∙ whole

-- draws that follow draws
pub after_more : (m k n x : ℕ) → m + k ≡ n → after n x ≡ after k (after m x)
unfolding after
after_more zero k n x e = let same : n ≡ k = omega arith in ap (λ j. after j x) same
after_more (suc m) k n x e =
    let one : n ≡ suc (m + k) = omega arith in
    ap (λ j. after j x) one ∙ after_more m k (m + k) (next_state x) refl

-- one draw more
pub next_is : (k x a b : ℕ) → a ≡ after k x → b ≡ after 1 a → b ≡ after (suc k) x
next_is k x a b so_far more =
    let count : k + 1 ≡ suc k = omega arith in
    more ∙ ap (after 1) so_far ∙ sym (after_more k 1 (suc k) x count)

-- the value of one draw more
pub next_value : (k x a : ℕ) → a ≡ after k x → draw 1 a ≡ draw (suc k) x
next_value k x a so_far = ap (λ s. s / 65536) (next_is k x a (after 1 a) so_far refl)

-- the draws of one number more
pub draws_more : (each i x a b : ℕ) → a ≡ after (each * i) x → b ≡ after each a → b ≡ after (each * (i + 1)) x
draws_more each i x a b so_far more =
    let count : each * i + each ≡ each * (i + 1) = omega arith in
    more ∙ ap (after each) so_far ∙ sym (after_more (each * i) each (each * (i + 1)) x count)

-- before any draw
pub none_yet : (x : ℕ) → after 0 x ≡ x
unfolding after
none_yet x = refl

-- a file that has its header alone
pub starts : (n : ℕ) (lines : ℕ → List ℕ) (head file : List ℕ) → file ≡ head → file ++ rest_of n lines 0 ≡ head ++ each_below n lines
starts n lines head file is = ap (λ t. t ++ rest_of n lines 0) is ∙ ap (λ t. head ++ t) (all_left n lines)
