-- Rows of cells that are added to the last, or taken out of it.
use Rattle.std.proofs.Common.{◌≡◌, ℕ, ◌+◌, ◌-◌, ◌*◌, ◌%◌, ◌<◌, ◌≤◌, refl, ap, sym, ◌∙◌, arith}
use Rattle.std.specs.List.{sum_by, range_with_len}
use Rattle.std.proofs.Math.Nat.{mod-mod, add-mod-mod, mul-le-mul_right}
use Rattle.tb_grid.specs.declared.totals.Sign.{Sign}
use Rattle.tb_grid.specs.declared.totals.Sign.TheVariants.{Plus, Minus}
use Rattle.tb_grid.specs.Signs.{IsSigned}
use Rattle.tb_grid.proofs.Sums.{sum-more, sum-range, row-below}

-- a number modulo k to which one is added, and then another
added-twice : (k a b c s x : ℕ) → b % k ≡ (s + a) % k → c % k ≡ (x + b) % k → c % k ≡ (s + x + a) % k
added-twice k a b c s x h e =
    let sign : x + (s + a) ≡ s + x + a = omega arith in
    e ∙ sym (add-mod-mod x b k) ∙ ap (λ y. (x + y) % k) h ∙ add-mod-mod x (s + a) k ∙ ap (λ y. y % k) sign

-- one sign after another
two-signed : (sign : Sign) (k s x old mid new : ℕ) → IsSigned sign k s old mid → IsSigned sign k x mid new → IsSigned sign k (s + x) old new
two-signed Plus k s x old mid new h e = added-twice k old mid new s x h e
two-signed Minus k s x old mid new h e = added-twice k new mid old x s e h
    ∙ (let sign : x + s + new ≡ s + x + new = omega arith in ap (λ y. y % k) sign)

pub same-sign : (sign : Sign) (k : ℕ) {more more' old old' new new' : ℕ} → more ≡ more' → old ≡ old' → new ≡ new' → IsSigned sign k more old new
    → IsSigned sign k more' old' new'
same-sign sign k a b c h = rw (← a, ← b, ← c) h

-- a cell with another added, or taken out
pub one-added : (k x old new : ℕ) → new ≡ (old + x) % k → IsSigned Plus k x old new
one-added k x old new h = ap (λ y. y % k) h ∙ mod-mod (old + x) k ∙ (let sign : old + x ≡ x + old = omega arith in ap (λ y. y % k) sign)

pub one-taken : (k x old new : ℕ) → (new + x) % k ≡ old % k → IsSigned Minus k x old new
one-taken k x old new h = sym h ∙ (let sign : new + x ≡ x + new = omega arith in ap (λ y. y % k) sign)

last-row : (f : ℕ → ℕ) (n : ℕ) → 0 < n → sum_by f (range_with_len 0 (n - 1)) + f (n - 1) ≡ sum_by f (range_with_len 0 n)
last-row f n some =
    let back : n - 1 + 1 ≡ n = omega arith in
    let more = sum-more f 0 (n - 1) in
    let here : 0 + (n - 1) ≡ n - 1 = omega arith in
    sym (ap (λ j. sum_by f (range_with_len 0 j)) (sym back) ∙ more ∙ ap (λ j. sum_by f (range_with_len 0 (n - 1)) + f j) here)

-- a cell of a block is before the blocks that follow
pub block-before : (o b n m q r : ℕ) → o < b → q < n → r < m → o * (n * m) + q * m + r < b * (n * m)
block-before o b n m q r p s t =
    let inner = row-below n m q r s t in
    omega (arith, row-below b (n * m) o (q * m + r) p inner)

-- a row before the last one
pub row-before : (n m e r : ℕ) → e < n - 1 → r < m → e * m + r < (n - 1) * m
row-before n m e r p s = row-below (n - 1) m e r p s

-- a row of the sum, with one row more added or taken out
pub one-row : (sign : Sign) (k : ℕ) (f : ℕ → ℕ) (e x old mid new : ℕ) → IsSigned sign k (sum_by f (range_with_len 0 e)) old mid
    → IsSigned sign k x mid new → x ≡ f e
    → IsSigned sign k (sum_by f (range_with_len 0 (e + 1))) old new
one-row sign k f e x old mid new h n same =
    let s : ℕ = sum_by f (range_with_len 0 e) in
    let more : sum_by f (range_with_len 0 (e + 1)) ≡ s + f e = sum-more f 0 e ∙ (let z : 0 + e ≡ e = omega arith in ap (λ j. s + f j) z) in
    same-sign sign k (ap (λ y. s + y) same ∙ sym more) refl refl (two-signed sign k s x old mid new h n)

-- the sum of all rows, where the last is apart
pub with-last : (k n : ℕ) (f g : ℕ → ℕ) (whole : ℕ) → 0 < n → ((e : ℕ) → e < n - 1 → g e ≡ f e)
    → whole % k ≡ (sum_by g (range_with_len 0 (n - 1)) + f (n - 1)) % k
    → whole % k ≡ sum_by f (range_with_len 0 n) % k
with-last k n f g whole some same h = h ∙ ap (λ s. s % k)
    (ap (λ s. s + f (n - 1)) (sum-range g f 0 (n - 1) (λ e low. same e (omega arith))) ∙ last-row f n some)

-- blocks that follow one another
pub one-block : (b s : ℕ) → (b + 1) * s ≡ b * s + s
one-block b s = omega arith

pub block-after : (b o s : ℕ) → b < o → b * s + s ≤ o * s
block-after b o s h = omega (arith, one-block b s, mul-le-mul_right s (let k : b + 1 ≤ o = omega arith in k))
