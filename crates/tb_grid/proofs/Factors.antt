-- Products of sizes.
use Rattle.std.proofs.Common.{◌≡◌, ℕ, zero, suc, ◌+◌, ◌-◌, ◌*◌, ◌<◌, ◌≤◌, List, [], ◌∷◌, length, drop, get_or, refl, ap, inl, inr, arith}
use Rattle.std.specs.Prelude.{min}
use Rattle.std.proofs.lemmas.Bool.{cases_lt}
use Rattle.std.proofs.lemmas.List.{drop_more}
use Rattle.tb_model.specs.RowMajor.{product}
use Rattle.tb_grid.specs.Totals.{AreSome}

-- one factor more
pub product-drop : (ns : List ℕ) (j : ℕ) → j < length ns → product (drop j ns) ≡ get_or ns j 0 * product (drop (j + 1) ns)
product-drop ns j below = ap product (drop_more ns j 0 below)

pub positive : (n m : ℕ) → 0 < n → 0 < m → 0 < n * m
positive zero m p q = absurd (omega arith)
positive (suc n) m p q = grind arith

pub at-least : (n m : ℕ) → 0 < n → m ≤ n * m
at-least zero m p = absurd (omega arith)
at-least (suc n) m p = grind arith

pub product-some : (ns : List ℕ) → AreSome ns → 0 < product ns
product-some [] some = omega arith
product-some (n ∷ ns) some = positive n (product ns) some.0 (product-some ns some.1)

-- a part of the factors has no larger product
pub product-drop-le : (ns : List ℕ) (j : ℕ) → AreSome ns → product (drop j ns) ≤ product ns
product-drop-le [] zero some = omega arith
product-drop-le [] (suc j) some = omega arith
product-drop-le (n ∷ ns) zero some = omega arith
product-drop-le (n ∷ ns) (suc j) some = omega (arith, product-drop-le ns j some.1, at-least n (product ns) some.0)

min-left : (a b : ℕ) → a ≤ b → min a b ≡ a
min-left a b h = omega arith

min-right : (a b : ℕ) → b < a → min a b ≡ b
min-right a b h = omega arith

min-le : (a b : ℕ) → b ≤ a → min a b ≡ b
min-le a b h = omega arith

-- a product that is cut off after each factor
pub cut-off : (n m most : ℕ) → min (n * min m most) most ≡ min (n * m) most
cut-off zero m most =
    let a : 0 * min m most ≡ 0 = omega arith in
    let b : 0 * m ≡ 0 = omega arith in
    rw (a, b) refl
cut-off (suc n) m most =
    elim (cases_lt most m) [
      | inl h ↦ omega (arith, min-right m most h, at-least (suc n) m (omega arith), at-least (suc n) most (omega arith), min-right (suc n * m) most (omega (arith, at-least (suc n) m (omega arith))), min-le (suc n * most) most (at-least (suc n) most (omega arith)))
      | inr h ↦ ap (λ k. min (suc n * k) most) (min-left m most h)
    ]

pub one-factor : (ns : List ℕ) (d places : ℕ) → 0 < d → d ≤ length ns → places ≡ product (drop d ns) → places * get_or ns (d - 1) 0 ≡ product (drop (d - 1) ns)
one-factor ns d places some within is =
    let back : d - 1 + 1 ≡ d = omega arith in
    let split = product-drop ns (d - 1) (omega arith) in
    rw (split, back, ← is) (omega arith)
