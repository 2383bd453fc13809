-- The two numbers of cells, each summed modulo its own number.
use Rattle.std.proofs.Common.{◌≡◌, ℕ, ◌+◌, ◌%◌, ◌^◌, ◌<◌, cond, List, length, set, refl, ap, sym, ◌∙◌, inl, inr, arith}
use Rattle.std.specs.Prelude.{◌==◌}
use Rattle.std.proofs.Math.Nat.{mod-eq_of_lt, mod-add-mod}
use Rattle.std.proofs.lemmas.Bool.{ne_eqb}
use Rattle.std.proofs.lemmas.Bool.Decides.{eqb_tells}
use Rattle.std.proofs.lemmas.List.{get_or-set_same, get_or-set_other}
use Rattle.std.proofs.lemmas.Nat.{mod_below}
use Rattle.tb_base.specs.declared.cells.Cell.{Cell}
use Rattle.tb_base.specs.Cells.{empty_cell, merged}
use Rattle.tb_base.specs.Parts.{modulus, part, part_at, Part}
use Rattle.tb_base.specs.Parts.Part.{counts, keys}

-- cells whose parts are the same are the same
pub same-cell : (x y : Cell) → ((p : Part) → part p x ≡ part p y) → x ≡ y
same-cell x y same =
    let made : ℕ → ℕ → Cell = λ n m. record { count = n; key = m } in
    ap (λ n. made n x.key) (same counts) ∙ ap (λ m. made y.count m) (same keys)

pub empty-part : (p : Part) → part p empty_cell ≡ 0
empty-part counts = refl
empty-part keys = refl

-- a part that was reduced is below its modulus
pub reduced-below : (p : Part) (n : ℕ) → n % modulus p < modulus p
reduced-below counts n = mod_below n (modulus counts) (omega arith)
reduced-below keys n = mod_below n (modulus keys) (omega arith)

-- where the counts are small, a merge has the sums of the parts
pub part-merged : (p : Part) (x y : Cell) → x.count + y.count < 2 ^ 32 → part p (merged x y) ≡ (part p x + part p y) % modulus p
part-merged counts x y few = sym (mod-eq_of_lt few)
part-merged keys x y few = refl

-- a part that is small is itself modulo its modulus
pub part-small : (p : Part) (c : Cell) → c.count < modulus counts → c.key < modulus keys → part p c % modulus p ≡ part p c
part-small counts c few small = mod-eq_of_lt few
part-small keys c few small = mod-eq_of_lt small

-- sums modulo a number: one more term
pub add-more : (k old mid new s x : ℕ) → mid % k ≡ (old + s) % k → new % k ≡ (mid + x) % k → new % k ≡ (old + (s + x)) % k
add-more k old mid new s x h e =
    let turn : old + s + x ≡ old + (s + x) = omega arith in
    e ∙ sym (mod-add-mod mid k x) ∙ ap (λ y. (y + x) % k) h ∙ mod-add-mod (old + s) k x ∙ ap (λ y. y % k) turn

-- nothing is added
pub nothing : (m old x : ℕ) → x ≡ 0 → old % m ≡ (old + x) % m
nothing m old x none = let e : old ≡ old + x = omega arith in ap (λ y. y % m) e

-- one of the cells is changed: something is added to its part alone
pub added-at : (p : Part) (cells : List Cell) (to i : ℕ) (new : Cell) (x : ℕ) → to < length cells
    → part p new % modulus p ≡ (part_at p cells to + x) % modulus p
    → part_at p (set cells to new) i % modulus p ≡ (part_at p cells i + cond (to == i) x 0) % modulus p
added-at p cells to i new x below made =
    elim (eqb_tells to i) [
      | inl h ↦ rw (h.0, ← h.1, get_or-set_same cells to new empty_cell below) made
      | inr h ↦ rw (h.0, get_or-set_other cells to i new empty_cell (λ e. h.1 (sym e))) (nothing (modulus p) (part_at p cells i) 0 refl)
    ]

-- what would go past a cell isn't added to it
pub past-at : (p : Part) (cells : List Cell) (to i x : ℕ) → i < to
    → part_at p cells i % modulus p ≡ (part_at p cells i + cond (to == i) x 0) % modulus p
past-at p cells to i x past = rw (ne_eqb to i (λ e. omega (arith, e))) (nothing (modulus p) (part_at p cells i) 0 refl)
