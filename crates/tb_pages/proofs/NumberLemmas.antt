-- A page's number, read from one number.
use Rattle.std.proofs.Common.{◌≡◌, ℕ, zero, suc, ◌-◌, refl, ap, arith}
use Rattle.std.specs.Prelude.{Option, Some, None}
use Rattle.tb_pages.specs.PageNumbers.{number_below}

pub none_below : (n : ℕ) → n ≡ 0 → None ≡ number_below n
none_below n is = rw is refl

pub some_below : (n : ℕ) → (n ≡ 0 → ⊥) → Some (n - 1) ≡ number_below n
some_below zero apart = absurd (apart refl)
some_below (suc k) apart = let e : suc k - 1 ≡ k = omega arith in ap Some e
