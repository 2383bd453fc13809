-- A page's number in one number.
use Rattle.std.specs.Prelude.{◌≡◌, ℕ, zero, suc, Option, Some, None, refl}
use Rattle.std.proofs.Common.{ap}
use Rattle.tb_pages.specs.declared.number.PageNumber.TheInside.{Inside}

-- the number one below; none below 0
abbrev pub number_below : ℕ → Option ℕ
number_below zero = None
number_below (suc page) = Some page

-- the number one above, and 0 for none
abbrev pub one_above : Option ℕ → ℕ
one_above None = zero
one_above (Some page) = suc page

-- one comes back by the other
above_below : (n : ℕ) → one_above (number_below n) ≡ n
above_below zero = refl
above_below (suc page) = refl

pub one_above_below : (p : Inside) → ◌≡◌ {A = Inside} (record { above = one_above (number_below p.above) }) p
one_above_below p = ap (λ n. record { above = n }) (above_below p.above)
