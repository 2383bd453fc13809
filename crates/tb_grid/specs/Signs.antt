-- Totals added up, or taken out again, by the sign of what is done.
use Rattle.std.specs.Prelude.{◌≡◌, ◌+◌, ◌%◌, ℕ}
use Rattle.tb_grid.specs.declared.totals.Sign.{Sign}
use Rattle.tb_grid.specs.declared.totals.Sign.TheVariants.{Plus, Minus}

-- of what was before and what is after: the one without totals, and the one with them
abbrev pub plain : {A : Type 0} → Sign → A → A → A
plain Plus old new = old
plain Minus old new = new

abbrev pub totalled : {A : Type 0} → Sign → A → A → A
totalled Plus old new = new
totalled Minus old new = old

-- a number is added to another modulo k, or taken out of it
abbrev pub IsSigned : Sign → ℕ → ℕ → ℕ → ℕ → Type 0
IsSigned sign k more old new = totalled sign old new % k ≡ (more + plain sign old new) % k
