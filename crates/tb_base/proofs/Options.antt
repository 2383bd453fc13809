-- The first of two values of which either may be missing.
use Rattle.std.proofs.Common.{◌≡◌, Option, Some, None, refl}
use Rattle.std.specs.Option.{option_or}

pub none_both : {A : Type 0} (x y : Option A) → option_or x y ≡ None → (x ≡ None) × (y ≡ None)
none_both None y h = (refl, h)
none_both (Some a) y h = absurd (cc)
