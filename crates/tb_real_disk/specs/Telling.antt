-- A disk that tells nothing.
use mathlib.Core.Path.{subst}
use Rattle.std.specs.Prelude.{◌≡◌, ℕ, List, Option, None, Some}

-- there is none, or there is one
abbrev IsNone : Option (List ℕ) → Type 0
IsNone None = Unit {0}
IsNone (Some file) = ⊥

pub never : {file : List ℕ} → None ≡ Some file → ⊥
never told = subst IsNone told tt
