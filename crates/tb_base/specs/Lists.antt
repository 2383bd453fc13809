-- Lists of values of which some may be missing.
use Rattle.std.specs.Prelude.{List, [], ◌∷◌, Option, Some, None, option_map}

-- all the values, if none is missing
abbrev pub all_some : {A : Type 0} → List (Option A) → Option (List A)
all_some [] = Some []
all_some (None ∷ more) = None
all_some (Some x ∷ more) = option_map (λ xs. x ∷ xs) (all_some more)
