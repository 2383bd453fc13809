-- Lists of what there is for each number below a bound.
use Rattle.std.specs.Prelude.{ℕ, List, flat_map, map}
use Rattle.std.specs.List.{range_with_len}

-- a value for each number from 0 that is below a bound, in order
unfoldable pub list_below : {A : Type 0} → ℕ → (ℕ → A) → List A
list_below n value = map value (range_with_len 0 n)

-- some values for each
unfoldable pub lists_below : {A : Type 0} → ℕ → (ℕ → List A) → List A
lists_below n values = flat_map values (range_with_len 0 n)
