-- Sets of numbers, as ascending lists.
use Rattle.std.specs.Prelude.{ℕ, ◌==◌, Bool, List}
use Rattle.std.specs.List.{list_any, list_all}

-- whether a number is in a set
abbrev pub is_in : List ℕ → ℕ → Bool
is_in set n = list_any (λ m. m == n) set

-- whether each number of a second set is in the first
abbrev pub includes_all : List ℕ → List ℕ → Bool
includes_all set other = list_all (is_in set) other
