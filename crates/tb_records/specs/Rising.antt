-- Numbers that rise.
use Rattle.std.specs.Prelude.{◌≤◌, ℕ, List, All}
use Rattle.std.specs.List.Sorted.{IsStrictlyIncreasing}

-- numbers that rise, none of them above a last one
pub record RiseTo (last : ℕ) (numbers : List ℕ) : Type 0 where
  pub rise : IsStrictlyIncreasing numbers
  pub most : All (λ n. n ≤ last) numbers
