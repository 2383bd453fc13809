-- How a kind of fault is printed.
use Rattle.std.specs.Prelude.{ℕ, List}

-- the number and the word of a kind
pub record FaultNameValue : Type 0 where
  pub number : ℕ
  pub word : List ℕ
