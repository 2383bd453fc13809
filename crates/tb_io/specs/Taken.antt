-- The bytes that a sink took, where it tells them.
use Rattle.std.specs.Prelude.{◌≡◌, ◌≤◌, ℕ, List, ◌++◌, Option, None, Some, take}
use Rattle.tb_io.specs.Faults.{HasRisen}
use Rattle.tb_io.specs.declared.answers.Wrote.{Wrote}
use Rattle.tb_io.specs.declared.answers.Wrote.TheVariants as wrote

-- exactly these bytes were taken; a sink may stop telling its bytes, and then never tells again
abbrev pub Took : Option (List ℕ) → Option (List ℕ) → List ℕ → Type 0
Took None after bytes = after ≡ None
Took (Some before) None bytes = Unit {0}
Took (Some before) (Some after) bytes = after ≡ before ++ bytes

-- some first part of these bytes was taken
abbrev pub TookPart : Option (List ℕ) → Option (List ℕ) → List ℕ → Type 0
TookPart before after bytes = (k : ℕ) × Took before after (take k bytes)

-- what the writing of a text tells: all of it was taken, or it failed, which it does only where the
-- count of faults rose, and a first part was taken
pub record IsWritten (result : Wrote) (faults faults' : ℕ) (taken taken' : Option (List ℕ))
    (text : List ℕ) : Type 0 where
  pub count : faults ≤ faults'
  pub failed : result ≡ wrote.Failed → HasRisen faults faults'
  pub all : result ≡ wrote.All → Took taken taken' text
  pub part : result ≡ wrote.Failed → TookPart taken taken' text
