-- A text that goes to a sink behind bytes that wait for it.
use Rattle.std.specs.Prelude.{◌≡◌, ◌≤◌, ◌+◌, ℕ, List, Option, [], ◌∷◌, ◌++◌, All, length}
use Rattle.tb_io.specs.Faults.{HasRisen}
use Rattle.tb_io.specs.Taken.{Took, TookPart}

-- the first bytes of a text were taken, and the others wait
pub record IsOn (faults faults' : ℕ) (taken taken' : Option (List ℕ)) (waiting text : List ℕ)
    : Type 0 where
  pub count : faults ≤ faults'
  pub passed : List ℕ
  pub took : Took taken taken' passed
  pub same : passed ++ waiting ≡ text

-- the sink failed, where the count of its faults rose, and took a first part of a text
pub record IsCut (faults faults' : ℕ) (taken taken' : Option (List ℕ)) (text : List ℕ)
    : Type 0 where
  pub count : faults ≤ faults'
  pub risen : HasRisen faults faults'
  pub part : TookPart taken taken' text

-- behind so many bytes there is room for a field of each list, and 16 bytes more
abbrev pub HasRoom : ℕ → ℕ → List (List (List ℕ)) → Type 0
HasRoom used room [] = used + 16 ≤ room
HasRoom used room (fields ∷ rest) =
    (used + 16 ≤ room) × All (λ field. HasRoom (used + length field) room rest) fields
