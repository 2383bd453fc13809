-- A text that is read has exactly one answer.
use Rattle.std.specs.Prelude.{◌≡◌, ◌≢◌, ◌⊎◌}

-- There is one value as which it reads, or one fault that refuses it; want of memory, which may
-- come at any text, is none.
pub record HasOneAnswer {A F : Type 0} (memory : F) (Reads : A → Type 0)
    (IsRefused : F → Type 0) : Type 0 where
  pub some_answer : ((a : A) × Reads a) ⊎ ((f : F) × (f ≢ memory) × IsRefused f)
  pub one_value : (a b : A) → Reads a → Reads b → a ≡ b
  pub one_fault : (f g : F) → f ≢ memory → g ≢ memory → IsRefused f → IsRefused g → f ≡ g
  pub not_both : (a : A) (f : F) → f ≢ memory → Reads a → ¬ IsRefused f
