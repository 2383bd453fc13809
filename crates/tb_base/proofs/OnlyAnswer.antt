-- What is returned for a text that has exactly one answer.
use Rattle.std.proofs.Common.{◌≡◌, ◌≢◌, ◌⊎◌, inl, inr, Result, Ok, Err}
use Rattle.std.specs.Prelude.{IfOk, IfErr, MatchResult}
use Rattle.tb_base.specs.OneAnswer.{HasOneAnswer}

module _ {A F : Type 0} (memory : F) (Reads : A → Type 0) (IsRefused : F → Type 0) (one : HasOneAnswer memory Reads IsRefused) where
  by_memory : (a : A) (f : F) → Reads a → IsRefused f → (f ≡ memory) ⊎ (f ≢ memory) → f ≡ memory
  by_memory a f reads refused (inl is) = is
  by_memory a f reads refused (inr other) = absurd (one.not_both a f other reads refused)

  -- a right answer for a text that reads as a value is that value, or want of memory
  pub only : ((f : F) → (f ≡ memory) ⊎ (f ≢ memory)) → (answer : Result A F) → IfOk answer Reads → IfErr answer IsRefused
      → (a : A) → Reads a → MatchResult answer (λ b. b ≡ a) (λ f. f ≡ memory)
  only is_memory (Ok b) ok err a reads = one.one_value b a ok reads
  only is_memory (Err f) ok err a reads = by_memory a f reads err (is_memory f)
