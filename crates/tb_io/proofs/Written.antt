-- What the writing of a text tells.
use Rattle.std.proofs.Common.{◌≡◌, ℕ, ◌≤◌, List, Option, arith, subst}
use Rattle.tb_io.specs.Faults.{HasRisen}
use Rattle.tb_io.specs.Taken.{IsWritten, Took, TookPart}
use Rattle.tb_io.specs.declared.answers.Wrote.{Wrote}
use Rattle.tb_io.specs.declared.answers.Wrote.TheVariants as wrote
use Rattle.tb_io.proofs.FaultLemmas.{HasRisen-earlier}

-- all of it was taken
pub all_written : (f f' : ℕ) (t t' : Option (List ℕ)) (text : List ℕ) → f ≤ f' → Took t t' text → IsWritten wrote.All f f' t t' text
all_written f f' t t' text up took = record { count = up; failed = λ h. cc; all = λ _. took; part = λ h. cc }

-- it failed, when some writes before had gone well
pub cut_written : {f between f' : ℕ} {t t' : Option (List ℕ)} {text : List ℕ} → f ≤ between → between ≤ f' → HasRisen between f' → TookPart t t' text → IsWritten wrote.Failed f f' t t' text
cut_written {f} {between} {f'} le up risen took = record { count = omega arith; failed = λ _. HasRisen-earlier f between f' le risen up; all = λ h. cc; part = λ _. took }

-- the same bytes, put together in another way
pub written_as : {w : Wrote} {f f' : ℕ} {t t' : Option (List ℕ)} {text other : List ℕ} → text ≡ other → IsWritten w f f' t t' text → IsWritten w f f' t t' other
written_as {w} {f} {f'} {t} {t'} e h = let P : List ℕ → Type 0 = λ s. IsWritten w f f' t t' s in subst P e h
