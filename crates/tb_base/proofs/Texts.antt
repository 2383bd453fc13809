-- Texts that are equal or not.
use Rattle.std.proofs.Common.{◌≡◌, subst, refl, ℕ, true, false, List, inl, inr}
use Rattle.std.specs.Prelude.{bytes_eq}
use Rattle.std.proofs.lemmas.Bool.{cases_Bool}
use Rattle.std.proofs.lemmas.Slice.Eq.{bytes_eq-Decides}

pub same_text : (a b : List ℕ) → bytes_eq a b ≡ true → a ≡ b
same_text a b h = (bytes_eq-Decides a b).0 h

pub text_itself : (a : List ℕ) → bytes_eq a a ≡ true
text_itself a = (bytes_eq-Decides a a).1 refl

-- the order of two texts doesn't matter
pub text_other_way : (a b : List ℕ) → bytes_eq a b ≡ false → bytes_eq b a ≡ false
text_other_way a b h = elim (cases_Bool (bytes_eq b a)) [
  | inl t ↦ let e = subst (λ x. bytes_eq a x ≡ false) (same_text b a t) h in let i = text_itself a in cc
  | inr t ↦ t
]
