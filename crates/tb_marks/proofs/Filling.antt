-- Raised numbers, one after the other.
use Rattle.std.proofs.Common.{◌≡◌, ◌∙◌, sym, ap, ℕ, ◌+◌, ◌*◌, ◌/◌, ◌%◌, ◌<◌, List, [], ◌∷◌, ◌++◌, length, length-append, arith, inl, inr}
use Rattle.std.specs.Prelude.{slice_index}
use Rattle.std.proofs.lemmas.Bool.{cases_lt}
use Rattle.std.proofs.lemmas.List.{get_or_append_left, get_or_push}
use Rattle.std.proofs.lemmas.Nat.{div-mul-add, mod-mul-add, mul-add-lt}
use Rattle.tb_marks.specs.Raised.{raised_at, AreRaised}

-- each of the numbers is that of its dimension and place
abbrev pub IsFilled : List ℕ → ℕ → List ℕ → Type 0
IsFilled sizes places ups = (j : ℕ) → j < length ups → slice_index ups j ≡ raised_at sizes (j / places) (j % places)

pub filled-more : (sizes : List ℕ) (places d x up : ℕ) (ups : List ℕ) → x < places → length ups ≡ d * places + x → up ≡ raised_at sizes d x → IsFilled sizes places ups → IsFilled sizes places (ups ++ up ∷ [])
filled-more sizes places d x up ups below long is filled = λ j inside.
    elim (cases_lt j (length ups)) [
      | inl h ↦ get_or_append_left ups (up ∷ []) 0 j h ∙ filled j h
      | inr h ↦
          let last : length ups ≡ j = omega (arith, h, inside, length-append ups (up ∷ [])) in
          let at : j ≡ d * places + x = sym last ∙ long in
          get_or_push ups up 0 j last ∙ is
          ∙ sym (ap (λ k. raised_at sizes k (j % places)) (ap (λ k. k / places) at ∙ div-mul-add d places x below)
          ∙ ap (raised_at sizes d) (ap (λ k. k % places) at ∙ mod-mul-add d places x below))
    ]

pub filled-all : (sizes : List ℕ) (places : ℕ) (ups : List ℕ) → length ups ≡ length sizes * places → ((d x : ℕ) → d < length sizes → x < places → raised_at sizes d x < places) → IsFilled sizes places ups → AreRaised sizes places ups
filled-all sizes places ups long low filled = record {
  long = long;
  raised = λ d x there below.
      let inside : d * places + x < length ups = omega (arith, long, mul-add-lt d places x (length sizes) there below) in
      filled (d * places + x) inside
      ∙ ap (λ k. raised_at sizes k ((d * places + x) % places)) (div-mul-add d places x below) ∙ ap (raised_at sizes d) (mod-mul-add d places x below);
  below = low;
}
