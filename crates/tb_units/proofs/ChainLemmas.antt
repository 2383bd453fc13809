-- Chains with one more link.
use Rattle.std.proofs.Common.{◌≡◌, ◌≢◌, ◌∙◌, sym, ap, refl, ℕ, ◌+◌, ◌<◌, List, [], ◌∷◌, ◌++◌, length, length-append, get_or, get_or-set_other, get_or-set_same, arith, inl, inr, add-one}
use Rattle.std.specs.Prelude.{replicate, slice_index, slice_set}
use Rattle.std.proofs.lemmas.Bool.{cases_lt, eq-eqb, ne_eqb}
use Rattle.std.proofs.lemmas.Bool.Decides.{eqb_tells}
use Rattle.std.proofs.lemmas.List.{get_or_append_left, get_or_push, length-set, length-replicate, get_or-replicate}
use Rattle.tb_model.specs.Units.{PairValue}
use Rattle.tb_units.specs.Chains.{AreChains, last_to}
use Rattle.tb_units.specs.Pairs.{pair_at}
use Rattle.tb_units.specs.Whole.{HaveOwn}

pub chains-none : (dwellings links : List PairValue) → AreChains dwellings links 0 (replicate (length dwellings) 0) []
unfolding last_to
chains-none dwellings links = record {
  long = length-replicate (length dwellings) 0;
  begin = λ d there. get_or-replicate (length dwellings) d 0 0 there;
  all = refl;
  go_on = λ k below. absurd (omega (arith, below));
}

-- the last link to a dwelling, with one more link to it, or to another
last-here : (links : List PairValue) (number k : ℕ) → (pair_at links k).1 ≡ number → last_to links number (k + 1) ≡ k + 1
unfolding last_to
last-here links number k is = rw (add-one, eq-eqb (pair_at links k).1 number is) refl

last-other : (links : List PairValue) (number k : ℕ) → (pair_at links k).1 ≢ number → last_to links number (k + 1) ≡ last_to links number k
unfolding last_to
last-other links number k other = rw (add-one, ne_eqb (pair_at links k).1 number other) refl

-- two dwellings of one number are one
same-dwelling : (dwellings : List PairValue) (d e : ℕ) → HaveOwn dwellings → d < length dwellings → e < length dwellings → (pair_at dwellings d).0 ≡ (pair_at dwellings e).0 → d ≡ e
same-dwelling dwellings d e own there here same = elim (cases_lt d e) [
  | inl h ↦ absurd (own d e h here same)
  | inr h ↦ elim (cases_lt e d) [
    | inl g ↦ absurd (own e d g there (sym same))
    | inr g ↦ omega (arith, g, h)
  ]
]

pub chains-more : (dwellings links : List PairValue) (heads nexts : List ℕ) (k d : ℕ) → HaveOwn dwellings → d < length dwellings → (pair_at dwellings d).0 ≡ (pair_at links k).1
    → AreChains dwellings links k heads nexts → AreChains dwellings links (k + 1) (slice_set heads d (k + 1)) (nexts ++ slice_index heads d ∷ [])
chains-more dwellings links heads nexts k d own there is chains = record {
  long = length-set heads d (k + 1) ∙ chains.long;
  begin = λ e here. elim (eqb_tells d e) [
    | inl h ↦
        let to : (pair_at links k).1 ≡ (pair_at dwellings e).0 = sym is ∙ ap (λ i. (pair_at dwellings i).0) h.1 in
        ap (λ i. get_or (slice_set heads d (k + 1)) i 0) (sym h.1) ∙ get_or-set_same heads d (k + 1) 0 (omega (arith, chains.long, there)) ∙ sym (last-here links (pair_at dwellings e).0 k to)
    | inr h ↦
        let other : (pair_at links k).1 ≢ (pair_at dwellings e).0 = λ s. h.1 (same-dwelling dwellings d e own there here (is ∙ s)) in
        get_or-set_other heads d e (k + 1) 0 (λ s. h.1 (sym s)) ∙ chains.begin e here ∙ sym (last-other links (pair_at dwellings e).0 k other)
  ];
  all = omega (arith, chains.all, length-append nexts (slice_index heads d ∷ []));
  go_on = λ j below. elim (cases_lt j k) [
    | inl h ↦ get_or_append_left nexts (slice_index heads d ∷ []) 0 j (omega (arith, h, chains.all)) ∙ chains.go_on j h
    | inr h ↦
        let last : k ≡ j = omega (arith, h, below) in
        get_or_push nexts (slice_index heads d) 0 j (chains.all ∙ last) ∙ chains.begin d there ∙ ap (λ n. last_to links n k) is ∙ ap (λ i. last_to links (pair_at links i).1 i) last
  ];
}
