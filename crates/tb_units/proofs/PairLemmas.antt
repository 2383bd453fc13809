-- Pairs by their first numbers.
use Rattle.std.proofs.Common.{◌≡◌, ◌∙◌, sym, refl, ℕ, ◌<◌, false, List, [], ◌∷◌, length, get_or, inl, inr, Option, None, Some, arith}
use Rattle.std.specs.Prelude.{is_some, nat_eq, position, IfNone, IfSome}
use Rattle.std.specs.Map.{keys_of, lookup}
use Rattle.std.proofs.lemmas.Bool.Decides.{nat_tests}
use Rattle.std.proofs.lemmas.List.{get_or-map, length-map}
use Rattle.std.proofs.lemmas.List.Quantifiers.{position-Some}
use Rattle.std.proofs.lemmas.Bool.{cases_Bool}
use Rattle.tb_model.specs.Units.{PairValue}
use Rattle.tb_units.specs.Pairs.{has_first, pair_at, IsAt}

-- a pair is looked up exactly where its first number stands first
pub has_first-lookup : (pairs : List PairValue) (n : ℕ) → is_some (lookup (nat_eq n) pairs) ≡ has_first pairs n
has_first-lookup [] n = refl
has_first-lookup (p ∷ pairs) n = elim (cases_Bool (nat_eq n p.0)) [
  | inl t ↦ rw t refl
  | inr t ↦ rw t (has_first-lookup pairs n)
]

pub is_none : {A : Type 0} (o : Option A) → is_some o ≡ false → o ≡ None
is_none None h = refl
is_none (Some x) h = cc

-- what a place among the first numbers tells
pub place-found : (pairs : List PairValue) (n : ℕ) (o : Option ℕ) → o ≡ position (nat_eq n) (keys_of pairs) → IfSome o (λ i. IsAt pairs n i)
place-found pairs n None is = tt
place-found pairs n (Some i) is =
    let (within, test, before) = position-Some (nat_eq n) (keys_of pairs) i 0 (sym is) in
    let below : i < length pairs = omega (arith, within, length-map pairs (λ (p : PairValue). p.0)) in
    let here : get_or (keys_of pairs) i 0 ≡ (pair_at pairs i).0 = get_or-map (λ (p : PairValue). p.0) pairs i (0, 0) 0 below in
    let same : n ≡ get_or (keys_of pairs) i 0 = grind (arith, nat_tests) in
    (below, sym (same ∙ here))

pub place-missing : (pairs : List PairValue) (n : ℕ) (o : Option ℕ) → is_some o ≡ is_some (lookup (nat_eq n) pairs) → IfNone o (has_first pairs n ≡ false)
place-missing pairs n None none = sym (has_first-lookup pairs n) ∙ sym none
place-missing pairs n (Some i) none = tt
