-- Texts, their places, and texts of which no two are equal.
use Rattle.std.proofs.Common.{◌≡◌, ◌∙◌, ap, sym, subst, refl, ℕ, suc, ◌<◌, Bool, true, false, true≢false, cond, List, [], ◌∷◌, ◌++◌, ◌||◌, Option, Some, None, IfSome, length, length-append, arith, inl, inr, add_comm, add-one}
use Rattle.std.specs.Prelude.{bytes_eq, nat_lt}
use Rattle.std.specs.Cmp.{IsEquivalence}
use Rattle.std.specs.List.{AllByRecursion, IsDistinct, list_any, position_or_len}
use Rattle.std.proofs.lemmas.Bool.{cases_Bool}
use Rattle.std.proofs.lemmas.Bool.Decides.{nat_tests}
use Rattle.std.proofs.lemmas.List.Folds.{list_any-append}
use Rattle.std.proofs.lemmas.Map.Keys.{IsDistinct-from_apart, IsDistinct-push, apart_from_distinct}
use Rattle.std.proofs.Math.ListN.{get_or-append}
use Rattle.tb_base.proofs.Texts.{same_text, text_itself, text_other_way}
use Rattle.tb_schema.specs.Names.{place_in}
use Rattle.tb_schema.proofs.Orders.{less}

pub either_way : (x y : List ℕ) → bytes_eq x y ≡ bytes_eq y x
either_way x y = elim (cases_Bool (bytes_eq x y)) [
  | inl t ↦ let e = same_text x y t in rw (t, e) (sym (text_itself y))
  | inr t ↦ t ∙ sym (text_other_way x y t)
]

as_other : (x y z : List ℕ) → bytes_eq x y ≡ true → bytes_eq x z ≡ bytes_eq y z
as_other x y z h = ap (λ a. bytes_eq a z) (same_text x y h)

texts_equal : IsEquivalence bytes_eq
texts_equal = record { refl = text_itself; symm = either_way; congr = as_other }

-- the place of a text is in range exactly where the text is there
lt-suc : (a b : ℕ) → nat_lt (suc a) (suc b) ≡ nat_lt a b
lt-suc a b = grind (arith, nat_tests)

zero-lt : (b : ℕ) → nat_lt 0 (suc b) ≡ true
zero-lt b = grind (arith, nat_tests)

pub any-place : (texts : List (List ℕ)) (p : List ℕ → Bool) → nat_lt (position_or_len p texts) (length texts) ≡ list_any p texts
any-place [] p = refl
any-place (n ∷ texts) p = elim (cases_Bool (p n)) [
  | inl t ↦ rw t (zero-lt (length texts))
  | inr t ↦ rw (t, add_comm 1, add-one) (lt-suc (position_or_len p texts) (length texts) ∙ any-place texts p)
]

nowhere : (b : Bool) (x : ℕ) → cond b (Some x) None ≡ None → b ≡ false
nowhere true x h = cc
nowhere false x h = refl

somewhere : (b : Bool) (x i : ℕ) → cond b (Some x) None ≡ Some i → (b ≡ true) × (x ≡ i)
somewhere true x i h = (refl, cc)
somewhere false x i h = cc

pub absent : (texts : List (List ℕ)) (text : List ℕ) → place_in texts text ≡ None → list_any (bytes_eq text) texts ≡ false
absent texts text h = sym (any-place texts (bytes_eq text)) ∙ nowhere _ _ h

pub present : (texts : List (List ℕ)) (text : List ℕ) (i : ℕ) → place_in texts text ≡ Some i → list_any (bytes_eq text) texts ≡ true
present texts text i h = sym (any-place texts (bytes_eq text)) ∙ (somewhere _ _ _ h).0

-- a place is in range
pub place-below : (texts : List (List ℕ)) (text : List ℕ) (i : ℕ) → place_in texts text ≡ Some i → i < length texts
place-below texts text i h =
    let (b, e) = somewhere _ _ i h in
    omega (arith, less _ _ b, e)

pub place-inside : (texts : List (List ℕ)) (text : List ℕ) (o : Option ℕ) → o ≡ place_in texts text → IfSome o (λ i. i < length texts)
place-inside texts text None h = tt
place-inside texts text (Some i) h = place-below texts text i (sym h)

-- one more text that isn't there
pub distinct-push : (texts : List (List ℕ)) (text : List ℕ) → IsDistinct bytes_eq texts → list_any (bytes_eq text) texts ≡ false → IsDistinct bytes_eq (texts ++ text ∷ [])
distinct-push texts text d h = IsDistinct-push texts_equal texts text d h

pub distinct-one : (text : List ℕ) → IsDistinct bytes_eq (text ∷ [])
unfolding IsDistinct
distinct-one text = distinct-push [] text tt refl

-- one of two lists has it if both do
pub absent-both : (a b : List (List ℕ)) (text : List ℕ) → list_any (bytes_eq text) a ≡ false → list_any (bytes_eq text) b ≡ false → list_any (bytes_eq text) (a ++ b) ≡ false
absent-both a b text h g = list_any-append (bytes_eq text) a b ∙ rw (h, g) refl

pub distinct-front : (a b : List (List ℕ)) → IsDistinct bytes_eq (a ++ b) → IsDistinct bytes_eq a
distinct-front a b h =
    IsDistinct-from_apart bytes_eq a
    (λ i j d less inside. let most : i < length a = omega arith in
    rw (← get_or-append a b d i most, ← get_or-append a b d j inside) (apart_from_distinct bytes_eq (a ++ b) i j d h less (omega (arith, length-append a b))))

-- a text of one of two lists is not in the other
pub none-equal : (texts : List (List ℕ)) (text : List ℕ) → AllByRecursion (λ other. bytes_eq text other ≡ false) texts → list_any (bytes_eq text) texts ≡ false
none-equal [] text h = refl
none-equal (x ∷ texts) text h = rw h.0 (none-equal texts text h.1)

pub or_true : (a : Bool) → (a || true) ≡ true
or_true true = refl
or_true false = refl

pub in-other : (a b : List (List ℕ)) (text : List ℕ) → IsDistinct bytes_eq (a ++ b) → list_any (bytes_eq text) b ≡ true → list_any (bytes_eq text) a ≡ false
unfolding IsDistinct
in-other [] b text d h = refl
in-other (x ∷ a) b text d h = elim (cases_Bool (bytes_eq text x)) [
  | inl t ↦
      let same = same_text text x t in
      let there : list_any (bytes_eq text) (a ++ b) ≡ true = list_any-append (bytes_eq text) a b ∙ rw h (or_true (list_any (bytes_eq text) a)) in
      let gone : list_any (bytes_eq text) (a ++ b) ≡ false = subst (λ y. list_any (bytes_eq y) (a ++ b) ≡ false) (sym same) (none-equal (a ++ b) x d.0) in
      absurd (true≢false (sym there ∙ gone))
  | inr t ↦ rw t (in-other a b text d.1 h)
]

pub nowhere-else : (a b : List (List ℕ)) (text : List ℕ) (i : ℕ) → IsDistinct bytes_eq (a ++ b) → place_in b text ≡ Some i → place_in a text ≡ None
nowhere-else a b text i d h = rw (any-place a (bytes_eq text), in-other a b text d (present b text i h)) refl
