-- Records that may stand together, by the list of their persons.
use Rattle.std.proofs.Common.{◌≡◌, ℕ, ◌≤◌, ◌+◌, Bool, true, false, List, [], ◌∷◌, ◌++◌, ◌∙◌, append-nil, length, map, take, drop, get_or, eqb, nat_lt, refl, subst, sym, ap, inl, inr, arith}
use Rattle.std.specs.Bool.{MatchBool}
use Rattle.std.specs.List.{AllByRecursion, IsAllAdjacentAnswer, IsDistinct}
use Rattle.std.specs.List.Sorted.{IsNonDecreasing, IsPermutation, IsSorted, IsStrictlyIncreasing}
use Rattle.std.specs.Cmp.{nat_cmp_total}
use Rattle.std.specs.Ordering.{is_lt, nat_cmp}
use Rattle.std.proofs.lemmas.Bool.{cases_Bool, lt-ltb, ltb-true, ne_eqb}
use Rattle.std.proofs.lemmas.Bool.Decides.{nat_tests}
use Rattle.std.proofs.lemmas.List.{drop_all, take_all}
use Rattle.std.proofs.lemmas.List.Sorted.{IsPermutation-sym, ranks_by, sorted_far}
use Rattle.std.proofs.lemmas.Map.Keys.{IsDistinct-IsPermutation, IsDistinct-from_apart, IsStrictlyIncreasing-from_distinct, below_from_sorted, ge_from_not_lt, sorted_from_strictly_increasing}
use Rattle.tb_base.specs.declared.records.Record.{Record}
use Rattle.tb_base.specs.Persons.{AreDistinct, has_person}
use Rattle.tb_records.specs.WholeFiles.{MayStand}

abbrev pub persons : List Record → List ℕ
persons rs = map (λ r. r.person) rs

-- a person without a record, and without a place in the list of persons
all_others : (rs : List Record) (q : ℕ) → has_person rs q ≡ false → AllByRecursion (λ p. eqb q p ≡ false) (persons rs)
all_others [] q h = tt
all_others (r ∷ rs) q h = elim (cases_Bool (eqb q r.person)) [
  | inl t ↦ let e = rw t at h in cc
  | inr t ↦ (t, all_others rs q (rw t at h))
]

no_record : (rs : List Record) (q : ℕ) → AllByRecursion (λ p. eqb q p ≡ false) (persons rs) → has_person rs q ≡ false
no_record [] q h = refl
no_record (r ∷ rs) q h = rw h.0 (no_record rs q h.1)

listed : (rs : List Record) → AreDistinct rs → IsDistinct eqb (persons rs)
unfolding IsDistinct
listed [] h = tt
listed (r ∷ rs) h = (all_others rs r.person h.0, listed rs h.1)

from_list : (rs : List Record) → IsDistinct eqb (persons rs) → AreDistinct rs
unfolding IsDistinct
from_list [] h = tt
from_list (r ∷ rs) h = (no_record rs r.person h.0, from_list rs h.1)

risen : (ns : List ℕ) → IsStrictlyIncreasing ns → IsDistinct eqb ns
risen ns up = IsDistinct-from_apart eqb ns (λ i j d low below.
    let h = below_from_sorted ns i j d (sorted_from_strictly_increasing ns up) low below in
    ne_eqb (get_or ns i d) (get_or ns j d) (omega (arith, h)))

-- what comparing neighbours tells
pub rise-told : (ns : List ℕ) (b : Bool) → IsAllAdjacentAnswer (λ x y t. t ≡ nat_lt x y) ns b → MatchBool b (IsStrictlyIncreasing ns) (IsStrictlyIncreasing ns → ⊥)
rise-told ns true each = λ k below. ltb-true (get_or ns k 0) (get_or ns (k + 1) 0) (sym (each k 0 below))
rise-told ns false (k, below, not) = λ up. (let yes = lt-ltb (get_or ns k 0) (get_or ns (k + 1) 0) (up k below) in let no = not 0 in cc)

eqb-flips : (a b : ℕ) → eqb a b ≡ eqb b a
eqb-flips a b = grind (arith, nat_tests)

not-falling : (ns : List ℕ) → IsSorted nat_cmp ns → IsNonDecreasing ns
not-falling ns up = λ i j d low below. ge_from_not_lt (get_or ns j d) (get_or ns i d) (sorted_far (λ x y. is_lt (nat_cmp x y)) (ranks_by nat_cmp_total (λ y. y)) ns up i j d low below)

-- persons that rise are all others
pub distinct-risen : (rs : List Record) → IsStrictlyIncreasing (persons rs) → AreDistinct rs
distinct-risen rs up = from_list rs (risen (persons rs) up)

-- once sorted, they rise just where the records are of one person each
distinct-sorted : (rs : List Record) (sorted : List ℕ) (b : Bool) → IsPermutation (persons rs) sorted → IsSorted nat_cmp sorted
    → MatchBool b (IsStrictlyIncreasing sorted) (IsStrictlyIncreasing sorted → ⊥) → MatchBool b (AreDistinct rs) (AreDistinct rs → ⊥)
distinct-sorted rs sorted true same up h = from_list rs (IsDistinct-IsPermutation eqb eqb-flips sorted (persons rs) (IsPermutation-sym (persons rs) sorted same) (risen sorted h))
distinct-sorted rs sorted false same up h = λ distinct. h (IsStrictlyIncreasing-from_distinct sorted (not-falling sorted up) (IsDistinct-IsPermutation eqb eqb-flips (persons rs) sorted same (listed rs distinct)))

and-few : (most : ℕ) (rs : List Record) (b : Bool) → length rs ≤ most → MatchBool b (AreDistinct rs) (AreDistinct rs → ⊥) → MatchBool b (MayStand most rs) (MayStand most rs → ⊥)
and-few most rs true few distinct = (distinct, few)
and-few most rs false few not = λ stand. not stand.0

pub stand-sorted : (most : ℕ) (rs : List Record) (ps sorted : List ℕ) (b : Bool) → ps ≡ persons rs → length rs ≤ most → IsPermutation ps sorted → IsSorted nat_cmp sorted
    → MatchBool b (IsStrictlyIncreasing sorted) (IsStrictlyIncreasing sorted → ⊥) → MatchBool b (MayStand most rs) (MayStand most rs → ⊥)
stand-sorted most rs ps sorted b are few same up rising =
    and-few most rs b few (distinct-sorted rs sorted b (subst (λ (ns : List ℕ). IsPermutation ns sorted) are same) up rising)

-- a list whose numbers were all written anew
pub written-anew : (old new : List ℕ) (len : ℕ) → len ≡ length old → length new ≡ length old → take len (new ++ drop (length new) old) ≡ new
written-anew old new len all same = ap (λ rest. take len (new ++ rest)) (drop_all (length new) old (omega (arith, same))) ∙ ap (take len) (append-nil new) ∙ take_all len new (omega (arith, all, same))
