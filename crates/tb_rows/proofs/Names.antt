-- The names of a header and the indices of its columns.
use Rattle.std.proofs.Common.{◌≡◌, ◌≢◌, ◌⊎◌, ◌∙◌, sym, refl, ℕ, ◌+◌, List, [], ◌∷◌, length, map, true, false, Option, Some, None, inl, inr, arith}
use Rattle.std.specs.Prelude.{bytes_eq, cond, count_by, option_map, Bool}
use Rattle.std.proofs.lemmas.List.Sums.{sum_by-cons}
use Rattle.tb_base.specs.Lists.{all_some}
use Rattle.tb_rows.specs.Columns.{IsNotOnce, LacksOneOf, only_index, indices_from, indices_of, the_only}

count-cons : (p : List ℕ → Bool) (x : List ℕ) (xs : List (List ℕ)) → count_by p (x ∷ xs) ≡ cond (p x) 1 0 + count_by p xs
count-cons p x xs = sum_by-cons (λ y. cond (p y) 1 0) x xs

-- a name has as many indices as there are fields with it
one_more : (name field : List ℕ) (fields : List (List ℕ)) (i : ℕ) (b : Bool) → bytes_eq field name ≡ b → length (indices_from name (i + 1) fields) ≡ count_by (λ f. bytes_eq f name) fields
    → length (indices_from name i (field ∷ fields)) ≡ cond (bytes_eq field name) 1 0 + count_by (λ f. bytes_eq f name) fields
one_more name field fields i true t h = rw t (omega (arith, h))
one_more name field fields i false t h = rw t (omega (arith, h))

length-indices : (name : List ℕ) (fields : List (List ℕ)) (i : ℕ) → length (indices_from name i fields) ≡ count_by (λ f. bytes_eq f name) fields
length-indices name [] i = refl
length-indices name (field ∷ fields) i =
    one_more name field fields i (bytes_eq field name) refl (length-indices name fields (i + 1)) ∙ sym (count-cons (λ f. bytes_eq f name) field fields)

-- there is an only one exactly where there is one
not_one : (is : List ℕ) → the_only is ≡ None → length is ≢ 1
not_one [] h = λ e. cc
not_one (i ∷ []) h = cc
not_one (i ∷ j ∷ more) h = λ e. omega (arith, e)

is_none : (is : List ℕ) → length is ≢ 1 → the_only is ≡ None
is_none [] h = refl
is_none (i ∷ []) h = elim (h refl) [ ]
is_none (i ∷ j ∷ more) h = refl

no_index : (name : List ℕ) (header : List (List ℕ)) → IsNotOnce name header → only_index name header ≡ None
no_index name header h = is_none (indices_from name 0 header) (λ e. h (sym (length-indices name header 0) ∙ e))

not_once : (name : List ℕ) (header : List (List ℕ)) → only_index name header ≡ None → IsNotOnce name header
not_once name header h = λ e. not_one (indices_from name 0 header) h (length-indices name header 0 ∙ e)

no_others : {A : Type 0} (x : A) (o : Option (List A)) → option_map (λ xs. x ∷ xs) o ≡ None → o ≡ None
no_others x None h = refl
no_others x (Some xs) h = cc

-- without indices one of the names has no only index
lacks_first : (name : List ℕ) (names header : List (List ℕ)) (o : Option ℕ) → only_index name header ≡ o → (indices_of names header ≡ None → LacksOneOf names header)
    → all_some (o ∷ map (λ name. only_index name header) names) ≡ None → IsNotOnce name header ⊎ LacksOneOf names header
lacks_first name names header None e rest h = inl (not_once name header e)
lacks_first name names header (Some p) e rest h = inr (rest (no_others p (indices_of names header) h))

pub lacks : (names header : List (List ℕ)) → indices_of names header ≡ None → LacksOneOf names header
lacks [] header h = cc
lacks (name ∷ names) header h = lacks_first name names header (only_index name header) refl (lacks names header) h

none_first : (o : Option ℕ) (os : List (Option ℕ)) → all_some os ≡ None → all_some (o ∷ os) ≡ None
none_first None os h = refl
none_first (Some p) os h = rw h refl

-- and the other way round
pub no_indices : (names header : List (List ℕ)) → LacksOneOf names header → indices_of names header ≡ None
no_indices [] header h = absurd h
no_indices (name ∷ names) header (inl not_once) = rw (no_index name header not_once) refl
no_indices (name ∷ names) header (inr others) = none_first (only_index name header) (map (λ name. only_index name header) names) (no_indices names header others)
