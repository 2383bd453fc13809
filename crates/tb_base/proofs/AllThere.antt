-- Values that are all there, found one after the other.
use Rattle.std.proofs.Common.{◌≡◌, ◌∙◌, sym, ap, refl, ℕ, zero, suc, ◌+◌, ◌<◌, ◌≤◌, List, [], ◌∷◌, ◌++◌, length, map, drop, get_or, Option, Some, None, append_assoc, append-nil, add-one, drop-cons, arith}
use Rattle.std.specs.Prelude.{option_map}
use Rattle.std.proofs.lemmas.List.{get_or-map, length-map}
use Rattle.tb_base.specs.Lists.{all_some}

-- the values so far and those to come, if these are there
abbrev pub then_all : {A : Type 0} → List A → Option (List A) → Option (List A)
then_all xs o = option_map (λ ys. xs ++ ys) o

then_one : {A : Type 0} (xs : List A) (x : A) (o : Option (List A)) → then_all xs (option_map (λ ys. x ∷ ys) o) ≡ then_all (xs ++ x ∷ []) o
then_one xs x None = refl
then_one xs x (Some ys) = ap Some (sym (append_assoc xs (x ∷ []) ys))

drop-at : {A : Type 0} (os : List (Option A)) (i : ℕ) → i < length os → drop i os ≡ get_or os i None ∷ drop (i + 1) os
drop-at os i h = rw add-one (drop-cons os i None h)

drop-past : {A : Type 0} (os : List A) (i : ℕ) → length os ≤ i → drop i os ≡ []
drop-past [] zero h = refl
drop-past [] (suc i) h = refl
drop-past (x ∷ os) zero h = absurd (omega arith)
drop-past (x ∷ os) (suc i) h = drop-past os i (omega arith)

pub none-so_far : {A : Type 0} (o : Option (List A)) → then_all [] o ≡ o
none-so_far None = refl
none-so_far (Some ys) = refl

-- of values that a function finds in a list: one more, one that is missing, and no more
module _ {A B : Type 0} (find : A → Option B) (ys : List A) (i : ℕ) (d : A) (xs : List B) (so_far : then_all xs (all_some (drop i (map find ys))) ≡ all_some (map find ys)) where
  at : i < length ys → drop i (map find ys) ≡ find (get_or ys i d) ∷ drop (i + 1) (map find ys)
  at h = rw (← get_or-map find ys i d None h) (drop-at (map find ys) i (rw length-map h))

  pub one-more : (x : B) → i < length ys → find (get_or ys i d) ≡ Some x → then_all (xs ++ x ∷ []) (all_some (drop (i + 1) (map find ys))) ≡ all_some (map find ys)
  one-more x h e = sym (then_one xs x (all_some (drop (i + 1) (map find ys)))) ∙ rw (at h, e) at so_far

  pub one-missing : i < length ys → find (get_or ys i d) ≡ None → all_some (map find ys) ≡ None
  one-missing h e = sym (rw (at h, e) at so_far)

  pub no-more : length ys ≤ i → all_some (map find ys) ≡ Some xs
  no-more h = sym (rw (drop-past (map find ys) i (rw length-map h), append-nil) at so_far)

-- the first and the others
then-some : {A : Type 0} (x : A) (o : Option (List A)) (xs : List A) → option_map (λ ys. x ∷ ys) o ≡ Some xs → (ys : List A) × (o ≡ Some ys) × (xs ≡ x ∷ ys)
then-some x None xs h = cc
then-some x (Some ys) xs h = (ys, refl, cc)

pub first-some : {A : Type 0} (o : Option A) (os : List (Option A)) (xs : List A) → all_some (o ∷ os) ≡ Some xs → (x : A) × (ys : List A) × (o ≡ Some x) × (all_some os ≡ Some ys) × (xs ≡ x ∷ ys)
first-some None os xs h = cc
first-some (Some x) os xs h = let (ys, others, same) = then-some x (all_some os) xs h in (x, ys, refl, others, same)

-- there are as many as were looked for
pub length-all_some : {A : Type 0} (os : List (Option A)) (xs : List A) → all_some os ≡ Some xs → length xs ≡ length os
length-all_some [] [] h = refl
length-all_some [] (x ∷ xs) h = cc
length-all_some (o ∷ os) xs h =
    let (x, ys, one, others, same) = first-some o os xs h in
    rw same (ap (λ n. suc n) (length-all_some os ys others))
