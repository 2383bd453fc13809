-- The fields from an index on, and the indices of a name.
use Rattle.std.proofs.Common.{◌≡◌, ◌∙◌, sym, ℕ, zero, suc, ◌+◌, ◌<◌, List, [], ◌∷◌, ◌++◌, length, drop, true, false, Option, Some, None, refl, add-one, arith}
use Rattle.std.specs.Prelude.{bytes_eq, is_some, get_or}
use Rattle.std.specs.Option.{option_to_list}
use Rattle.csv.specs.Records.{field_at}
use Rattle.tb_rows.specs.Columns.{only_index, indices_from}

drop-field : (fields : List (List ℕ)) (i : ℕ) (f : List ℕ) → field_at fields i ≡ Some f → drop i fields ≡ f ∷ drop (suc i) fields
unfolding field_at
drop-field [] i f h = cc
drop-field (x ∷ fields) zero f h = cc
drop-field (x ∷ fields) (suc i) f h = drop-field fields i f h

drop-no_field : (fields : List (List ℕ)) (i : ℕ) → field_at fields i ≡ None → drop i fields ≡ []
unfolding field_at
drop-no_field [] zero h = refl
drop-no_field [] (suc i) h = refl
drop-no_field (x ∷ fields) zero h = cc
drop-no_field (x ∷ fields) (suc i) h = drop-no_field fields i h

drop-next : (fields : List (List ℕ)) (i : ℕ) (f : List ℕ) → field_at fields i ≡ Some f → drop i fields ≡ f ∷ drop (i + 1) fields
drop-next fields i f h = rw add-one (drop-field fields i f h)

-- a field that is there is below the end
pub field-below : (fields : List (List ℕ)) (i : ℕ) (f : List ℕ) → field_at fields i ≡ Some f → i < length fields
unfolding field_at
field-below [] i f h = cc
field-below (x ∷ fields) zero f h = omega arith
field-below (x ∷ fields) (suc i) f h = omega (arith, field-below fields i f h)

-- a field with the name adds its index, and another adds none
pub index_added : (name f : List ℕ) (i : ℕ) (fields : List (List ℕ)) → field_at fields i ≡ Some f → bytes_eq f name ≡ true
    → indices_from name i (drop i fields) ≡ i ∷ indices_from name (i + 1) (drop (i + 1) fields)
index_added name f i fields h e = rw (drop-next fields i f h, e) refl

pub index_passed : (name f : List ℕ) (i : ℕ) (fields : List (List ℕ)) → field_at fields i ≡ Some f → bytes_eq f name ≡ false
    → indices_from name i (drop i fields) ≡ indices_from name (i + 1) (drop (i + 1) fields)
index_passed name f i fields h e = rw (drop-next fields i f h, e) refl

-- a second index
pub index_twice : (name f : List ℕ) (found : Option ℕ) (i : ℕ) (fields : List (List ℕ)) → is_some found ≡ true
    → option_to_list found ++ indices_from name i (drop i fields) ≡ indices_from name 0 fields → field_at fields i ≡ Some f → bytes_eq f name ≡ true → None ≡ only_index name fields
index_twice name f None i fields s h at e = cc
index_twice name f (Some j) i fields s h at e = rw (← h, index_added name f i fields at e) refl

-- the first index
pub index_first : (name f : List ℕ) (found : Option ℕ) (i : ℕ) (fields : List (List ℕ)) → is_some found ≡ false
    → option_to_list found ++ indices_from name i (drop i fields) ≡ indices_from name 0 fields → field_at fields i ≡ Some f → bytes_eq f name ≡ true
    → option_to_list (Some i) ++ indices_from name (i + 1) (drop (i + 1) fields) ≡ indices_from name 0 fields
index_first name f None i fields s h at e = sym (index_added name f i fields at e) ∙ h
index_first name f (Some j) i fields s h at e = cc

-- after the last field
pub index_found : (name : List ℕ) (found : Option ℕ) (i : ℕ) (fields : List (List ℕ))
    → option_to_list found ++ indices_from name i (drop i fields) ≡ indices_from name 0 fields → field_at fields i ≡ None → found ≡ only_index name fields
index_found name None i fields h at = rw (← h, drop-no_field fields i at) refl
index_found name (Some j) i fields h at = rw (← h, drop-no_field fields i at) refl

-- the field at an index, or nothing
pub field_some : (fields : List (List ℕ)) (i : ℕ) (f : List ℕ) → field_at fields i ≡ Some f → get_or fields i [] ≡ f
unfolding field_at
field_some [] i f h = cc
field_some (x ∷ fields) zero f h = cc
field_some (x ∷ fields) (suc i) f h = field_some fields i f h

pub field_none : (fields : List (List ℕ)) (i : ℕ) → field_at fields i ≡ None → get_or fields i [] ≡ []
unfolding field_at
field_none [] i h = refl
field_none (x ∷ fields) zero h = cc
field_none (x ∷ fields) (suc i) h = field_none fields i h
