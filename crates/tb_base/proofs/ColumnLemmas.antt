-- What becomes of columns as their records change.
use Rattle.std.proofs.Common.{◌≡◌, ℕ, zero, suc, ◌<◌, ◌≤◌, ◌∷◌, [], List, length, map, get_or, set, refl, ap, sym, ◌∙◌, arith}
use Rattle.std.specs.Prelude.{remove, slice_get, Some}
use Rattle.std.specs.declared.vec.Vec.{Vec}
use Rattle.std.specs.Vec.{vec_capacity, vec_len}
use Rattle.std.proofs.lemmas.List.{map-set}
use Rattle.std.proofs.lemmas.Option.{slice_get_read}
use Rattle.tb_base.specs.declared.records.Record.{Record}
use Rattle.tb_base.specs.Records.{category_at}
use Rattle.tb_base.specs.Pieces.{with_other, without, AreBeside, AreChanged}

-- a column of records of which one is taken out
pub map-remove : {X Y : Type 0} (f : X → Y) (xs : List X) (i : ℕ) → map f (remove xs i) ≡ remove (map f xs) i
map-remove f [] zero = refl
map-remove f [] (suc i) = refl
map-remove f (x ∷ xs) zero = refl
map-remove f (x ∷ xs) (suc i) = ap (λ ys. f x ∷ ys) (map-remove f xs i)

-- those of the first variables are changed so far
pub record Partly {Z : Type 0} (change : ℕ → List ℕ → List ℕ) (old now : List (Vec ℕ Z)) (n : ℕ) : Type 0 where
  pub done : (v : ℕ) (d : Vec ℕ Z) → v < n → v < length now → (get_or now v d).items ≡ change v (get_or old v d).items
  pub left : (v : ℕ) (d : Vec ℕ Z) → n ≤ v → get_or now v d ≡ get_or old v d

-- the first columns have room for one more code each
abbrev pub HaveRoom : {Z : Type 0} → List (Vec ℕ Z) → ℕ → Type 0
HaveRoom {Z} columns n = (v : ℕ) (d : Vec ℕ Z) → v < n → v < length columns → vec_len (get_or columns v d) < vec_capacity (get_or columns v d)

-- all columns with their records
module _ {Z : Type 0} (keys keys' : List ℕ) (old new : List (Vec ℕ Z)) (rs : List Record) (are : AreBeside keys old rs) (long : length new ≡ length old) where
  pub beside-removed : (i : ℕ) → keys' ≡ remove keys i → AreChanged (without i) old new → AreBeside keys' new (remove rs i)
  beside-removed i taken changed = record {
    keys_are = taken ∙ ap (λ ks. remove ks i) are.keys_are ∙ sym (map-remove (λ x. x.key) rs i);
    columns_are = λ v d below.
        let low : v < length old = omega (arith, below, long) in
        changed v d low ∙ ap (without i v) (are.columns_are v d low) ∙ sym (map-remove (λ x. category_at x v) rs i);
  }

  pub beside-replaced : (i : ℕ) (r : Record) → keys' ≡ set keys i r.key → AreChanged (with_other i r) old new → AreBeside keys' new (set rs i r)
  beside-replaced i r put changed = record {
    keys_are = put ∙ ap (λ ks. set ks i r.key) are.keys_are ∙ sym (map-set (λ x. x.key) rs i r);
    columns_are = λ v d below.
        let low : v < length old = omega (arith, below, long) in
        changed v d low ∙ ap (with_other i r v) (are.columns_are v d low) ∙ sym (map-set (λ x. category_at x v) rs i r);
  }

-- what was taken from a place
pub taken-at : (rs seen : List Record) (i : ℕ) (r : Record) → rs ≡ seen → i < length seen → r ≡ get_or rs i r → slice_get seen i ≡ Some r
taken-at rs seen i r same below is = slice_get_read seen (length seen) i r refl below (is ∙ ap (λ xs. get_or xs i r) same)
