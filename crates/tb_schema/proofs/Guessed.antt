-- The key at a place is the text that was looked for, so the place is the text's.
use Rattle.std.proofs.Common.{◌≡◌, ◌∙◌, ap, sym, subst, refl, ℕ, zero, suc, ◌<◌, true, false, List, [], ◌∷◌, Some, length, map, arith, string_bytes, String, Global}
use Rattle.std.specs.Prelude.{bytes_eq, nat_lt, slice_get}
use Rattle.std.specs.List.{AllByRecursion, IsDistinct, position_or_len}
use Rattle.std.specs.Map.{keys_of}
use Rattle.std.proofs.lemmas.Bool.Decides.{nat_tests}
use Rattle.tb_base.proofs.Texts.{same_text, text_itself}
use Rattle.tb_schema.specs.Names.{place_in}
use Rattle.tb_schema.proofs.Distinct.{either_way}

all-at : (texts : List (List ℕ)) (P : List ℕ → Type 0) → AllByRecursion P texts → (i : ℕ) (text : List ℕ) → slice_get texts i ≡ Some text → P text
all-at [] P h i text e = cc
all-at (x ∷ texts) P h zero text e = let k : x ≡ text = cc in subst P k h.0
all-at (x ∷ texts) P h (suc i) text e = all-at texts P h.1 i text e

first-at : (texts : List (List ℕ)) (text : List ℕ) (i : ℕ) → IsDistinct bytes_eq texts → slice_get texts i ≡ Some text → (position_or_len (bytes_eq text) texts ≡ i) × (i < length texts)
unfolding IsDistinct
first-at [] text i d h = cc
first-at (x ∷ texts) text zero d h = let k : x ≡ text = cc in (rw (k, text_itself text) refl, omega arith)
first-at (x ∷ texts) text (suc i) d h =
    let apart = either_way text x ∙ all-at texts (λ other. bytes_eq x other ≡ false) d.0 i text h in
    let k = first-at texts text i d.1 h in
    (rw apart (omega (arith, k.0)), omega (arith, k.1))

in-range : (a b : ℕ) → a < b → nat_lt a b ≡ true
in-range a b h = grind (arith, nat_tests)

key-at : {V : Type 0} (es : List (String Global × V)) (i : ℕ) (e : String Global × V) → slice_get es i ≡ Some e → slice_get (map string_bytes (keys_of es)) i ≡ Some (string_bytes e.0)
key-at [] i e h = cc
key-at {V} (x ∷ es) zero e h = let k : x ≡ e = cc in ap (λ (p : String Global × V). Some (string_bytes p.0)) k
key-at (x ∷ es) (suc i) e h = key-at es i e h

pub guessed : {V : Type 0} (es : List (String Global × V)) (text : List ℕ) (i : ℕ) (e : String Global × V) → IsDistinct bytes_eq (map string_bytes (keys_of es)) → slice_get es i ≡ Some e → bytes_eq text (string_bytes e.0) ≡ true
    → place_in (map string_bytes (keys_of es)) text ≡ Some i
guessed es text i e d h t =
    let k = first-at (map string_bytes (keys_of es)) text i d (key-at es i e h ∙ ap Some (sym (same_text text (string_bytes e.0) t))) in
    rw (k.0, in-range i (length (map string_bytes (keys_of es))) k.1) refl
