-- Files in memory, kept in a map from names to bytes.
use Rattle.std.proofs.Common.{◌≡◌, ◌∙◌, sym, refl, ℕ, true, false, List, [], ◌∷◌, Some, inl, inr, string_bytes, String, Vec, Global}
use Rattle.std.specs.Prelude.{bytes_eq, option_map}
use Rattle.std.specs.Map.{lookup, update}
use Rattle.std.proofs.lemmas.Bool.{cases_Bool, false_from_ne_true}
use Rattle.std.proofs.lemmas.Slice.Eq.{bytes_eq-Decides}
use Rattle.tb_io.specs.HeldFiles.{bytes_of, held_of, HasHeld}

-- a look-up of a name in the map finds what the files hold under it
pub bytes_of-held : (entries : List (String Global × Vec ℕ Global)) (name : List ℕ)
    → bytes_of (held_of entries) name ≡ option_map (λ v. v.items) (lookup (λ k. bytes_eq name (string_bytes k)) entries)
bytes_of-held [] name = refl
bytes_of-held (e ∷ es) name = elim (cases_Bool (bytes_eq name (string_bytes e.0))) [
  | inl t ↦ rw t refl
  | inr t ↦ rw t (bytes_of-held es name)
]

-- a map that was updated at a name gives it these bytes
pub HasHeld-updated : (old new : List (String Global × Vec ℕ Global)) (name : List ℕ) (v : Vec ℕ Global) (bytes : List ℕ)
    → ((q : List ℕ) → lookup (λ k. bytes_eq q (string_bytes k)) new ≡ update bytes_eq (λ p. lookup (λ k. bytes_eq p (string_bytes k)) old) name (Some v) q)
    → v.items ≡ bytes → HasHeld (held_of old) (held_of new) name bytes
HasHeld-updated old new name v bytes h e =
    let itself : bytes_eq name name ≡ true = (bytes_eq-Decides name name).1 refl in
    record {
      here = bytes_of-held new name ∙ (rw (h name, itself, e) refl);
      others = λ other ne.
          let apart : bytes_eq name other ≡ false = false_from_ne_true _ (λ t. ne (sym ((bytes_eq-Decides name other).0 t))) in
          bytes_of-held new other ∙ (rw (h other, apart) (sym (bytes_of-held old other)));
    }
