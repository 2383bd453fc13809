-- What a look finds: an entry whose set includes the one asked for, the first of its own set, and the same at a second look.
use Rattle.std.proofs.Common.{◌≡◌, ℕ, ◌||◌, Bool, true, false, cond, List, [], ◌∷◌, Option, Some, None, refl, sym, ap, subst, ◌∙◌}
use Rattle.std.specs.Prelude.{◌==◌, bytes_eq, find, is_some, option_map}
use Rattle.std.specs.List.{list_all}
use Rattle.std.specs.Option.{option_map_or, option_or}
use Rattle.std.specs.Map.{lookup, lookup_entry, remove_entry}
use Rattle.std.proofs.lemmas.Slice.Eq.{bytes_eq-Decides}
use Rattle.std.proofs.lemmas.Bool.{and_parts, eq-eqb, or_left, or_right}
use Rattle.tb_base.specs.Sets.{is_in, includes_all}
use Rattle.tb_cache.specs.Recency.{entry_of, found, is_served, looked, others, wider_of}

-- ---- a set includes itself
more : (v : ℕ) (vs ws : List ℕ) → includes_all vs ws ≡ true → includes_all (v ∷ vs) ws ≡ true
more v vs [] h = refl
more v vs (w ∷ ws) h =
    let both = and_parts (is_in vs w) (list_all (is_in vs) ws) h in
    rw (or_right (v == w) (is_in vs w) both.0, more v vs ws both.1) refl

pub includes-itself : (vs : List ℕ) → includes_all vs vs ≡ true
includes-itself [] = refl
includes-itself (v ∷ vs) = rw (or_left (v == v) (is_in vs v) (eq-eqb v v refl), more v vs vs (includes-itself vs)) refl

includes-same : (vars other : List ℕ) → bytes_eq vars other ≡ true → includes_all other vars ≡ true
includes-same vars other same = subst (λ (s : List ℕ). includes_all s vars ≡ true) ((bytes_eq-Decides vars other).0 same) (includes-itself vars)

bytes_eq-same : (vars : List ℕ) → bytes_eq vars vars ≡ true
bytes_eq-same vars = (bytes_eq-Decides vars vars).1 refl

still : {X Y : Type 0} (f : X → Y) (o : Option X) → is_some o ≡ is_some (option_map f o)
still f None = refl
still f (Some x) = refl

module _ {V : Type 0} where
  -- ---- a search by a test of the sets
  -- the iterator's search is the look-up
  pub find-entry : (test : List ℕ → Bool) (es : List (List ℕ × V)) → find (λ e. test e.0) es ≡ lookup_entry test es
  find-entry test [] = refl
  find-entry test (e ∷ es) = ap (λ o. cond (test e.0) (Some e) o) (find-entry test es)

  -- a value is there exactly where its entry is
  pub value-there : (test : List ℕ → Bool) (es : List (List ℕ × V)) → is_some (lookup test es) ≡ is_some (lookup_entry test es)
  value-there test [] = refl
  value-there test (e ∷ es) =
      elim (test e.0) as (λ b. is_some (cond b (Some e.1) (lookup test es)) ≡ is_some (cond b (Some e) (lookup_entry test es))) [
        | true ↦ refl
        | false ↦ value-there test es
      ]

  -- what is found passes the test
  pub passes : (test : List ℕ → Bool) (es : List (List ℕ × V)) (e : List ℕ × V) → lookup_entry test es ≡ Some e → test e.0 ≡ true
  passes test [] e is = cc
  passes test (x ∷ es) e is =
      (elim (test x.0) as (λ b. test x.0 ≡ b → cond b (Some x) (lookup_entry test es) ≡ Some e → test e.0 ≡ true) [
        | true ↦ λ t i. let same : x ≡ e = cc in subst (λ (y : List ℕ × V). test y.0 ≡ true) same t
        | false ↦ λ t i. passes test es e i
      ]) refl is

  later : (test : List ℕ → Bool) (x : List ℕ × V) (es : List (List ℕ × V)) (e : List ℕ × V) → test x.0 ≡ false → lookup_entry test es ≡ Some e → lookup_entry (bytes_eq e.0) es ≡ Some e → lookup_entry (bytes_eq e.0) (x ∷ es) ≡ Some e
  later test x es e fails is h =
      (elim (bytes_eq e.0 x.0) as (λ b. bytes_eq e.0 x.0 ≡ b → cond b (Some x) (lookup_entry (bytes_eq e.0) es) ≡ Some e) [
        | true ↦ λ q.
            let same : e.0 ≡ x.0 = (bytes_eq-Decides e.0 x.0).0 q in
            let here : test x.0 ≡ true = subst (λ (k : List ℕ). test k ≡ true) same (passes test es e is) in
            absurd (let no : false ≡ true = sym fails ∙ here in cc)
        | false ↦ λ q. h
      ]) refl

  -- the first entry that passes a test is the first of its set
  own-set : (test : List ℕ → Bool) (es : List (List ℕ × V)) (e : List ℕ × V) → lookup_entry test es ≡ Some e → lookup_entry (bytes_eq e.0) es ≡ Some e
  own-set test [] e is = is
  own-set test (x ∷ es) e is =
      (elim (test x.0) as (λ b. test x.0 ≡ b → cond b (Some x) (lookup_entry test es) ≡ Some e → lookup_entry (bytes_eq e.0) (x ∷ es) ≡ Some e) [
        | true ↦ λ t i. let same : x ≡ e = cc in subst (λ (y : List ℕ × V). lookup_entry (bytes_eq y.0) (x ∷ es) ≡ Some y) same (ap (λ b. cond b (Some x) (lookup_entry (bytes_eq x.0) es)) (bytes_eq-same x.0))
        | false ↦ λ t i. later test x es e t i (own-set test es e i)
      ]) refl is

  -- what is missing stays so
  gone : (test other : List ℕ → Bool) (es : List (List ℕ × V)) → lookup_entry test es ≡ None → lookup_entry test (remove_entry other es) ≡ None
  gone test other [] none = refl
  gone test other (x ∷ es) none =
      (elim (test x.0) as (λ b. test x.0 ≡ b → cond b (Some x) (lookup_entry test es) ≡ None → lookup_entry test (cond (other x.0) es (x ∷ remove_entry other es)) ≡ None) [
        | true ↦ λ t i. cc
        | false ↦ λ t i. elim (other x.0) as (λ b. lookup_entry test (cond b es (x ∷ remove_entry other es)) ≡ None) [
          | true ↦ i
          | false ↦ ap (λ b. cond b (Some x) (lookup_entry test (remove_entry other es))) t ∙ gone test other es i
        ]
      ]) refl none

  -- ---- the entry of a set
  -- it stands under the set itself
  pub entry-key : (vars : List ℕ) (es : List (List ℕ × V)) (e : List ℕ × V) → entry_of vars es ≡ Some e → e.0 ≡ vars
  entry-key vars es e is = sym ((bytes_eq-Decides vars e.0).0 (passes (bytes_eq vars) es e is))

  -- ---- what a look finds
  -- it is the first entry of its own set
  own-else : (vars : List ℕ) (es : List (List ℕ × V)) (e : List ℕ × V) (o : Option (List ℕ × V)) → entry_of vars es ≡ o → option_or o (wider_of vars es) ≡ Some e → entry_of e.0 es ≡ Some e
  own-else vars es e (Some x) own is = own-set (bytes_eq vars) es e (own ∙ is)
  own-else vars es e None own is = own-set (λ set. includes_all set vars) es e is

  pub found-own : (vars : List ℕ) (es : List (List ℕ × V)) (e : List ℕ × V) → found vars es ≡ Some e → entry_of e.0 es ≡ Some e
  found-own vars es e is = own-else vars es e (entry_of vars es) refl is

  -- its set includes the one asked for
  wide-else : (vars : List ℕ) (es : List (List ℕ × V)) (e : List ℕ × V) (o : Option (List ℕ × V)) → entry_of vars es ≡ o → option_or o (wider_of vars es) ≡ Some e → includes_all e.0 vars ≡ true
  wide-else vars es e (Some x) own is = includes-same vars e.0 (passes (bytes_eq vars) es e (own ∙ is))
  wide-else vars es e None own is = passes (λ set. includes_all set vars) es e is

  pub found-wide : (vars : List ℕ) (es : List (List ℕ × V)) (e : List ℕ × V) → found vars es ≡ Some e → includes_all e.0 vars ≡ true
  found-wide vars es e is = wide-else vars es e (entry_of vars es) refl is

  -- something is found exactly where an entry's set includes the one asked for
  wider-served : (vars : List ℕ) (es : List (List ℕ × V)) → is_some (wider_of vars es) ≡ is_served vars es
  wider-served vars [] = refl
  wider-served vars (e ∷ es) =
      elim (includes_all e.0 vars) as (λ b. is_some (cond b (Some e) (wider_of vars es)) ≡ (b || is_served vars es)) [
        | true ↦ refl
        | false ↦ wider-served vars es
      ]

  served-entry : (vars : List ℕ) (es : List (List ℕ × V)) (e : List ℕ × V) → entry_of vars es ≡ Some e → is_served vars es ≡ true
  served-entry vars [] e is = cc
  served-entry vars (x ∷ es) e is =
      (elim (bytes_eq vars x.0) as (λ b. bytes_eq vars x.0 ≡ b → cond b (Some x) (entry_of vars es) ≡ Some e → (includes_all x.0 vars || is_served vars es) ≡ true) [
        | true ↦ λ t i. or_left (includes_all x.0 vars) (is_served vars es) (includes-same vars x.0 t)
        | false ↦ λ t i. or_right (includes_all x.0 vars) (is_served vars es) (served-entry vars es e i)
      ]) refl is

  served-else : (vars : List ℕ) (es : List (List ℕ × V)) (o : Option (List ℕ × V)) → entry_of vars es ≡ o → is_some (option_or o (wider_of vars es)) ≡ is_served vars es
  served-else vars es None own = wider-served vars es
  served-else vars es (Some e) own = sym (served-entry vars es e own)

  pub found-served : (vars : List ℕ) (es : List (List ℕ × V)) → is_some (found vars es) ≡ is_served vars es
  found-served vars es = served-else vars es (entry_of vars es) refl

  -- whatever shows what was found
  pub served_as : {S : Type 0} (shown : S → List ℕ × V) (vars : List ℕ) (es : List (List ℕ × V)) (o : Option S) → option_map shown o ≡ found vars es → is_some o ≡ is_served vars es
  served_as shown vars es o is = still shown o ∙ ap is_some is ∙ found-served vars es

  -- ---- a second look finds the same
  first-again : (vars : List ℕ) (e : List ℕ × V) (rest : List (List ℕ × V)) → entry_of vars rest ≡ None → includes_all e.0 vars ≡ true → found vars (e ∷ rest) ≡ Some e
  first-again vars e rest none wide =
      elim (bytes_eq vars e.0) as (λ b. option_or (cond b (Some e) (entry_of vars rest)) (wider_of vars (e ∷ rest)) ≡ Some e) [
        | true ↦ refl
        | false ↦ ap (λ o. option_or o (wider_of vars (e ∷ rest))) none ∙ ap (λ b. cond b (Some e) (wider_of vars rest)) wide
      ]

  again-else : (vars : List ℕ) (es : List (List ℕ × V)) (o w : Option (List ℕ × V)) → entry_of vars es ≡ o → wider_of vars es ≡ w
      → found vars (option_map_or (λ (x : List ℕ × V). x ∷ others x.0 es) (option_or o w) es) ≡ option_or o w
  again-else vars es (Some x) w own wide = ap (λ b. option_or (cond b (Some x) (entry_of vars (others x.0 es))) (wider_of vars (x ∷ others x.0 es))) (passes (bytes_eq vars) es x own)
  again-else vars es None None own wide = ap (λ o. option_or o (wider_of vars es)) own ∙ wide
  again-else vars es None (Some e) own wide = first-again vars e (others e.0 es) (gone (bytes_eq vars) (bytes_eq e.0) es own) (passes (λ set. includes_all set vars) es e wide)

  pub found-looked : (vars : List ℕ) (es : List (List ℕ × V)) → found vars (looked vars es) ≡ found vars es
  found-looked vars es = again-else vars es (entry_of vars es) (wider_of vars es) refl refl
