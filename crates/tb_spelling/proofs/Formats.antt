-- A reader and a spelling that undo each other, and what is made of such.
use Rattle.std.proofs.Common.{◌≡◌, ℕ, ℤ, zero, suc, ◌+◌, ◌-◌, ◌^◌, ◌<◌, ◌≤◌, Bool, true, false, cond, ltb, List, [], ◌∷◌, ◌++◌, length, take, drop, Option, Some, None, refl, sym, ap, subst, ◌∙◌, append_assoc, arith, inl, inr}
use Rattle.std.specs.Prelude.{◌==◌, FitsSigned}
use Rattle.std.specs.List.{flat_map, AllByRecursion}
use Rattle.std.specs.Int.{Width, w16, w32, byte_len, cast_signed, cast_unsigned, from_be_bytes, to_be_bytes}
use Rattle.std.proofs.lemmas.Bool.{cases_lt, ltb-false, le-ltb, eqb-true}
use Rattle.std.proofs.lemmas.Int.{to_z-of_z, of_z-to_z}
use Rattle.std.proofs.Math.Facts.{sfits_to_z, Fits-of_z}
use Rattle.std.proofs.lemmas.List.{append-nil, nil_from_length, take_at, drop_at, take-append-drop, length-append, length-take, get_or-drop, get_or-take, get_or_past}
use Rattle.std.proofs.lemmas.Nat.{be_bytes_2, be_bytes_4, from_be_bytes-to_be_bytes_2, from_be_bytes-to_be_bytes_4}
use Rattle.tb_spelling.specs.Fields.{Reader, then_read, number_at, made_at, signed_at, tested_at, pair_at, many_at, counted_at, whole}
use Rattle.tb_spelling.specs.Laws.{AreBytes}
use Rattle.tb_spelling.specs.Spelling.{counted, signed}

AreBytes-drop : (n : ℕ) (bytes : List ℕ) → AreBytes bytes → AreBytes (drop n bytes)
AreBytes-drop n bytes h i = rw get_or-drop (h (n + i))

AreBytes-take : (n : ℕ) (bytes : List ℕ) → AreBytes bytes → AreBytes (take n bytes)
AreBytes-take n bytes h i =
    elim (cases_lt i n) [
      | inl lt ↦ rw (get_or-take n bytes i 0 lt) (h i)
      | inr le ↦ rw (get_or_past (take n bytes) i 0 (omega (arith, length-take n bytes))) (omega arith)
    ]

-- what a reader took from the front
pub record Takes (bytes text rest : List ℕ) : Type 0 where
  pub parts : bytes ≡ text ++ rest
  pub rest_fits : AreBytes rest

pub Takes-then : (a x b y c : List ℕ) → Takes a x b → Takes b y c → Takes a (x ++ y) c
Takes-then a x b y c p q = record { parts = p.parts ∙ ap (λ (t : List ℕ). x ++ t) q.parts ∙ sym (append_assoc x y c); rest_fits = q.rest_fits }

-- what is read is spelled so, and what is spelled so is read
pub record IsFormat {A : Type 0} (reader : Reader A) (text : A → List ℕ) (Good : A → Type 0) : Type 0 where
  pub takes : (bytes : List ℕ) (x : A) (rest : List ℕ) → AreBytes bytes → reader bytes ≡ Some (x, rest) → Takes bytes (text x) rest × Good x
  pub again : (x : A) (rest : List ℕ) → Good x → reader (text x ++ rest) ≡ Some (x, rest)

pub some_is : {A : Type 0} (x y : A) → Some x ≡ Some y → x ≡ y
some_is x y e = cc

pub then_some : {A B : Type 0} (r : Option (A × List ℕ)) (f : A → List ℕ → Option B) (y : B) → then_read r f ≡ Some y → (x : A) × (rest : List ℕ) × (r ≡ Some (x, rest)) × (f x rest ≡ Some y)
then_some None f y e = absurd cc
then_some (Some x) f y e = (x.0, x.1, refl, e)

-- ---- numbers

record IsWide (w : Width) (limit : ℕ) : Type 0 where
  pub len : (n : ℕ) → length (to_be_bytes w n) ≡ byte_len w
  pub back : (bytes : List ℕ) → length bytes ≡ byte_len w → AreBytes bytes → to_be_bytes w (from_be_bytes w bytes) ≡ bytes
  pub once : (n : ℕ) → n < limit → from_be_bytes w (to_be_bytes w n) ≡ n
  pub below : (bytes : List ℕ) → AreBytes bytes → from_be_bytes w bytes < limit

wide16 : IsWide w16 (2 ^ 16)
wide16 = record {
  len = λ n. refl;
  back = λ bytes len fits. be_bytes_2 bytes _ len fits refl;
  once = λ n lt. from_be_bytes-to_be_bytes_2 n lt;
  below = λ bytes fits. omega (arith, fits 0, fits 1);
}

wide32 : IsWide w32 (2 ^ 32)
wide32 = record {
  len = λ n. refl;
  back = λ bytes len fits. be_bytes_4 bytes _ len fits refl;
  once = λ n lt. from_be_bytes-to_be_bytes_4 n lt;
  below = λ bytes fits. omega (arith, fits 0, fits 1, fits 2, fits 3);
}

guard_some : {A : Type 0} (b : Bool) (x y : A) → cond b None (Some x) ≡ Some y → (b ≡ false) × (x ≡ y)
guard_some true x y e = absurd cc
guard_some false x y e = (refl, cc)

number_format : (w : Width) (limit : ℕ) → IsWide w limit → IsFormat (number_at w) (to_be_bytes w) (λ n. n < limit)
number_format w limit wide = record {
  takes = λ bytes n rest fits e.
      let g = guard_some (ltb (length bytes) (byte_len w)) (from_be_bytes w (take (byte_len w) bytes), drop (byte_len w) bytes) (n, rest) e in
      let long : byte_len w ≤ length bytes = ltb-false _ _ g.0 in
      let n-is : from_be_bytes w (take (byte_len w) bytes) ≡ n = ap (λ (p : ℕ × List ℕ). p.0) g.1 in
      let rest-is : drop (byte_len w) bytes ≡ rest = ap (λ (p : ℕ × List ℕ). p.1) g.1 in
      let front : to_be_bytes w n ≡ take (byte_len w) bytes = rw (← n-is) (wide.back (take (byte_len w) bytes) (omega (arith, length-take (byte_len w) bytes)) (AreBytes-take (byte_len w) bytes fits)) in
      (record { parts = rw (front, ← rest-is) (sym (take-append-drop (byte_len w) bytes)); rest_fits = rw (← rest-is) (AreBytes-drop (byte_len w) bytes fits) }, rw (← n-is) (wide.below (take (byte_len w) bytes) (AreBytes-take (byte_len w) bytes fits)));
  again = λ n rest lt.
      let len = wide.len n in
      let long : ltb (length (to_be_bytes w n ++ rest)) (byte_len w) ≡ false = le-ltb _ _ (omega (arith, length-append (to_be_bytes w n) rest, len)) in
      rw (long, take_at (to_be_bytes w n) rest (byte_len w) len, drop_at (to_be_bytes w n) rest (byte_len w) len, wide.once n lt) refl;
}

pub u16_format : IsFormat (number_at w16) (to_be_bytes w16) (λ n. n < 2 ^ 16)
u16_format = number_format w16 (2 ^ 16) wide16

pub u32_format : IsFormat (number_at w32) (to_be_bytes w32) (λ n. n < 2 ^ 32)
u32_format = number_format w32 (2 ^ 32) wide32

passed : {C : Type 0} (t : Bool) (x y : C) → cond t (Some x) None ≡ Some y → (t ≡ true) × (x ≡ y)
passed true x y e = (refl, cc)
passed false x y e = absurd cc

-- ---- what is made of a field

module _ {A B : Type 0} (a : Reader A) (ta : A → List ℕ) (GA : A → Type 0) (fa : IsFormat a ta GA) (make : A → B) where
  abbrev remade : A → List ℕ → Option (B × List ℕ)
  remade x rest = Some (make x, rest)

  pub made_takes : (bytes : List ℕ) (y : B) (rest : List ℕ) → AreBytes bytes → made_at make a bytes ≡ Some (y, rest) → (x : A) × (make x ≡ y) × Takes bytes (ta x) rest × GA x
  made_takes bytes y rest fits e =
      let s = then_some (a bytes) remade (y, rest) e in
      let t = fa.takes bytes s.0 s.1 fits s.2 in
      let is = some_is (make s.0, s.1) (y, rest) s.3 in
      (s.0, ap (λ (p : B × List ℕ). p.0) is, subst (λ (r : List ℕ). Takes bytes (ta s.0) r) (ap (λ (p : B × List ℕ). p.1) is) t.0, t.1)

  pub made_again : (x : A) (rest : List ℕ) → GA x → made_at make a (ta x ++ rest) ≡ Some (make x, rest)
  made_again x rest good = ap (λ (r : Option (A × List ℕ)). then_read r remade) (fa.again x rest good)

-- a number with a sign
pub signed_format : IsFormat signed_at signed (FitsSigned w16)
signed_format = record { takes = takes; again = again }
  where
    takes : (bytes : List ℕ) (z : ℤ) (rest : List ℕ) → AreBytes bytes → signed_at bytes ≡ Some (z, rest) → Takes bytes (signed z) rest × FitsSigned w16 z
    takes bytes z rest fits e =
        let m = made_takes (number_at w16) (to_be_bytes w16) (λ n. n < 2 ^ 16) u16_format (cast_signed w16) bytes z rest fits e in
        let text : to_be_bytes w16 m.0 ≡ signed (cast_signed w16 m.0) = ap (to_be_bytes w16) (sym (of_z-to_z w16 m.0 m.3)) in
        subst (λ (y : ℤ). Takes bytes (signed y) rest × FitsSigned w16 y) m.1 (subst (λ (t : List ℕ). Takes bytes t rest) text m.2, sfits_to_z {w = w16} {n = m.0} (record { fits = m.3 }))

    again : (z : ℤ) (rest : List ℕ) → FitsSigned w16 z → signed_at (signed z ++ rest) ≡ Some (z, rest)
    again z rest good =
        made_again (number_at w16) (to_be_bytes w16) (λ n. n < 2 ^ 16) u16_format (cast_signed w16) (cast_unsigned w16 z) rest (Fits-of_z {w = w16} {z = z} good).fits
        ∙ ap (λ (y : ℤ). Some (y, rest)) (to_z-of_z w16 z good)

-- ---- a field that passes a test

module _ {A : Type 0} (a : Reader A) (ta : A → List ℕ) (GA : A → Type 0) (fa : IsFormat a ta GA) (test : A → Bool) where
  abbrev passing : A → List ℕ → Option (A × List ℕ)
  passing x rest = cond (test x) (Some (x, rest)) None

  pub tested_format : IsFormat (tested_at test a) ta (λ x. GA x × (test x ≡ true))
  tested_format = record {
    takes = λ bytes x rest fits e.
        let s = then_some (a bytes) passing (x, rest) e in
        let g = passed (test s.0) (s.0, s.1) (x, rest) s.3 in
        let first = fa.takes bytes s.0 s.1 fits s.2 in
        subst (λ (y : A × List ℕ). Takes bytes (ta y.0) y.1 × (GA y.0 × (test y.0 ≡ true))) g.1 (first.0, (first.1, g.0));
    again = λ x rest good.
        ap (λ (r : Option (A × List ℕ)). then_read r passing) (fa.again x rest good.0)
        ∙ ap (λ (t : Bool). cond t (Some (x, rest)) None) good.1;
  }

-- ---- one field and another

module _ {A B : Type 0} (a : Reader A) (ta : A → List ℕ) (GA : A → Type 0) (fa : IsFormat a ta GA) (b : Reader B) (tb : B → List ℕ) (GB : B → Type 0) (fb : IsFormat b tb GB) where
  abbrev second_of : A → B → List ℕ → Option ((A × B) × List ℕ)
  second_of x y end = Some ((x, y), end)

  abbrev rest_of : A → List ℕ → Option ((A × B) × List ℕ)
  rest_of x rest = then_read (b rest) (second_of x)

  pub pair_format : IsFormat (pair_at a b) (λ p. ta p.0 ++ tb p.1) (λ p. GA p.0 × GB p.1)
  pair_format = record {
    takes = λ bytes p rest fits e.
        let s = then_some (a bytes) rest_of (p, rest) e in
        let t = then_some (b s.1) (second_of s.0) (p, rest) s.3 in
        let first = fa.takes bytes s.0 s.1 fits s.2 in
        let second = fb.takes s.1 t.0 t.1 first.0.rest_fits t.2 in
        subst (λ (y : (A × B) × List ℕ). Takes bytes (ta y.0.0 ++ tb y.0.1) y.1 × (GA y.0.0 × GB y.0.1)) (some_is ((s.0, t.0), t.1) (p, rest) t.3)
        (Takes-then bytes (ta s.0) s.1 (tb t.0) t.1 first.0 second.0, (first.1, second.1));
    again = λ p rest good.
        ap (pair_at a b) (append_assoc (ta p.0) (tb p.1) rest)
        ∙ ap (λ (r : Option (A × List ℕ)). then_read r rest_of) (fa.again p.0 (tb p.1 ++ rest) good.0)
        ∙ ap (λ (r : Option (B × List ℕ)). then_read r (second_of p.0)) (fb.again p.1 rest good.1);
  }

-- ---- many fields

module _ {A : Type 0} (a : Reader A) (ta : A → List ℕ) (GA : A → Type 0) (fa : IsFormat a ta GA) where
  abbrev joined : A → List A → List ℕ → Option (List A × List ℕ)
  joined x xs end = Some (x ∷ xs, end)

  abbrev others_of : ℕ → A → List ℕ → Option (List A × List ℕ)
  others_of n x rest = then_read (many_at a n rest) (joined x)

  many_take : (n : ℕ) (bytes : List ℕ) (xs : List A) (rest : List ℕ) → AreBytes bytes → many_at a n bytes ≡ Some (xs, rest) → Takes bytes (flat_map ta xs) rest × ((length xs ≡ n) × AllByRecursion GA xs)
  many_take zero bytes xs rest fits e =
      subst (λ (y : List A × List ℕ). Takes bytes (flat_map ta y.0) y.1 × ((length y.0 ≡ 0) × AllByRecursion GA y.0)) (some_is ([], bytes) (xs, rest) e) (record { parts = refl; rest_fits = fits }, (refl, tt))
  many_take (suc n) bytes xs rest fits e =
      let s = then_some (a bytes) (others_of n) (xs, rest) e in
      let t = then_some (many_at a n s.1) (joined s.0) (xs, rest) s.3 in
      let first = fa.takes bytes s.0 s.1 fits s.2 in
      let second = many_take n s.1 t.0 t.1 first.0.rest_fits t.2 in
      subst (λ (y : List A × List ℕ). Takes bytes (flat_map ta y.0) y.1 × ((length y.0 ≡ suc n) × AllByRecursion GA y.0)) (some_is (s.0 ∷ t.0, t.1) (xs, rest) t.3)
      (Takes-then bytes (ta s.0) s.1 (flat_map ta t.0) t.1 first.0 second.0, (ap suc second.1.0, (first.1, second.1.1)))

  many_again : (xs : List A) (rest : List ℕ) → AllByRecursion GA xs → many_at a (length xs) (flat_map ta xs ++ rest) ≡ Some (xs, rest)
  many_again [] rest good = refl
  many_again (x ∷ xs) rest good =
      ap (many_at a (suc (length xs))) (append_assoc (ta x) (flat_map ta xs) rest)
      ∙ ap (λ (r : Option (A × List ℕ)). then_read r (others_of (length xs))) (fa.again x (flat_map ta xs ++ rest) good.0)
      ∙ ap (λ (r : Option (List A × List ℕ)). then_read r (joined x)) (many_again xs rest good.1)

  module _ (w : Width) (count : Reader ℕ) (GC : ℕ → Type 0) (fc : IsFormat count (to_be_bytes w) GC) where
    abbrev all_of : ℕ → List ℕ → Option (List A × List ℕ)
    all_of n rest = many_at a n rest

    pub counted_format : IsFormat (counted_at count a) (counted w ta) (λ xs. GC (length xs) × AllByRecursion GA xs)
    counted_format = record {
      takes = λ bytes xs rest fits e.
          let s = then_some (count bytes) all_of (xs, rest) e in
          let first = fc.takes bytes s.0 s.1 fits s.2 in
          let second = many_take s.0 s.1 xs rest first.0.rest_fits s.3 in
          let both = Takes-then bytes (to_be_bytes w s.0) s.1 (flat_map ta xs) rest first.0 second.0 in
          subst (λ (n : ℕ). Takes bytes (to_be_bytes w n ++ flat_map ta xs) rest × (GC n × AllByRecursion GA xs)) (sym second.1.0) (both, (first.1, second.1.1));
      again = λ xs rest good.
          ap (counted_at count a) (append_assoc (to_be_bytes w (length xs)) (flat_map ta xs) rest)
          ∙ ap (λ (r : Option (ℕ × List ℕ)). then_read r all_of) (fc.again (length xs) (flat_map ta xs ++ rest) good.0)
          ∙ many_again xs rest good.1;
    }

-- ---- one field that is all of the bytes

module _ {A : Type 0} (a : Reader A) (ta : A → List ℕ) (GA : A → Type 0) (fa : IsFormat a ta GA) where
  abbrev last : A → List ℕ → Option A
  last x rest = cond (length rest == 0) (Some x) None

  pub whole_takes : (bytes : List ℕ) (x : A) → AreBytes bytes → whole a bytes ≡ Some x → (bytes ≡ ta x) × GA x
  whole_takes bytes x fits e =
      let s = then_some (a bytes) last x e in
      let g = passed (length s.1 == 0) s.0 x s.3 in
      let t = fa.takes bytes s.0 s.1 fits s.2 in
      let all : bytes ≡ ta s.0 = t.0.parts ∙ ap (λ (l : List ℕ). ta s.0 ++ l) (nil_from_length s.1 (eqb-true _ _ g.0)) ∙ append-nil (ta s.0) in
      subst (λ (y : A). (bytes ≡ ta y) × GA y) g.1 (all, t.1)

  pub whole_again : (x : A) → GA x → whole a (ta x) ≡ Some x
  whole_again x good =
      ap (λ (l : List ℕ). whole a l) (sym (append-nil (ta x)))
      ∙ ap (λ (r : Option (A × List ℕ)). then_read r last) (fa.again x [] good)
