-- Texts in one line are cut into the same texts.
use Rattle.std.proofs.Common.{◌≡◌, ℕ, suc, ◌+◌, ◌≤◌, ◌&&◌, ◌||◌, Bool, true, false, not, cond, List, [], ◌∷◌, ◌++◌, length, sym, refl, ap, ◌∙◌, subst, arith, ◌⊎◌, inl, inr, append_assoc}
use Rattle.std.specs.Prelude.{bytes_eq, codes, nat_lt, Some, None}
use Rattle.std.specs.List.{AllByRecursion, position_or_len}
use Rattle.std.specs.Option.{option_map}
use Rattle.std.proofs.lemmas.Bool.{ltb-false, le-ltb}
use Rattle.std.proofs.lemmas.Slice.Eq.{bytes_eq-Decides}
use Rattle.tb_base.specs.Bytes.{is_text_byte, is_blank}
use Rattle.tb_query.specs.Bytes.{is_word_byte, first_not_text}
use Rattle.tb_query.specs.Tokens.{begins_word, with_first, cut}
use Rattle.tb_query.specs.Canonical.{gap, join, join_after}
use Rattle.tb_query.proofs.Cuts.{cut-cons, word_byte_is_no_blank, cut-mark}

-- a text of a token: bytes of a word, or one byte that is neither a blank nor a byte of a word
abbrev pub IsWordText : List ℕ → Type 0
IsWordText [] = ⊥
IsWordText (b ∷ []) = is_word_byte b ≡ true
IsWordText (b ∷ c ∷ bs) = (is_word_byte b ≡ true) × IsWordText (c ∷ bs)

abbrev pub IsMarkText : List ℕ → Type 0
IsMarkText (b ∷ []) = (is_blank b ≡ false) × (is_word_byte b ≡ false)
IsMarkText _ = ⊥

abbrev pub IsTokenText : List ℕ → Type 0
IsTokenText t = IsWordText t ⊎ IsMarkText t

abbrev pub AreTokenTexts : List (List ℕ) → Type 0
AreTokenTexts ts = AllByRecursion IsTokenText ts

-- the texts of a line
abbrev FirstIsWord : List (List ℕ) → Type 0
FirstIsWord [] = ⊥
FirstIsWord (t ∷ ts) = IsWordText t

abbrev CutWell : List ℕ → Type 0
CutWell bs = AreTokenTexts (cut bs) × (begins_word bs ≡ true → FirstIsWord (cut bs))

longer_word : (b : ℕ) (t : List ℕ) → is_word_byte b ≡ true → IsWordText t → IsWordText (b ∷ t)
longer_word b [] w h = absurd h
longer_word b (c ∷ t) w h = (w, h)

joins_first : (b : ℕ) (texts : List (List ℕ)) → is_word_byte b ≡ true → AreTokenTexts texts → FirstIsWord texts → AreTokenTexts (with_first b texts) × FirstIsWord (with_first b texts)
joins_first b [] w all first = absurd first
joins_first b (t ∷ ts) w all first = ((inl (longer_word b t w first), all.1), longer_word b t w first)

cut_well_at : (b : ℕ) (bs : List ℕ) (x y z : Bool) → is_blank b ≡ x → is_word_byte b ≡ y → begins_word bs ≡ z → CutWell bs → CutWell (b ∷ bs)
cut_well_at b bs true true z ex ey ez rest = let no : true ≡ false = sym ex ∙ word_byte_is_no_blank b ey in absurd (cc)
cut_well_at b bs true false z ex ey ez rest =
    let e : cut (b ∷ bs) ≡ cut bs = cut-cons b bs ∙ rw ex refl in
    (subst AreTokenTexts (sym e) rest.0, λ h. absurd (cc))
cut_well_at b bs false true true ex ey ez rest =
    let e : cut (b ∷ bs) ≡ with_first b (cut bs) = cut-cons b bs ∙ rw (ex, ey, ez) refl in
    let joins = joins_first b (cut bs) ey rest.0 (rest.1 ez) in
    (subst AreTokenTexts (sym e) joins.0, λ h. subst FirstIsWord (sym e) joins.1)
cut_well_at b bs false true false ex ey ez rest =
    let e : cut (b ∷ bs) ≡ (b ∷ []) ∷ cut bs = cut-cons b bs ∙ rw (ex, ey, ez) refl in
    (subst AreTokenTexts (sym e) (inl ey, rest.0), λ h. subst FirstIsWord (sym e) ey)
cut_well_at b bs false false z ex ey ez rest =
    let e : cut (b ∷ bs) ≡ (b ∷ []) ∷ cut bs = cut-mark b bs ex ey in
    (subst AreTokenTexts (sym e) (inr (ex, ey), rest.0), λ h. absurd (cc))

cut_well : (bs : List ℕ) → CutWell bs
unfolding cut
cut_well [] = (tt, λ h. absurd (cc))
cut_well (b ∷ bs) = cut_well_at b bs (is_blank b) (is_word_byte b) (begins_word bs) refl refl refl (cut_well bs)

pub cut_texts : (bs : List ℕ) → AreTokenTexts (cut bs)
cut_texts bs = (cut_well bs).0

first_byte : (c : ℕ) (w : List ℕ) → IsWordText (c ∷ w) → is_word_byte c ≡ true
first_byte c [] h = h
first_byte c (d ∷ w) h = h.0

-- a word, and what begins with no byte of a word
word_then : (w rest : List ℕ) → IsWordText w → begins_word rest ≡ false → cut (w ++ rest) ≡ w ∷ cut rest
word_then [] rest h n = absurd h
word_then (b ∷ []) rest h n = cut-cons b rest ∙ rw (word_byte_is_no_blank b h, h, n) refl
word_then (b ∷ c ∷ w) rest h n =
    let later = word_then (c ∷ w) rest h.1 n in
    let c_word = first_byte c w h.1 in
    let e : cut (b ∷ c ∷ (w ++ rest)) ≡ with_first b (cut (c ∷ (w ++ rest))) = cut-cons b (c ∷ (w ++ rest)) ∙ rw (word_byte_is_no_blank b h.0, h.0, c_word) refl in
    e ∙ ap (with_first b) later

-- what stands between two texts
gap_test : List ℕ → List ℕ → Bool
gap_test before after = bytes_eq before (codes "(") || bytes_eq after (codes ",") || bytes_eq after (codes ")")

eq_of : (xs ys : List ℕ) → bytes_eq xs ys ≡ true → xs ≡ ys
eq_of xs ys h = (bytes_eq-Decides xs ys).0 h

-- a sign is no word
no_word : (t s : List ℕ) → IsWordText t → t ≡ s → (IsWordText s → ⊥) → ⊥
no_word t s h e never = never (subst IsWordText e h)

open_is_no_word : IsWordText (codes "(") → ⊥
unfolding is_word_byte
open_is_no_word h = absurd (cc)

blank_then : (rest : List ℕ) → cut (32 ∷ rest) ≡ cut rest
unfolding cut is_blank
blank_then rest = refl

blank_is_no_word : is_word_byte 32 ≡ false
unfolding is_word_byte
blank_is_no_word = refl

comma_is_no_word : is_word_byte 44 ≡ false
unfolding is_word_byte
comma_is_no_word = refl

close_is_no_word : is_word_byte 41 ≡ false
unfolding is_word_byte
close_is_no_word = refl

-- The line from a text on: cut, and whether it begins with a byte of a word.
gap_cut : (before t : List ℕ) (rest : List ℕ) (x y z : Bool) → cut (cond (x || y || z) [] (32 ∷ []) ++ rest) ≡ cut rest
gap_cut before t rest true y z = refl
gap_cut before t rest false true z = refl
gap_cut before t rest false false true = refl
gap_cut before t rest false false false = blank_then rest

gap_word : (before t rest : List ℕ) (x y z : Bool) → bytes_eq before (codes "(") ≡ x → bytes_eq t (codes ",") ≡ y → bytes_eq t (codes ")") ≡ z
    → IsWordText before → begins_word (cond (x || y || z) [] (32 ∷ []) ++ (t ++ rest)) ≡ false
gap_word before t rest true y z ex ey ez h = absurd (no_word before (codes "(") h (eq_of before (codes "(") ex) open_is_no_word)
gap_word before t rest false true z ex ey ez h = rw (eq_of t (codes ",") ey) comma_is_no_word
gap_word before t rest false false true ex ey ez h = rw (eq_of t (codes ")") ez) close_is_no_word
gap_word before t rest false false false ex ey ez h = blank_is_no_word

text_then : (t rest : List ℕ) → IsTokenText t → (IsWordText t → begins_word rest ≡ false) → cut (t ++ rest) ≡ t ∷ cut rest
text_then t rest (inl h) n = word_then t rest h (n h)
text_then [] rest (inr h) n = absurd h
text_then (b ∷ []) rest (inr h) n = cut-mark b rest h.0 h.1
text_then (b ∷ c ∷ t) rest (inr h) n = absurd h

cut-join_after : (t : List ℕ) (ts : List (List ℕ)) → IsTokenText t → AreTokenTexts ts → cut (t ++ join_after t ts) ≡ t ∷ ts
unfolding cut
cut-join_after t [] h all = text_then t [] h (λ w. refl)
cut-join_after t (u ∷ us) h all =
    let later = cut-join_after u us all.0 all.1 in
    let rest : List ℕ = u ++ join_after u us in
    let x = bytes_eq t (codes "(") in
    let y = bytes_eq u (codes ",") in
    let z = bytes_eq u (codes ")") in
    let cuts : cut (gap t u ++ rest) ≡ u ∷ us = gap_cut t u rest x y z ∙ later in
    let apart : cut (t ++ (gap t u ++ rest)) ≡ t ∷ u ∷ us = text_then t (gap t u ++ rest) h (λ w. gap_word t u (join_after u us) x y z refl refl refl w) ∙ ap (λ v. t ∷ v) cuts in
    ap (λ v. cut (t ++ v)) (append_assoc (gap t u) u (join_after u us)) ∙ apart

pub cut-join : (ts : List (List ℕ)) → AreTokenTexts ts → cut (join ts) ≡ ts
unfolding cut
cut-join [] all = refl
cut-join (t ∷ ts) all = cut-join_after t ts all.0 all.1

-- every byte is text
abbrev pub AreText : List ℕ → Type 0
AreText bs = AllByRecursion (λ b. is_text_byte b ≡ true) bs

AreText-append : (xs ys : List ℕ) → AreText xs → AreText ys → AreText (xs ++ ys)
AreText-append [] ys hx hy = hy
AreText-append (x ∷ xs) ys hx hy = (hx.0, AreText-append xs ys hx.1 hy)

AreText-gap : (x y z : Bool) → AreText (cond (x || y || z) [] (32 ∷ []))
unfolding is_text_byte
AreText-gap true y z = tt
AreText-gap false true z = tt
AreText-gap false false true = tt
AreText-gap false false false = (refl, tt)

AreText-join_after : (t : List ℕ) (ts : List (List ℕ)) → AllByRecursion AreText ts → AreText (join_after t ts)
AreText-join_after t [] h = tt
AreText-join_after t (u ∷ us) h =
    AreText-append (gap t u ++ u) (join_after u us)
    (AreText-append (gap t u) u (AreText-gap (bytes_eq t (codes "(")) (bytes_eq u (codes ",")) (bytes_eq u (codes ")"))) h.0)
    (AreText-join_after u us h.1)

pub AreText-join : (ts : List (List ℕ)) → AllByRecursion AreText ts → AreText (join ts)
AreText-join [] h = tt
AreText-join (t ∷ ts) h = AreText-append t (join_after t ts) h.0 (AreText-join_after t ts h.1)

with_first_text : (b : ℕ) (ts : List (List ℕ)) → is_text_byte b ≡ true → AllByRecursion AreText ts → AllByRecursion AreText (with_first b ts)
with_first_text b [] hb h = ((hb, tt), tt)
with_first_text b (t ∷ ts) hb h = ((hb, h.0), h.1)

cut_text_at : (b : ℕ) (bs : List ℕ) (x y : Bool) → is_text_byte b ≡ true → AllByRecursion AreText (cut bs) → AllByRecursion AreText (cond x (cut bs) (cond y (with_first b (cut bs)) ((b ∷ []) ∷ cut bs)))
cut_text_at b bs true y hb h = h
cut_text_at b bs false true hb h = with_first_text b (cut bs) hb h
cut_text_at b bs false false hb h = ((hb, tt), h)

pub cut_text : (bs : List ℕ) → AreText bs → AllByRecursion AreText (cut bs)
unfolding cut
cut_text [] h = tt
cut_text (b ∷ bs) h = cut_text_at b bs (is_blank b) (is_word_byte b && begins_word bs) h.0 (cut_text bs h.1)

-- no byte is bad exactly where every byte is text
text_at : (b : ℕ) (bs : List ℕ) (v : Bool) → is_text_byte b ≡ v → (length bs ≤ position_or_len (λ c. not (is_text_byte c)) bs → AreText bs)
    → suc (length bs) ≤ position_or_len (λ c. not (is_text_byte c)) (b ∷ bs) → AreText (b ∷ bs)
text_at b bs true e rest h = (e, rest (let h' = rw e at h in omega (arith, h')))
text_at b bs false e rest h = let h' = rw e at h in absurd (omega (arith, h'))

all_text : (bs : List ℕ) → length bs ≤ position_or_len (λ c. not (is_text_byte c)) bs → AreText bs
all_text [] h = tt
all_text (b ∷ bs) h = text_at b bs (is_text_byte b) refl (all_text bs) h

none_before : (bs : List ℕ) (v : Bool) → nat_lt (position_or_len (λ c. not (is_text_byte c)) bs) (length bs) ≡ v
    → option_map (λ i. i + 1) (cond v (Some (position_or_len (λ c. not (is_text_byte c)) bs)) None) ≡ None → AreText bs
none_before bs true e h = absurd (cc)
none_before bs false e h = all_text bs (ltb-false _ _ e)

pub text_of_none : (line : List ℕ) → first_not_text line ≡ None → AreText line
text_of_none line h = none_before line _ refl h

past_text : (bs : List ℕ) → AreText bs → length bs ≤ position_or_len (λ c. not (is_text_byte c)) bs
past_text [] h = omega arith
past_text (b ∷ bs) h = let later = past_text bs h.1 in rw h.0 (omega (arith, later))

pub none_of_text : (line : List ℕ) → AreText line → first_not_text line ≡ None
none_of_text line h = rw (le-ltb _ _ (past_text line h)) refl
