-- The blanks in front of a text, the first place of a byte, and the words taken from its front.
use Rattle.std.proofs.Common.{◌≡◌, ℕ, suc, ◌+◌, ◌<◌, ◌≤◌, Bool, true, false, List, [], ◌∷◌, length, take, drop, Option, Some, None, sym}
use Rattle.std.proofs.Common.{refl, ap, ◌∙◌, arith, length-drop, inl, inr}
use Rattle.std.specs.Prelude.{filter, nat_lt, position, unwrap_or}
use Rattle.std.specs.List.{position_or_len, slice_split, onto_first}
use Rattle.std.proofs.lemmas.Bool.{cases_Bool}
use Rattle.std.proofs.lemmas.Bool.Decides.{nat_tests}
use Rattle.std.proofs.lemmas.List.Splits.{slice_split-cons_yes, slice_split-cons_no}
use Rattle.tb_base.specs.Bytes.{is_blank, begins_blank, after_blanks}
use Rattle.tb_base.specs.Words.{is_word, words_of}

-- a place that was found
found_at : (p : ℕ → Bool) (xs : List ℕ) (i : ℕ) → Some i ≡ position p xs → i ≡ position_or_len p xs
found_at p xs i h = elim (cases_Bool (nat_lt (position_or_len p xs) (length xs))) [
  | inl t ↦ let g = rw t at h in cc
  | inr t ↦ let g = rw t at h in cc
]

place-within : (p : ℕ → Bool) (xs : List ℕ) → position_or_len p xs ≤ length xs
place-within p [] = omega arith
place-within p (x ∷ xs) = elim (cases_Bool (p x)) [
  | inl t ↦ rw t (omega (arith, place-within p xs))
  | inr t ↦ rw t (omega (arith, place-within p xs))
]

-- no place was found
found_none : (p : ℕ → Bool) (xs : List ℕ) → None ≡ position p xs → length xs ≡ position_or_len p xs
found_none p xs h = elim (cases_Bool (nat_lt (position_or_len p xs) (length xs))) [
  | inl t ↦ let g = rw t at h in cc
  | inr t ↦ let le = place-within p xs in grind (arith, nat_tests)
]

-- the place of the first at which the test passes, or the length
pub place-or-length : (p : ℕ → Bool) (xs : List ℕ) (o : Option ℕ) → o ≡ position p xs → unwrap_or o (length xs) ≡ position_or_len p xs
place-or-length p xs (Some i) h = found_at p xs i h
place-or-length p xs None h = found_none p xs h

-- no blank stands after the blanks in front
pub none-after : (bs : List ℕ) → begins_blank (after_blanks bs) ≡ false
none-after [] = refl
none-after (b ∷ bs) = elim (cases_Bool (is_blank b)) [
  | inl t ↦ rw t (none-after bs)
  | inr t ↦ rw t t
]

pub after-shorter : (bs : List ℕ) → length (after_blanks bs) ≤ length bs
after-shorter [] = omega arith
after-shorter (b ∷ bs) = elim (cases_Bool (is_blank b)) [
  | inl t ↦ rw t (omega (arith, after-shorter bs))
  | inr t ↦ rw t (omega arith)
]

-- how many bytes that are no blanks stand in front
abbrev word : List ℕ → ℕ
word bs = position_or_len is_blank bs

one_more : (n : ℕ) → 1 + n ≡ suc n
one_more n = omega arith

none-of-none : words_of [] ≡ []
unfolding words_of
none-of-none = refl

words-of : (bs : List ℕ) → words_of bs ≡ filter is_word (slice_split is_blank bs)
unfolding words_of
words-of bs = refl

-- a blank in front only separates
words-blank : (b : ℕ) (bs : List ℕ) → is_blank b ≡ true → words_of (b ∷ bs) ≡ words_of bs
words-blank b bs h = words-of (b ∷ bs) ∙ ap (filter is_word) (slice_split-cons_yes is_blank b bs h) ∙ sym (words-of bs)

words-blanks : (bs : List ℕ) → words_of bs ≡ words_of (after_blanks bs)
words-blanks [] = refl
words-blanks (b ∷ bs) = elim (cases_Bool (is_blank b)) [
  | inl t ↦ words-blank b bs t ∙ rw t (words-blanks bs)
  | inr t ↦ rw t refl
]

-- the parts behind the first, where this is what stands behind it
abbrev parts_behind : List ℕ → List (List ℕ)
parts_behind [] = []
parts_behind (b ∷ bs) = slice_split is_blank bs

-- the first part ends before the first blank
first-part-of : (b : ℕ) (bs : List ℕ) (v : Bool) → is_blank b ≡ v → slice_split is_blank bs ≡ take (word bs) bs
    ∷ parts_behind (drop (word bs) bs)
    → slice_split is_blank (b ∷ bs) ≡ take (word (b ∷ bs)) (b ∷ bs) ∷ parts_behind (drop (word (b ∷ bs)) (b ∷ bs))
first-part-of b bs true e rest = let n : word (b ∷ bs) ≡ 0 = rw e refl in slice_split-cons_yes is_blank b bs e ∙ rw n refl
first-part-of b bs false e rest =
    let n : word (b ∷ bs) ≡ suc (word bs) = rw e (one_more (word bs)) in
    slice_split-cons_no is_blank b bs e ∙ ap (onto_first b) rest ∙ rw n refl

first-part : (bs : List ℕ) → slice_split is_blank bs ≡ take (word bs) bs ∷ parts_behind (drop (word bs) bs)
first-part [] = refl
first-part (b ∷ bs) = first-part-of b bs (is_blank b) refl (first-part bs)

-- the words behind the first part are those of what stands behind it
words-behind-of : (b : ℕ) (bs : List ℕ) (v : Bool) → is_blank b ≡ v → words_of (drop (word bs) bs)
    ≡ filter is_word (parts_behind (drop (word bs) bs))
    → words_of (drop (word (b ∷ bs)) (b ∷ bs)) ≡ filter is_word (parts_behind (drop (word (b ∷ bs)) (b ∷ bs)))
words-behind-of b bs true e rest = let n : word (b ∷ bs) ≡ 0 = rw e refl in rw n (words-blank b bs e ∙ words-of bs)
words-behind-of b bs false e rest = let n : word (b ∷ bs) ≡ suc (word bs) = rw e (one_more (word bs)) in rw n rest

words-behind : (bs : List ℕ) → words_of (drop (word bs) bs) ≡ filter is_word (parts_behind (drop (word bs) bs))
words-behind [] = none-of-none
words-behind (b ∷ bs) = words-behind-of b bs (is_blank b) refl (words-behind bs)

-- a text of blanks alone has no words
pub no_words : (bs rest : List ℕ) → rest ≡ after_blanks bs → length rest ≡ 0 → words_of bs ≡ []
no_words bs [] h e = words-blanks bs ∙ ap words_of (sym h) ∙ none-of-none
no_words bs (b ∷ rest) h e = absurd (omega arith)

-- a word, and what follows it
pub record IsFirst (text first after : List ℕ) : Type 0 where
  pub words : words_of text ≡ first ∷ words_of after
  pub shorter : length after < length text

one-word : (b : ℕ) (bs : List ℕ) (n : ℕ) (parts : List (List ℕ)) → n ≡ suc (word bs) → filter is_word (take n (b ∷ bs) ∷ parts)
    ≡ take n (b ∷ bs) ∷ filter is_word parts
one-word b bs n parts e = rw e refl

first-word : (bs rest : List ℕ) → words_of bs ≡ words_of rest → length rest ≤ length bs → begins_blank rest ≡ false → 0 < length rest
    → IsFirst bs (take (word rest) rest) (drop (word rest) rest)
first-word bs [] same le none l = absurd (omega arith)
first-word bs (b ∷ rest) same le none l =
    let n : word (b ∷ rest) ≡ suc (word rest) = rw none (one_more (word rest)) in
    record {
      words = same ∙ words-of (b ∷ rest) ∙ ap (filter is_word) (first-part (b ∷ rest)) ∙ one-word b rest (word (b ∷ rest))
          (parts_behind (drop (word (b ∷ rest)) (b ∷ rest))) n ∙ ap (λ ws. take (word (b ∷ rest)) (b ∷ rest) ∷ ws)
          (sym (words-behind (b ∷ rest)));
      shorter = omega (arith, length-drop (word (b ∷ rest)) (b ∷ rest), le, n);
    }

-- the first word has m bytes, and is cut off what stands after the blanks
pub cut_at : (bs rest : List ℕ) (m : ℕ) (front back : List ℕ) → rest ≡ after_blanks bs → 0 < length rest → m ≡ word rest
    → front ≡ take m rest → back ≡ drop m rest → IsFirst bs front back
cut_at bs rest m front back r l e f b =
    let same : words_of bs ≡ words_of rest = words-blanks bs ∙ ap words_of (sym r) in
    let le : length rest ≤ length bs = rw r (after-shorter bs) in
    let first = first-word bs rest same le (ap begins_blank r ∙ none-after bs) l in
    rw (f, b, e) first
