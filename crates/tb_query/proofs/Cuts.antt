-- How a line's texts are cut from its front.
use Rattle.std.proofs.Common.{◌≡◌, ℕ, suc, ◌+◌, ◌<◌, ◌&&◌, Bool, true, false, not, cond, List, [], ◌∷◌, length, get_or, take, drop, sym}
use Rattle.std.proofs.Common.{refl, ap, ◌∙◌, arith, length-drop, ◌≤◌, inl, inr}
use Rattle.std.proofs.lemmas.Bool.{cases_Bool}
use Rattle.std.specs.List.{position_or_len}
use Rattle.tb_base.specs.Bytes.{is_blank, begins_blank, after_blanks}
use Rattle.tb_base.proofs.WordLemmas.{after-shorter, none-after}
use Rattle.tb_query.specs.Bytes.{is_word_byte}
use Rattle.tb_query.specs.Tokens.{begins_word, with_first, cut}
use Rattle.tb_query.specs.Cutting.{IsFirst}

-- how many bytes of a word stand in front
abbrev pub word : List ℕ → ℕ
word bs = position_or_len (λ b. not (is_word_byte b)) bs

one_more : (n : ℕ) → 1 + n ≡ suc n
one_more n = omega arith

pub cut-cons : (b : ℕ) (bs : List ℕ) → cut (b ∷ bs) ≡ cond (is_blank b) (cut bs) (cond (is_word_byte b && begins_word bs) (with_first b (cut bs)) ((b ∷ []) ∷ cut bs))
unfolding cut
cut-cons b bs = refl

-- blanks only separate
pub cut-blanks : (bs : List ℕ) → cut bs ≡ cut (after_blanks bs)
cut-blanks [] = refl
cut-blanks (b ∷ bs) = elim (cases_Bool (is_blank b)) [
  | inl t ↦ cut-cons b bs ∙ rw t (cut-blanks bs)
  | inr t ↦ rw t refl
]

-- no byte of a word is a blank
pub word_byte_is_no_blank : (b : ℕ) → is_word_byte b ≡ true → is_blank b ≡ false
unfolding is_word_byte is_blank
word_byte_is_no_blank b h = grind arith

word_len_suc : (b : ℕ) (bs : List ℕ) → is_word_byte b ≡ true → word (b ∷ bs) ≡ suc (word bs)
word_len_suc b bs w = rw w (one_more (word bs))

one_longer : (b : ℕ) (bs : List ℕ) (n m : ℕ) → m ≡ suc n → take m (b ∷ bs) ∷ cut (drop m (b ∷ bs)) ≡ (b ∷ take n bs) ∷ cut (drop n bs)
one_longer b bs n m e = rw e refl

-- a word's bytes stay together
joined_word : (b : ℕ) (bs : List ℕ) (v : Bool) → begins_word bs ≡ v → is_word_byte b ≡ true
    → ((c : ℕ) (cs : List ℕ) → bs ≡ c ∷ cs → is_word_byte c ≡ true → cut bs ≡ take (word bs) bs ∷ cut (drop (word bs) bs))
    → cut (b ∷ bs) ≡ take (word (b ∷ bs)) (b ∷ bs) ∷ cut (drop (word (b ∷ bs)) (b ∷ bs))
joined_word b [] v e w rest = cut-cons b [] ∙ rw (word_byte_is_no_blank b w, w) refl
joined_word b (c ∷ cs) true e w rest =
    let joins : cut (b ∷ c ∷ cs) ≡ with_first b (cut (c ∷ cs)) = cut-cons b (c ∷ cs) ∙ rw (word_byte_is_no_blank b w, w, e) refl in
    joins ∙ ap (with_first b) (rest c cs refl e) ∙ sym (one_longer b (c ∷ cs) (word (c ∷ cs)) (word (b ∷ c ∷ cs)) (word_len_suc b (c ∷ cs) w))
joined_word b (c ∷ cs) false e w rest = cut-cons b (c ∷ cs) ∙ rw (word_byte_is_no_blank b w, w, e) refl

pub cut-word : (b : ℕ) (bs : List ℕ) → is_word_byte b ≡ true → cut (b ∷ bs) ≡ take (word (b ∷ bs)) (b ∷ bs) ∷ cut (drop (word (b ∷ bs)) (b ∷ bs))
cut-word b [] w = joined_word b [] false refl w (λ c cs e. absurd (cc))
cut-word b (d ∷ ds) w = joined_word b (d ∷ ds) (is_word_byte d) refl w (λ c cs e h. let same : is_word_byte d ≡ true = cc in cut-word d ds same)

-- each other byte stands by itself
pub cut-mark : (b : ℕ) (bs : List ℕ) → is_blank b ≡ false → is_word_byte b ≡ false → cut (b ∷ bs) ≡ (b ∷ []) ∷ cut bs
unfolding cut
cut-mark b bs blank w = rw (blank, w) refl

pub none_left : (bs rest : List ℕ) → rest ≡ after_blanks bs → length rest ≡ 0 → cut bs ≡ []
unfolding cut
none_left bs [] h e = cut-blanks bs ∙ ap cut (sym h)
none_left bs (b ∷ rest) h e = absurd (omega arith)

-- the texts of a line are those of what stands after its blanks
from-rest : (bs rest text after : List ℕ) → rest ≡ after_blanks bs → cut rest ≡ text ∷ cut after → length after < length rest
    → IsFirst bs text after
from-rest bs rest text after h e l =
    let le : length rest ≤ length bs = rw h (after-shorter bs) in
    record { cut_there = cut-blanks bs ∙ ap cut (sym h) ∙ e; shorter = omega arith }

pub word_first : (bs rest : List ℕ) → rest ≡ after_blanks bs → 0 < length rest → is_word_byte (get_or rest 0 0) ≡ true
    → IsFirst bs (take (word rest) rest) (drop (word rest) rest)
word_first bs [] h l w = absurd (omega arith)
word_first bs (b ∷ rest) h l w = let n = word_len_suc b rest w in from-rest bs (b ∷ rest) _ _ h (cut-word b rest w)
    (omega (arith, length-drop (word (b ∷ rest)) (b ∷ rest), n))

pub mark_first : (bs rest : List ℕ) → rest ≡ after_blanks bs → 0 < length rest → is_word_byte (get_or rest 0 0) ≡ false
    → IsFirst bs (take 1 rest) (drop 1 rest)
mark_first bs [] h l w = absurd (omega arith)
mark_first bs (b ∷ rest) h l w = from-rest bs (b ∷ rest) _ _ h (cut-mark b rest (ap begins_blank h ∙ none-after bs) w) (omega arith)

-- the two parts of the rest, cut at n
pub first_part : (bs rest : List ℕ) (n : ℕ) {m : ℕ} (front back : List ℕ) → IsFirst bs (take m rest) (drop m rest) → n ≡ m → front ≡ take n rest → back ≡ drop n rest → IsFirst bs front back
first_part bs rest n {m} front back h e f b =
    let same_front : take m rest ≡ front = sym (f ∙ ap (λ i. take i rest) e) in
    let same_back : drop m rest ≡ back = sym (b ∙ ap (λ i. drop i rest) e) in
    record {
      cut_there = h.cut_there ∙ ap (λ x. x ∷ cut (drop m rest)) same_front ∙ ap (λ x. front ∷ cut x) same_back;
      shorter = rw (← same_back) h.shorter;
    }
