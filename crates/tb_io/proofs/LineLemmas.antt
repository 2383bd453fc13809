-- First lines and what follows them.
use Rattle.std.proofs.Common.{◌≡◌, ap, refl, ℕ, suc, ◌<◌, ◌≤◌, true, false, List, [], ◌∷◌, ◌++◌, length, get_or, inl, inr, arith}
use Rattle.std.proofs.lemmas.Bool.{cases_Bool}
use Rattle.tb_io.specs.Lines.{has_line_feed, is_line_feed, line_of, rest_of}

-- a first byte that is no line feed, and no line feed after it
pub feed-first : (b : ℕ) (bs : List ℕ) → has_line_feed (b ∷ bs) ≡ false → is_line_feed b ≡ false
feed-first b bs h = elim (cases_Bool (is_line_feed b)) [
  | inl t ↦ absurd (let e : true ≡ false = rw t at h in cc)
  | inr f ↦ f
]

pub feed-rest : (b : ℕ) (bs : List ℕ) → has_line_feed (b ∷ bs) ≡ false → has_line_feed bs ≡ false
feed-rest b bs h = let f = feed-first b bs h in rw f at h

-- a line that a line feed ends
pub line_of-feed : (xs ys : List ℕ) → has_line_feed xs ≡ false → line_of (xs ++ 10 ∷ ys) ≡ xs
line_of-feed [] ys h = refl
line_of-feed (x ∷ xs) ys h = rw (feed-first x xs h) (ap (λ zs. x ∷ zs) (line_of-feed xs ys (feed-rest x xs h)))

pub rest_of-feed : (xs ys : List ℕ) → has_line_feed xs ≡ false → rest_of (xs ++ 10 ∷ ys) ≡ ys
rest_of-feed [] ys h = refl
rest_of-feed (x ∷ xs) ys h = rw (feed-first x xs h) (rest_of-feed xs ys (feed-rest x xs h))

-- a line feed between other bytes is among them
pub has-feed : (xs ys : List ℕ) → has_line_feed (xs ++ 10 ∷ ys) ≡ true
has-feed [] ys = refl
has-feed (x ∷ xs) ys = elim (cases_Bool (is_line_feed x)) [
  | inl t ↦ rw t refl
  | inr f ↦ rw f (has-feed xs ys)
]

-- a line without a line feed
pub line_of-all : (xs : List ℕ) → has_line_feed xs ≡ false → line_of xs ≡ xs
line_of-all [] h = refl
line_of-all (x ∷ xs) h = rw (feed-first x xs h) (ap (λ zs. x ∷ zs) (line_of-all xs (feed-rest x xs h)))

pub rest_of-all : (xs : List ℕ) → has_line_feed xs ≡ false → rest_of xs ≡ []
rest_of-all [] h = refl
rest_of-all (x ∷ xs) h = rw (feed-first x xs h) (rest_of-all xs (feed-rest x xs h))

-- bytes without a line feed begin the first line
pub line_of-longer : (xs ys : List ℕ) → has_line_feed xs ≡ false → length xs ≤ length (line_of (xs ++ ys))
line_of-longer [] ys h = omega arith
line_of-longer (x ∷ xs) ys h = let more = line_of-longer xs ys (feed-rest x xs h) in rw (feed-first x xs h) (omega (arith, more))

-- a place of a byte that is a line feed and the places before it, at which there is none
pub no_feed : (xs : List ℕ) → ((k : ℕ) → k < length xs → is_line_feed (get_or xs k 0) ≡ false) → has_line_feed xs ≡ false
no_feed [] h = refl
no_feed (x ∷ xs) h = let here : is_line_feed x ≡ false = h 0 (omega arith) in rw here (no_feed xs (λ k lt. h (suc k) (omega arith)))

pub feed_free : (xs ys : List ℕ) → has_line_feed xs ≡ false → has_line_feed ys ≡ false → has_line_feed (xs ++ ys) ≡ false
feed_free [] ys h k = k
feed_free (x ∷ xs) ys h k = rw (feed-first x xs h) (feed_free xs ys (feed-rest x xs h) k)

-- a line feed stays among bytes where more come, the first line then stays, and what follows it grows
more_feeds : (x : ℕ) (xs : List ℕ) → is_line_feed x ≡ false → has_line_feed (x ∷ xs) ≡ true → has_line_feed xs ≡ true
more_feeds x xs f h = rw f at h

pub has-feed-more : (xs ys : List ℕ) → has_line_feed xs ≡ true → has_line_feed (xs ++ ys) ≡ true
has-feed-more [] ys h = absurd (cc)
has-feed-more (x ∷ xs) ys h = elim (cases_Bool (is_line_feed x)) [
  | inl t ↦ rw t refl
  | inr f ↦ rw f (has-feed-more xs ys (more_feeds x xs f h))
]

pub line_of-more : (xs ys : List ℕ) → has_line_feed xs ≡ true → line_of (xs ++ ys) ≡ line_of xs
line_of-more [] ys h = absurd (cc)
line_of-more (x ∷ xs) ys h = elim (cases_Bool (is_line_feed x)) [
  | inl t ↦ rw t refl
  | inr f ↦ rw f (ap (λ zs. x ∷ zs) (line_of-more xs ys (more_feeds x xs f h)))
]

pub rest_of-more : (xs ys : List ℕ) → has_line_feed xs ≡ true → rest_of (xs ++ ys) ≡ rest_of xs ++ ys
rest_of-more [] ys h = absurd (cc)
rest_of-more (x ∷ xs) ys h = elim (cases_Bool (is_line_feed x)) [
  | inl t ↦ rw t refl
  | inr f ↦ rw f (rest_of-more xs ys (more_feeds x xs f h))
]

-- what follows the first line is no longer than all
pub rest_of-short : (xs : List ℕ) → length (rest_of xs) ≤ length xs
rest_of-short [] = omega arith
rest_of-short (x ∷ xs) = elim (cases_Bool (is_line_feed x)) [
  | inl t ↦ rw t (omega arith)
  | inr f ↦ let short = rest_of-short xs in rw f (omega (arith, short))
]
