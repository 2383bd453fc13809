-- Lines that were cut off a stream, one after another, and what a source gave until then.
use Rattle.std.proofs.Common.{◌≡◌, ◌≢◌, ◌∙◌, sym, ap, subst, refl, ℕ, zero, suc, ◌+◌, ◌<◌, ◌≤◌, Bool, true, false, not, List, [], ◌∷◌, ◌++◌, length, Option, None, Some, inl, inr, arith, length-append}
use Rattle.std.proofs.lemmas.Bool.{cases_Bool, lt-ltb}
use Rattle.std.proofs.lemmas.List.{length-replicate, length_push}
use Rattle.std.specs.Prelude.{replicate}
use Rattle.tb_io.specs.declared.limits.TheConstants.{MOST_LINE_BYTES}
use Rattle.tb_io.proofs.LineLemmas.{feed-first, feed-rest, has-feed-more, line_of-more, rest_of-more, rest_of-short}
use Rattle.tb_io.proofs.NextLemmas.{Gave-more, Gave-none}
use Rattle.tb_io.specs.Lines.{has_line_feed, is_line_feed, line_of, rest_of}
use Rattle.tb_lines.specs.Streams.{after_lines, is_too_long, lines_of, whole_lines_of, with_first_byte, with_first_byte_if_any}
use Rattle.tb_io.specs.NextLines.{IsNextOf, Takes}
use Rattle.tb_lines.specs.Sessions.{AreLinesGiven, AreLinesOf, GaveAtMost}
use Rattle.tb_io.specs.Sources.{Gave, IsAtEnd, stream_of}
use Rattle.tb_io.specs.declared.line_reader.NextLine.{NextLine}
use Rattle.tb_io.specs.declared.line_reader.NextLine.TheVariants.{Line, End, TooLong, ReadFault}

-- these lines are cut off the stream, one after another, and this is left; a line comes only where
-- the stream is so
abbrev CutsWhere : (List ℕ → Type 0) → List ℕ → List (List ℕ) → List ℕ → Type 0
CutsWhere Goes stream [] rest = rest ≡ stream
CutsWhere Goes stream (line ∷ lines) rest = Goes stream × (line ≡ line_of stream) × CutsWhere Goes (rest_of stream) lines rest

-- any lines, and whole ones
abbrev pub Cuts : List ℕ → List (List ℕ) → List ℕ → Type 0
Cuts stream lines rest = CutsWhere (λ s. s ≢ []) stream lines rest

abbrev pub WholeCuts : List ℕ → List (List ℕ) → List ℕ → Type 0
WholeCuts stream lines rest = CutsWhere (λ s. has_line_feed s ≡ true) stream lines rest

-- one line more
cuts_more : (Goes : List ℕ → Type 0) (stream : List ℕ) (lines : List (List ℕ)) (rest line next : List ℕ) → CutsWhere Goes stream lines rest → Goes rest → line ≡ line_of rest → next ≡ rest_of rest
    → CutsWhere Goes stream (lines ++ line ∷ []) next
cuts_more Goes stream [] rest line next e goes is_line is_next = (subst Goes e goes, is_line ∙ ap line_of e, is_next ∙ ap rest_of e)
cuts_more Goes stream (l ∷ lines) rest line next (first, is_first, others) goes is_line is_next = (first, is_first, cuts_more Goes (rest_of stream) lines rest line next others goes is_line is_next)

-- all lines of a stream are its first and those of what follows
lines_of-step : (stream : List ℕ) → stream ≢ [] → lines_of stream ≡ line_of stream ∷ lines_of (rest_of stream)
lines_of-step [] some = absurd (some refl)
lines_of-step (b ∷ []) some = elim (cases_Bool (is_line_feed b)) [
  | inl t ↦ rw t refl
  | inr f ↦ rw f refl
]
lines_of-step (b ∷ c ∷ bytes) some =
    let more = lines_of-step (c ∷ bytes) (λ e. (cc)) in
    elim (cases_Bool (is_line_feed b)) [
      | inl t ↦ rw t refl
      | inr f ↦ rw f (ap (with_first_byte b) more)
    ]

-- all lines are those that were cut off and those of what is left
Cuts-lines : (stream : List ℕ) (lines : List (List ℕ)) (rest : List ℕ) → Cuts stream lines rest → lines_of stream ≡ lines ++ lines_of rest
Cuts-lines stream [] rest e = ap lines_of (sym e)
Cuts-lines stream (line ∷ lines) rest (some, is_line, others) =
    lines_of-step stream some ∙ ap (λ l. l ∷ lines_of (rest_of stream)) (sym is_line) ∙ ap (λ ls. line ∷ ls) (Cuts-lines (rest_of stream) lines rest others)

-- whole lines that are cut off stay so where more bytes come
whole_more : (bytes : List ℕ) (lines : List (List ℕ)) (rest more : List ℕ) → WholeCuts bytes lines rest → WholeCuts (bytes ++ more) lines (rest ++ more)
whole_more bytes [] rest more e = ap (λ r. r ++ more) e
whole_more bytes (line ∷ lines) rest more (feed, is_line, others) =
    (has-feed-more bytes more feed, is_line ∙ sym (line_of-more bytes more feed), subst (λ bs. WholeCuts bs lines (rest ++ more)) (sym (rest_of-more bytes more feed)) (whole_more (rest_of bytes) lines rest more others))

-- they are all whole lines, where no line feed follows
whole_step : (bytes : List ℕ) → has_line_feed bytes ≡ true → whole_lines_of bytes ≡ line_of bytes ∷ whole_lines_of (rest_of bytes)
whole_step [] h = absurd (cc)
whole_step (b ∷ bytes) h = elim (cases_Bool (is_line_feed b)) [
  | inl t ↦ rw t refl
  | inr f ↦ rw f (ap (with_first_byte_if_any b) (whole_step bytes (let more = rw f at h in more)))
]

no_whole_line : (bytes : List ℕ) → has_line_feed bytes ≡ false → whole_lines_of bytes ≡ []
no_whole_line [] h = refl
no_whole_line (b ∷ bytes) h = rw (feed-first b bytes h) (ap (with_first_byte_if_any b) (no_whole_line bytes (feed-rest b bytes h)))

whole_lines : (bytes : List ℕ) (lines : List (List ℕ)) (rest : List ℕ) → WholeCuts bytes lines rest → has_line_feed rest ≡ false → lines ≡ whole_lines_of bytes
whole_lines bytes [] rest e none = sym (no_whole_line bytes (ap has_line_feed (sym e) ∙ none))
whole_lines bytes (line ∷ lines) rest (feed, is_line, others) none =
    ap (λ l. l ∷ lines) is_line ∙ ap (λ ls. line_of bytes ∷ ls) (whole_lines (rest_of bytes) lines rest others none) ∙ sym (whole_step bytes feed)

-- and what is left follows as many lines
whole_after : (bytes : List ℕ) (lines : List (List ℕ)) (rest : List ℕ) → WholeCuts bytes lines rest → after_lines (length lines) bytes ≡ rest
whole_after bytes [] rest e = sym e
whole_after bytes (line ∷ lines) rest (feed, is_line, others) = whole_after (rest_of bytes) lines rest others

after_more : (n : ℕ) (bytes : List ℕ) → after_lines n (rest_of bytes) ≡ rest_of (after_lines n bytes)
after_more zero bytes = refl
after_more (suc n) bytes = after_more n (rest_of bytes)

-- what a source gave so far: the lines that were cut off, and then what was read ahead; each line
-- was whole, or the reader has ended, and then nothing is left
pub record IsGiven (left now : Option (List ℕ)) (lines : List (List ℕ)) (ahead : List ℕ) (ended : Bool) : Type 0 where
  pub given : List ℕ
  pub gave : Gave left now given
  pub after : after_lines (length lines) given ≡ ahead
  pub few : length ahead ≤ MOST_LINE_BYTES + 1
  pub whole : ended ≡ false → WholeCuts given lines ahead
  pub at_end : ended ≡ true → IsAtEnd (stream_of ahead now)

-- nothing yet
pub given-none : (left : Option (List ℕ)) (ahead : List ℕ) (ended : Bool) → ahead ≡ [] → ended ≡ false → IsGiven left left [] ahead ended
given-none left ahead ended nil goes = record {
  given = [];
  gave = Gave-none left;
  after = sym nil;
  few = omega (arith, ap length nil);
  whole = λ e. nil;
  at_end = λ e. absurd (cc);
}

pub given-few : (left now : Option (List ℕ)) (lines : List (List ℕ)) (ahead : List ℕ) (ended : Bool) → IsGiven left now lines ahead ended → GaveAtMost left now (length lines)
given-few left now lines ahead ended so_far = (so_far.given, so_far.gave, omega (arith, ap length so_far.after, so_far.few))

-- a call of a reader that hasn't ended
module _ (left now then : Option (List ℕ)) (lines : List (List ℕ)) (ahead line new : List ℕ) (had ended : Bool) (so_far : IsGiven left now lines ahead had) (goes : had ≡ false) where
  module _ (next : NextLine) (takes : Takes next now then ahead line new ended) where
    more_gave : Gave left then (so_far.given ++ takes.given)
    more_gave = Gave-more left now then so_far.given takes.given so_far.gave takes.gave

    more_cuts : WholeCuts (so_far.given ++ takes.given) lines (ahead ++ takes.given)
    more_cuts = whole_more so_far.given lines ahead takes.given (so_far.whole goes)

    more_after : after_lines (length lines) (so_far.given ++ takes.given) ≡ ahead ++ takes.given
    more_after = whole_after (so_far.given ++ takes.given) lines (ahead ++ takes.given) more_cuts

    -- whatever it returns
    pub given-ends : GaveAtMost left then (length lines)
    given-ends = (so_far.given ++ takes.given, more_gave, omega (arith, ap length more_after, length-append ahead takes.given, takes.few))

  -- where it returns a line
  pub given-more : Takes Line now then ahead line new ended → (ended ≡ true → IsAtEnd (stream_of new then)) → IsGiven left then (lines ++ line ∷ []) new ended
  given-more takes at_end =
      let (some, is_line, short, is_rest) = takes.is_next in
      let many : length (lines ++ line ∷ []) ≡ suc (length lines) = omega (arith, length_push lines line) in
      record {
        given = so_far.given ++ takes.given;
        gave = more_gave Line takes;
        after = ap (λ n. after_lines n (so_far.given ++ takes.given)) many ∙ after_more (length lines) (so_far.given ++ takes.given) ∙ ap rest_of (more_after Line takes) ∙ sym is_rest;
        few = omega (arith, ap length is_rest, rest_of-short (ahead ++ takes.given), length-append ahead takes.given, takes.few);
        whole = λ still. cuts_more (λ s. has_line_feed s ≡ true) (so_far.given ++ takes.given) lines (ahead ++ takes.given) line new (more_cuts Line takes) (is_feed (has_line_feed (ahead ++ takes.given)) (sym takes.has_ended ∙ still)) is_line is_rest;
        at_end = at_end;
      }
    where
      is_feed : (feed : Bool) → not feed ≡ false → feed ≡ true
      is_feed true h = refl
      is_feed false h = absurd (cc)

  -- where a fault came
  pub given-broken : Takes ReadFault now then ahead line new ended → AreLinesGiven left then lines
  given-broken takes =
      let none : has_line_feed (ahead ++ takes.given) ≡ false = ap has_line_feed (sym takes.is_next) ∙ takes.no_feed refl in
      (so_far.given ++ takes.given, more_gave ReadFault takes, whole_lines (so_far.given ++ takes.given) lines (ahead ++ takes.given) (more_cuts ReadFault takes) none)

-- the same of a stream, where the source tells it
abbrev pub CutsOf : Option (List ℕ) → List (List ℕ) → Option (List ℕ) → Type 0
CutsOf None lines now = Unit {0}
CutsOf (Some stream) lines now = (rest : List ℕ) × (now ≡ Some rest) × Cuts stream lines rest

pub CutsOf-none : (left : Option (List ℕ)) → CutsOf left [] (stream_of [] left)
CutsOf-none None = tt
CutsOf-none (Some stream) = (stream, refl, refl)

some_same : (xs ys : List ℕ) → Some xs ≡ Some ys → xs ≡ ys
some_same xs ys e = cc

pub CutsOf-more : (left now after : Option (List ℕ)) (lines : List (List ℕ)) (line : List ℕ) → CutsOf left lines now → IsNextOf Line now line after → CutsOf left (lines ++ line ∷ []) after
CutsOf-more None now after lines line cuts next = tt
CutsOf-more (Some stream) None after lines line (rest, is, cuts) next = absurd (cc)
CutsOf-more (Some stream) (Some s) after lines line (rest, is, cuts) (left, is_after, (some, is_line, short, is_rest)) =
    let same : s ≡ rest = some_same s rest is in
    (left, is_after, cuts_more (λ s. s ≢ []) stream lines rest line left cuts (subst (λ xs. xs ≢ []) same some) (is_line ∙ ap line_of same) (is_rest ∙ ap rest_of same))

-- the lines that were cut off and those of what is left are all lines of the source
pub lines-whole : (left now : Option (List ℕ)) (lines more : List (List ℕ)) → CutsOf left lines now → AreLinesOf now more → AreLinesOf left (lines ++ more)
lines-whole None now lines more cuts are = tt
lines-whole (Some stream) None lines more (rest, is, cuts) are = absurd (cc)
lines-whole (Some stream) (Some s) lines more (rest, is, cuts) are =
    sym (Cuts-lines stream lines rest cuts ∙ ap (λ ls. lines ++ ls) (sym (are ∙ ap lines_of (some_same s rest is))))

-- a line that comes next, and the lines after it
pub lines-next : (now after : Option (List ℕ)) (line : List ℕ) → IsNextOf Line now line after → (more : List (List ℕ)) × AreLinesOf now (line ∷ more)
lines-next None after line next = ([], tt)
lines-next (Some s) after line (left, is_after, (some, is_line, short, is_rest)) =
    (lines_of (rest_of s), ap (λ l. l ∷ lines_of (rest_of s)) is_line ∙ sym (lines_of-step s some))

pub lines-end : (now after : Option (List ℕ)) (line : List ℕ) → IsNextOf End now line after → AreLinesOf now []
lines-end None after line next = tt
lines-end (Some s) after line (left, is_after, (nil, stays)) = sym (ap lines_of nil)

pub lines-any : (now : Option (List ℕ)) → (more : List (List ℕ)) × AreLinesOf now more
lines-any None = ([], tt)
lines-any (Some s) = (lines_of s, refl)

-- a line that is too long, and the lines after it
some_long : (n : ℕ) → (line : List ℕ) × (length line ≡ n)
some_long n = (replicate n 0, length-replicate n 0)

long-line : (s : List ℕ) → MOST_LINE_BYTES < length (line_of s) → s ≢ []
long-line [] h = absurd (omega (arith, h))
long-line (b ∷ s) h = λ e. (cc)

pub lines-long : (now after : Option (List ℕ)) (line : List ℕ) → IsNextOf TooLong now line after → (first : List ℕ) × (more : List (List ℕ)) × (is_too_long first ≡ true) × AreLinesOf now (first ∷ more)
lines-long None after line next =
    let (first, long) = some_long (suc MOST_LINE_BYTES) in
    (first, [], lt-ltb MOST_LINE_BYTES (length first) (omega (arith, long)), tt)
lines-long (Some s) after line (left, is_after, (long, stays)) =
    (line_of s, lines_of (rest_of s), lt-ltb MOST_LINE_BYTES (length (line_of s)) long, sym (lines_of-step s (long-line s long)))

-- at the end nothing is left
pub left-nothing : (now : Option (List ℕ)) (ahead line : List ℕ) (rest : Option (List ℕ)) → IsNextOf End now line (stream_of ahead rest) → IsAtEnd rest
left-nothing now ahead line None next = tt
left-nothing None ahead line (Some rest) next = absurd (cc)
left-nothing (Some s) ahead line (Some rest) (left, is_after, (nil, stays)) =
    let none : [] ≡ ahead ++ rest = sym nil ∙ sym stays ∙ sym (some_same (ahead ++ rest) left is_after) in
    no_rest ahead rest none
  where
    no_rest : (xs ys : List ℕ) → [] ≡ xs ++ ys → ys ≡ []
    no_rest [] ys e = sym e
    no_rest (x ∷ xs) ys e = absurd (cc)

-- where nothing is left the next is the end, and all stays
pub next-none : (ahead line : List ℕ) (now : Option (List ℕ)) → IsAtEnd (stream_of ahead now) → IsNextOf End (stream_of ahead now) line (stream_of ahead now)
next-none ahead line None at_end = refl
next-none ahead line (Some left) at_end = (ahead ++ left, refl, (at_end, refl))

-- lines of which a beginning is cut off aren't that beginning
pub lines-longer : (read more : List (List ℕ)) (line : List ℕ) → read ≡ read ++ line ∷ more → ⊥
lines-longer read more line e = omega (arith, ap length e, length-append read (line ∷ more))
