-- What comes next, from the bytes that were read ahead and those that the source has left.
use Rattle.std.proofs.Common.{◌≡◌, ◌≢◌, ◌∙◌, sym, ap, subst, refl, ℕ, ◌+◌, ◌<◌, ◌≤◌, Bool, true, false, not, List, [], ◌∷◌, ◌++◌, length, take, drop, get_or, Option, None, Some, arith, append_assoc, append-nil, length-append, length-take-le}
use Rattle.std.proofs.lemmas.List.{take-append-drop, drop_more, drop_all, take_all, nil_from_length}
use Rattle.std.proofs.Math.Seq.{take-append_seam}
use Rattle.tb_io.specs.Lines.{has_line_feed, line_of, rest_of}
use Rattle.tb_io.specs.NextLines.{IsNext, IsNextOf, Takes, has_ended}
use Rattle.tb_io.specs.Rooms.{Fills, IsFirstFeed}
use Rattle.tb_io.specs.Sources.{Gave, IsAtEnd, stream_of}
use Rattle.tb_io.specs.declared.room.TheConstants.{ROOM}
use Rattle.tb_io.specs.declared.line_reader.NextLine.{NextLine}
use Rattle.tb_io.specs.declared.line_reader.NextLine.TheVariants.{Line, End, TooLong, ReadFault}
use Rattle.tb_io.specs.declared.read.Read.TheVariants as read
use Rattle.tb_io.proofs.LineLemmas.{has-feed, line_of-all, line_of-feed, line_of-longer, rest_of-all, rest_of-feed}

-- a list of some bytes isn't empty
some_bytes : (xs ys : List ℕ) → 0 < length xs → (xs ++ ys) ≢ []
some_bytes [] ys h = λ e. omega arith
some_bytes (x ∷ xs) ys h = λ e. (cc)

-- the bytes read ahead, cut at the first line feed
cut_at : (ahead left : List ℕ) (i : ℕ) → i < length ahead → get_or ahead i 0 ≡ 10 → ahead ++ left ≡ take i ahead ++ 10 ∷ (drop (i + 1) ahead ++ left)
cut_at ahead left i lt byte =
    let rest : drop i ahead ≡ 10 ∷ drop (i + 1) ahead = drop_more ahead i 0 lt ∙ ap (λ b. b ∷ drop (i + 1) ahead) byte in
    let whole : ahead ≡ take i ahead ++ 10 ∷ drop (i + 1) ahead = sym (take-append-drop i ahead) ∙ ap (λ ys. take i ahead ++ ys) rest in
    ap (λ xs. xs ++ left) whole ∙ append_assoc (take i ahead) (10 ∷ drop (i + 1) ahead) left

line_here : (ahead : List ℕ) (left : Option (List ℕ)) (i : ℕ) → IsFirstFeed ahead (Some i) → length ahead ≤ ROOM
    → IsNextOf Line (stream_of ahead left) (take i ahead) (stream_of (drop (i + 1) ahead) left)
line_here ahead None i feed few = refl
line_here ahead (Some left) i (lt, byte, none) few =
    let cut = cut_at ahead left i lt byte in
    let line : line_of (ahead ++ left) ≡ take i ahead = ap line_of cut ∙ line_of-feed (take i ahead) (drop (i + 1) ahead ++ left) none in
    let rest : rest_of (ahead ++ left) ≡ drop (i + 1) ahead ++ left = ap rest_of cut ∙ rest_of-feed (take i ahead) (drop (i + 1) ahead ++ left) none in
    (drop (i + 1) ahead ++ left, refl, (some_bytes ahead left (omega (arith, lt)), sym line, omega (arith, length-take-le i ahead (omega (arith, lt)), lt, few), sym rest))

-- there is a line feed where there is a first
feed_there : (ahead : List ℕ) (i : ℕ) → IsFirstFeed ahead (Some i) → has_line_feed ahead ≡ true
feed_there ahead i (lt, byte, none) =
    ap has_line_feed (sym (append-nil ahead) ∙ cut_at ahead [] i lt byte) ∙ has-feed (take i ahead) (drop (i + 1) ahead ++ [])

-- a line that a line feed ends
pub next-line : (ahead : List ℕ) (left stream : Option (List ℕ)) (i : ℕ) (line rest : List ℕ) → stream_of ahead left ≡ stream → IsFirstFeed ahead (Some i) → length ahead ≤ ROOM
    → line ≡ take i ahead → rest ≡ drop (i + 1) ahead → IsNextOf Line stream line (stream_of rest left)
next-line ahead left stream i line rest same feed few is_line is_rest =
    rw (is_line, is_rest) (subst (λ s. IsNextOf Line s (take i ahead) (stream_of (drop (i + 1) ahead) left)) same (line_here ahead left i feed few))

last_here : (ahead : List ℕ) (left : Option (List ℕ)) → has_line_feed ahead ≡ false → 0 < length ahead → length ahead < ROOM → IsAtEnd left
    → IsNextOf Line (stream_of ahead left) ahead (stream_of [] left)
last_here ahead None none some few at_end = refl
last_here ahead (Some left) none some few at_end =
    let all : ahead ++ left ≡ ahead = ap (λ ys. ahead ++ ys) at_end ∙ append-nil ahead in
    (left, refl, (some_bytes ahead left some, sym (ap line_of all ∙ line_of-all ahead none), omega (arith, few), at_end ∙ sym (ap rest_of all ∙ rest_of-all ahead none)))

-- a last line without a line feed
pub next-last : (ahead : List ℕ) (left after stream : Option (List ℕ)) (known : ℕ) (new line rest : List ℕ) → stream_of ahead left ≡ stream → has_line_feed ahead ≡ false
    → known ≡ length ahead → known ≢ 0 → known ≢ ROOM → known ≤ ROOM → Fills read.End left after ahead new
    → line ≡ take known new → rest ≡ drop (known + 0) new → IsNextOf Line stream line (stream_of rest after)
next-last ahead left after stream known new line rest same none is_known some not_full few (is_new, at_end, stays) is_line is_rest =
    let is_all : line ≡ ahead = is_line ∙ ap (λ xs. take known xs) is_new ∙ take_all known ahead (omega (arith, is_known)) in
    let is_nil : rest ≡ [] = is_rest ∙ ap (λ xs. drop (known + 0) xs) is_new ∙ drop_all (known + 0) ahead (omega (arith, is_known)) in
    rw (is_all, is_nil, stays) (subst (λ s. IsNextOf Line s ahead (stream_of [] left)) same (last_here ahead left none (omega (arith, is_known, some)) (omega (arith, is_known, not_full, few)) at_end))

end_here : (left : Option (List ℕ)) (line : List ℕ) → IsAtEnd left → IsNextOf End (stream_of [] left) line (stream_of [] left)
end_here None line at_end = refl
end_here (Some left) line at_end = (left, refl, (at_end, refl))

-- the end
pub next-end : (ahead : List ℕ) (left after stream : Option (List ℕ)) (new line : List ℕ) → stream_of ahead left ≡ stream → length ahead ≡ 0
    → Fills read.End left after ahead new → IsNextOf End stream line (stream_of new after)
next-end ahead left after stream new line same empty (is_new, at_end, stays) =
    let nil : ahead ≡ [] = nil_from_length ahead empty in
    rw (is_new, stays, nil) (subst (λ s. IsNextOf End s line (stream_of [] left)) (ap (λ xs. stream_of xs left) (sym nil) ∙ same) (end_here left line at_end))

long_here : (ahead line : List ℕ) (left : Option (List ℕ)) → has_line_feed ahead ≡ false → length ahead ≡ ROOM → IsNextOf TooLong (stream_of ahead left) line (stream_of ahead left)
long_here ahead line None none full = refl
long_here ahead line (Some left) none full = (ahead ++ left, refl, (omega (arith, line_of-longer ahead left none, full), refl))

-- a line that is too long
pub next-long : (ahead line : List ℕ) (left stream : Option (List ℕ)) → stream_of ahead left ≡ stream → has_line_feed ahead ≡ false → length ahead ≡ ROOM → IsNextOf TooLong stream line (stream_of ahead left)
next-long ahead line left stream same none full = subst (λ s. IsNextOf TooLong s line (stream_of ahead left)) same (long_here ahead line left none full)

fault_here : (stream : Option (List ℕ)) (line : List ℕ) → IsNextOf ReadFault stream line stream
fault_here None line = refl
fault_here (Some left) line = (left, refl, refl)

-- a fault
pub next-fault : (ahead : List ℕ) (left after stream : Option (List ℕ)) (new line : List ℕ) → stream_of ahead left ≡ stream → Fills read.Failed left after ahead new → IsNextOf ReadFault stream line (stream_of new after)
next-fault ahead left after stream new line same (is_new, stays) = rw (is_new, stays) (subst (λ s. IsNextOf ReadFault s line (stream_of ahead left)) same (fault_here (stream_of ahead left) line))

-- what was gathered since the call: bytes that the source gave, behind those read ahead at the call
pub record Gathered (before after : Option (List ℕ)) (old new : List ℕ) : Type 0 where
  pub given : List ℕ
  pub gave : Gave before after given
  pub whole : new ≡ old ++ given

pub Gave-none : (left : Option (List ℕ)) → Gave left left []
Gave-none None = refl
Gave-none (Some left) = refl

pub Gave-more : (a b c : Option (List ℕ)) (xs ys : List ℕ) → Gave a b xs → Gave b c ys → Gave a c (xs ++ ys)
Gave-more None None c xs ys h k = k
Gave-more None (Some b) c xs ys h k = absurd (cc)
Gave-more (Some a) None c xs ys h k = absurd h
Gave-more (Some a) (Some b) None xs ys h k = absurd k
Gave-more (Some a) (Some b) (Some c) xs ys h k = h ∙ ap (λ bs. xs ++ bs) k ∙ sym (append_assoc xs ys c)

pub gathered-none : (left : Option (List ℕ)) (ahead : List ℕ) → Gathered left left ahead ahead
gathered-none left ahead = record { given = []; gave = Gave-none left; whole = sym (append-nil ahead) }

pub gathered-more : (n : ℕ) (before after later : Option (List ℕ)) (old ahead new : List ℕ) → Gathered before after old ahead → Fills (read.Got n) after later ahead new → Gathered before later old new
gathered-more n before after later old ahead new so_far (given, some, is_new, gave) = record {
  given = so_far.given ++ given;
  gave = Gave-more before after later so_far.given given so_far.gave gave;
  whole = is_new ∙ ap (λ xs. xs ++ given) so_far.whole ∙ append_assoc old so_far.given given;
}

-- so no byte of the stream is lost
pub same-stream : (before after : Option (List ℕ)) (old new : List ℕ) → Gathered before after old new → stream_of new after ≡ stream_of old before
same-stream None None old new h = refl
same-stream None (Some after) old new h = absurd (let e : Some after ≡ None = h.gave in cc)
same-stream (Some before) None old new h = absurd h.gave
same-stream (Some before) (Some after) old new h =
    ap Some (ap (λ xs. xs ++ after) h.whole ∙ append_assoc old h.given after ∙ ap (λ xs. old ++ xs) (sym h.gave))

-- what holds of the bytes at hand and nothing after them holds of the bytes at hand
at-hand : (next : NextLine) (ahead line rest : List ℕ) → IsNextOf next (Some (ahead ++ [])) line (Some (rest ++ [])) → IsNext next ahead line rest
at-hand next ahead line rest (left, is_after, so) =
    let same : rest ≡ left = sym (append-nil rest) ∙ some_same (rest ++ []) left is_after in
    subst (λ r. IsNext next ahead line r) (sym same) (subst (λ bs. IsNext next bs line left) (append-nil ahead) so)
  where
    some_same : (xs ys : List ℕ) → Some xs ≡ Some ys → xs ≡ ys
    some_same xs ys e = cc

-- what was taken
module _ (before after later : Option (List ℕ)) (old ahead line new : List ℕ) (ended : Bool) (so_far : Gathered before after old ahead) (stays : later ≡ after) (few : length ahead ≤ ROOM) where
  takes : (next : NextLine) → IsNext next ahead line new → (next ≡ ReadFault → has_line_feed new ≡ false) → ended ≡ has_ended next ahead → Takes next before later old line new ended
  takes next so none is_end = record {
    given = so_far.given;
    gave = subst (λ l. Gave before l so_far.given) (sym stays) so_far.gave;
    few = omega (arith, ap length so_far.whole, length-append old so_far.given, few);
    is_next = subst (λ bs. IsNext next bs line new) so_far.whole so;
    no_feed = none;
    has_ended = is_end ∙ ap (has_ended next) so_far.whole;
  }

  pub takes-line : (i : ℕ) → IsFirstFeed ahead (Some i) → line ≡ take i ahead → new ≡ drop (i + 1) ahead → ended ≡ false → Takes Line before later old line new ended
  takes-line i feed is_line is_new goes =
      takes Line (at-hand Line ahead line new (next-line ahead (Some []) (Some (ahead ++ [])) i line new refl feed few is_line is_new)) (λ e. absurd (cc)) (goes ∙ ap not (sym (feed_there ahead i feed)))

  pub takes-last : (known : ℕ) (here : List ℕ) → has_line_feed ahead ≡ false → known ≡ length ahead → known ≢ 0 → known ≢ ROOM → here ≡ ahead → line ≡ take known here → new ≡ drop (known + 0) here → ended ≡ true → Takes Line before later old line new ended
  takes-last known here none is_known some not_full is_here is_line is_new is_end =
      takes Line (at-hand Line ahead line new (next-last ahead (Some []) (Some []) (Some (ahead ++ [])) known here line new refl none is_known some not_full (omega (arith, is_known, few)) (is_here, refl, refl) is_line is_new)) (λ e. absurd (cc))
      (is_end ∙ ap not (sym none))

  pub takes-end : length ahead ≡ 0 → new ≡ ahead → ended ≡ true → Takes End before later old line new ended
  takes-end empty is_new is_end = takes End (at-hand End ahead line new (next-end ahead (Some []) (Some []) (Some (ahead ++ [])) new line refl empty (is_new, refl, refl))) (λ e. absurd (cc)) is_end

  pub takes-long : has_line_feed ahead ≡ false → length ahead ≡ ROOM → new ≡ ahead → ended ≡ false → Takes TooLong before later old line new ended
  takes-long none full is_new goes =
      takes TooLong (subst (λ r. IsNext TooLong ahead line r) (sym is_new) (at-hand TooLong ahead line ahead (next-long ahead line (Some []) (Some (ahead ++ [])) refl none full))) (λ e. absurd (cc)) goes

  pub takes-fault : has_line_feed ahead ≡ false → new ≡ ahead → ended ≡ false → Takes ReadFault before later old line new ended
  takes-fault none is_new goes = takes ReadFault is_new (λ e. ap has_line_feed is_new ∙ none) goes

-- nothing is left where a read said so, and no bytes were read ahead, or all are the line
all_read : (rest : List ℕ) (before after : Option (List ℕ)) → rest ≡ [] → IsAtEnd before → after ≡ before → IsAtEnd (stream_of rest after)
all_read rest None after nil at_end stays = subst (λ a. IsAtEnd (stream_of rest a)) (sym stays) tt
all_read rest (Some left) after nil at_end stays = subst (λ a. IsAtEnd (stream_of rest a)) (sym stays) (ap (λ r. r ++ left) nil ∙ at_end)

pub end-none : (ahead new : List ℕ) (before after : Option (List ℕ)) → length ahead ≡ 0 → Fills read.End before after ahead new → IsAtEnd (stream_of new after)
end-none ahead new before after empty (is_new, at_end, stays) = all_read new before after (is_new ∙ nil_from_length ahead empty) at_end stays

pub end-last : (ahead new rest : List ℕ) (before after : Option (List ℕ)) (known : ℕ) → known ≡ length ahead → Fills read.End before after ahead new → rest ≡ drop (known + 0) new → IsAtEnd (stream_of rest after)
end-last ahead new rest before after known is_known (is_new, at_end, stays) is_rest =
    all_read rest before after (is_rest ∙ ap (λ xs. drop (known + 0) xs) is_new ∙ drop_all (known + 0) ahead (omega (arith, is_known))) at_end stays

-- the bytes that were known to be no line feeds, and how many they are
pub known-more : (n : ℕ) (before after : Option (List ℕ)) (ahead new : List ℕ) (known : ℕ) → known ≡ length ahead → has_line_feed ahead ≡ false → Fills (read.Got n) before after ahead new
    → (known ≤ length new) × (has_line_feed (take known new) ≡ false) × (length ahead < length new)
known-more n before after ahead new known is_known none (given, some, is_new, gave) =
    let long : length new ≡ length ahead + length given = ap length is_new ∙ length-append ahead given in
    let first : take known new ≡ ahead = ap (λ k. take k new) is_known ∙ ap (λ xs. take (length ahead) xs) is_new ∙ take-append_seam ahead given in
    (omega (arith, long, is_known), ap has_line_feed first ∙ none, omega (arith, long, some))
