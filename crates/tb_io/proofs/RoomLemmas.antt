-- Bytes in room: parts of it, line feeds by their places, and what a read adds.
use Rattle.std.proofs.Common.{◌≡◌, ◌∙◌, sym, ap, subst, ℕ, ◌+◌, ◌-◌, ◌<◌, ◌≤◌, false, List, ◌++◌, length, take, drop, get_or, Option, None, Some, arith, length-take-le, get_or-take, get_or-drop, add-zero, length-take}
use Rattle.std.proofs.lemmas.Bool.{false_from_ne_true, eqb-true}
use Rattle.std.proofs.lemmas.List.{drop-drop, drop-take, take-append-drop, length-drop}
use Rattle.std.proofs.Math.Seq.{take-add}
use Rattle.std.specs.List.{slice_range}
use Rattle.memchr.specs.Find.{IsFirstByte, NoneBefore, Nowhere, Passes, is_byte}
use Rattle.tb_io.specs.Lines.{has_line_feed}
use Rattle.tb_io.specs.Rooms.{Fills, IsFirstFeed}
use Rattle.tb_io.specs.Sources.{Reads, given_by}
use Rattle.tb_io.specs.declared.read.Read.{Read}
use Rattle.tb_io.specs.declared.read.Read.TheVariants.{Got, End, Failed}
use Rattle.tb_io.proofs.LineLemmas.{feed_free, no_feed}

-- a part without some bytes in front
pub part-drop : (xs : List ℕ) (a b k : ℕ) → a + k ≤ b → drop k (slice_range xs a b) ≡ slice_range xs (a + k) b
part-drop xs a b k h =
    let e : b - a ≡ k + (b - (a + k)) = omega arith in
    rw e (drop-take k (b - (a + k)) (drop a xs) ∙ ap (λ ys. take (b - (a + k)) ys) (drop-drop k a xs))

-- no line feed among the bytes that come after those that have none
feeds_none : (ahead hay : List ℕ) (known : ℕ) → hay ≡ drop known ahead → has_line_feed (take known ahead) ≡ false
    → Nowhere (Passes (is_byte 10) hay) 0 (length hay) → has_line_feed ahead ≡ false
feeds_none ahead hay known e before none =
    let after : has_line_feed hay ≡ false = no_feed hay (λ k lt. false_from_ne_true _ (none k (omega arith) lt)) in
    let both : has_line_feed (take known ahead ++ drop known ahead) ≡ false = feed_free (take known ahead) (drop known ahead) before (rw (← e) after) in
    subst (λ bs. has_line_feed bs ≡ false) (take-append-drop known ahead) both

-- the first line feed among them
feeds_some : (ahead hay : List ℕ) (known k : ℕ) → hay ≡ drop known ahead → known ≤ length ahead → has_line_feed (take known ahead) ≡ false
    → NoneBefore (Passes (is_byte 10) hay) 0 (length hay) k → Passes (is_byte 10) hay k → IsFirstFeed ahead (Some (known + k))
feeds_some ahead hay known k e within before nb here =
    let high : k < length (drop known ahead) = subst (λ hs. k < length hs) e nb.high in
    let byte : get_or hay k 0 ≡ 10 = eqb-true _ _ here in
    let place : get_or ahead (known + k) 0 ≡ 10 = sym (get_or-drop known ahead k 0) ∙ ap (λ hs. get_or hs k 0) (sym e) ∙ byte in
    let after : has_line_feed (take k hay) ≡ false = no_feed (take k hay) (λ j lt.
    let short : j < k = omega (arith, length-take-le k hay (omega (arith, nb.high)), lt) in
    rw (get_or-take k hay j 0 short) (false_from_ne_true _ (nb.before j (omega arith) short))) in
    let both : has_line_feed (take known ahead ++ take k (drop known ahead)) ≡ false = feed_free (take known ahead) (take k (drop known ahead)) before (subst (λ hs. has_line_feed (take k hs) ≡ false) e after) in
    (omega (arith, length-drop known ahead, high), place, rw (take-add known k ahead) both)

-- the first line feed from some place on
pub feeds-some : (ahead hay : List ℕ) (known k : ℕ) → hay ≡ drop known ahead → known ≤ length ahead → has_line_feed (take known ahead) ≡ false
    → IsFirstByte (is_byte 10) hay (Some k) → IsFirstFeed ahead (Some (known + k))
feeds-some ahead hay known k e within before found = feeds_some ahead hay known k e within before found.0 found.1

pub feeds-none : (ahead hay : List ℕ) (known : ℕ) → hay ≡ drop known ahead → has_line_feed (take known ahead) ≡ false
    → IsFirstByte (is_byte 10) hay None → IsFirstFeed ahead None
feeds-none ahead hay known e before none = feeds_none ahead hay known e before none

-- a part that grows at its end
part-more : (xs : List ℕ) (a b n : ℕ) → a ≤ b → slice_range xs a (b + n) ≡ slice_range xs a b ++ take n (drop b xs)
part-more xs a b n le =
    let e : b + n - a ≡ (b - a) + n = omega arith in
    let f : a + (b - a) ≡ b = omega arith in
    rw e (take-add (b - a) n (drop a xs) ∙ ap (λ ys. take (b - a) (drop a xs) ++ take n ys) (drop-drop (b - a) a xs ∙ ap (λ k. drop k xs) f))

-- a part before a place up to which nothing changed
part-same : (xs ys : List ℕ) (a b : ℕ) → a ≤ b → take b xs ≡ take b ys → slice_range xs a b ≡ slice_range ys a b
part-same xs ys a b le e =
    let f : a + (b - a) ≡ b = omega arith in
    sym (drop-take a (b - a) xs) ∙ ap (λ k. drop a (take k xs)) f ∙ ap (λ zs. drop a zs) e ∙ ap (λ k. drop a (take k ys)) (sym f) ∙ drop-take a (b - a) ys

-- what a read behind a part makes of it
pub fills : (read : Read) (before after : Option (List ℕ)) (old mid new : List ℕ) (a b : ℕ) → a ≤ b → slice_range mid a b ≡ old → take b new ≡ take b mid
    → Reads read before after (drop b new) → Fills read before after old (slice_range new a (b + given_by read))
fills (Got n) before after old mid new a b le here same (some, few, gave) =
    let long : length (take n (drop b new)) ≡ n = length-take-le n (drop b new) few in
    (take n (drop b new), omega (arith, long, some), part-more new a b n le ∙ ap (λ xs. xs ++ take n (drop b new)) (part-same new mid a b le same ∙ here), gave)
fills End before after old mid new a b le here same (at_end, stays) =
    (ap (λ k. slice_range new a k) (add-zero b) ∙ part-same new mid a b le same ∙ here, at_end, stays)
fills Failed before after old mid new a b le here same stays =
    (ap (λ k. slice_range new a k) (add-zero b) ∙ part-same new mid a b le same ∙ here, stays)

-- and where it ends
pub ends_within : (read : Read) (before after : Option (List ℕ)) (new : List ℕ) (b : ℕ) → b < length new → Reads read before after (drop b new) → b + given_by read ≤ length new
ends_within (Got n) before after new b lt (some, few, gave) = omega (arith, length-drop b new, few)
ends_within End before after new b lt h = omega arith
ends_within Failed before after new b lt h = omega arith

-- no part is longer than from its start to its end
part_length : (xs : List ℕ) (a b : ℕ) → length (slice_range xs a b) ≤ b - a
part_length xs a b = omega (arith, length-take (b - a) (drop a xs))

-- what follows some bytes of a part
pub part-after : (xs ahead : List ℕ) (a b k : ℕ) → slice_range xs a b ≡ ahead → a ≤ b → k ≤ length ahead → slice_range xs (a + k) b ≡ drop k ahead
part-after xs ahead a b k e le few =
    let short : k ≤ length (slice_range xs a b) = rw e few in
    sym (part-drop xs a b k (omega (arith, part_length xs a b, short, le))) ∙ ap (λ ys. drop k ys) e
