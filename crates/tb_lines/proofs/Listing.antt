-- The lines of a list so far.
use Rattle.std.proofs.Common.{◌≡◌, ◌∙◌, sym, ap, subst, ℕ, ◌+◌, ◌<◌, ◌≤◌, List, [], ◌∷◌, ◌++◌, length, take, Option, Some}
use Rattle.std.specs.Prelude.{slice_get}
use Rattle.std.proofs.lemmas.List.{take_all, take_more}
use Rattle.std.proofs.lemmas.Option.{get_or_from_slice_get}
use Rattle.tb_io.specs.Taken.{Took, TookPart}
use Rattle.tb_io.proofs.TakenLemmas.{Took-append, Took-nothing}
use Rattle.tb_io.proofs.Taking.{Took-same}
use Rattle.tb_lines.specs.Lists.{AreAnswered, AreCutShort}
use Rattle.tb_lines.specs.Outputs.{Lead, ReplyValue, text_of}
use Rattle.tb_lines.proofs.Transcribing.{Lead-more, text_of-more}

-- the line at a place, its text, and who asks it
module _ {L W : Type 0} (Asks : L → W → Type 0) (text : L → List ℕ) (lines : List L) (i : ℕ) (who : W) (t : List ℕ) where
  pub same_line : (line : L) × (slice_get lines i ≡ Some line) × Asks line who → (line : L) × (slice_get lines i ≡ Some line) × (t ≡ text line) → (line : L) × (slice_get lines i ≡ Some line) × Asks line who × (t ≡ text line)
  same_line (a, here, asks) (b, there, is) =
      let same : a ≡ b = let e : Some a ≡ Some b = sym here ∙ there in cc in
      (a, here, asks, is ∙ ap text (sym same))

module _ {S L : Type 0} (Step : S → L → ReplyValue → S → Type 0) where
  -- none yet
  pub answered-none : (first last : S) (a : Option (List ℕ)) → last ≡ first → AreAnswered (Lead Step) [] first last a a
  answered-none first last a same = record { replies = []; legal = same; took = Took-nothing a }

  module _ (lines : List L) (i : ℕ) {first old new : S} {a b : Option (List ℕ)} (below : i < length lines) (so_far : AreAnswered (Lead Step) (take i lines) first old a b)
      (line : L) (reply : ReplyValue) (here : slice_get lines i ≡ Some line) (step : Step old line reply new) where
    more-legal : Lead Step first (take (i + 1) lines) (so_far.replies ++ reply ∷ []) new
    more-legal = rw (take_more lines i line below, get_or_from_slice_get lines i line line here) (Lead-more Step (take i lines) line so_far.replies reply first old new so_far.legal step)

    -- the reply to one more line was taken
    pub answered-more : {c : Option (List ℕ)} → Took b c reply.text → AreAnswered (Lead Step) (take (i + 1) lines) first new a c
    answered-more {c} took = record {
      replies = so_far.replies ++ reply ∷ [];
      legal = more-legal;
      took = Took-same a c (text_of so_far.replies ++ reply.text) (text_of (so_far.replies ++ reply ∷ [])) (sym (text_of-more so_far.replies reply)) (Took-append a b c (text_of so_far.replies) reply.text so_far.took took);
    }

    -- a part of it was
    pub answered-cut : {c : Option (List ℕ)} → TookPart b c reply.text → AreCutShort (Lead Step) lines first new a c
    answered-cut {c} (part, took) = record {
      count = i;
      among = below;
      replies = so_far.replies;
      cut = reply;
      legal = more-legal;
      part = part;
      took = Took-append a b c (text_of so_far.replies) (take part reply.text) so_far.took took;
    }

  -- all were answered
  pub answered-all : (lines : List L) (i : ℕ) (first last : S) (a b : Option (List ℕ)) → length lines ≤ i → AreAnswered (Lead Step) (take i lines) first last a b → AreAnswered (Lead Step) lines first last a b
  answered-all lines i first last a b past h = subst (λ (ls : List L). AreAnswered (Lead Step) ls first last a b) (take_all i lines past) h
