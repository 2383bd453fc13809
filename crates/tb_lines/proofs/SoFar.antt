-- The lines so far of a session, and each way in which it ends after them.
use Rattle.std.proofs.Common.{◌≡◌, ◌≢◌, ◌∙◌, sym, ap, subst, refl, ℕ, ◌+◌, ◌<◌, ◌≤◌, Bool, true, false, List, [], ◌∷◌, ◌++◌, length, take, Option, inl, inr, arith, append_assoc, append-nil}
use Rattle.std.proofs.lemmas.Bool.{cases_Bool, or_left, or_right}
use Rattle.std.proofs.lemmas.List.{length_push, map-append}
use Rattle.tb_io.specs.Lines.{without_return}
use Rattle.tb_io.specs.NextLines.{IsNextOf, Takes}
use Rattle.tb_io.specs.Sources.{IsAtEnd, stream_of}
use Rattle.tb_io.specs.Taken.{Took, TookPart}
use Rattle.tb_io.specs.declared.limits.TheConstants.{MOST_LINE_BYTES}
use Rattle.tb_io.specs.declared.line_reader.NextLine.{NextLine}
use Rattle.tb_io.specs.declared.line_reader.NextLine.TheVariants as next_line
use Rattle.tb_io.proofs.TakenLemmas.{Took-append, Took-nothing}
use Rattle.tb_io.proofs.Taking.{Took-same}
use Rattle.tb_lines.specs.Outputs.{Lead, ReplyValue, text_of}
use Rattle.tb_lines.specs.Sessions.{AreLinesOf, GaveAtMost, IsBroken, IsCut, IsCutAtEnd, IsRefused, IsSession, IsWhole, last_words, texts_of, too_long_text}
use Rattle.tb_lines.specs.Streams.{answered_of, before_end, end_by_lines, end_of, is_foreign, is_last, is_quit, is_too_long}
use Rattle.tb_lines.specs.declared.session_end.SessionEnd.{SessionEnd}
use Rattle.tb_lines.specs.declared.session_end.SessionEnd.TheVariants.{Ended, Foreign, LineTooLong, TooManyLines, ReadFault, WriteFault}
use Rattle.tb_lines.specs.declared.session_end.TheConstants.{MOST_LINES}
use Rattle.tb_lines.proofs.Cutting.{CutsOf, CutsOf-more, CutsOf-none, IsGiven, given-broken, given-ends, given-few, given-more, given-none, left-nothing, lines-any, lines-end, lines-long, lines-longer, lines-next, lines-whole, next-none}
use Rattle.tb_lines.proofs.Ends.{answered_full, answered_here, answered_many, answered_part, before_end-append, end_full, end_here, foreign_ends, last_stops, long_ends, long_stops, none_more, one_goes_on, quit_ends}
use Rattle.tb_lines.proofs.Transcribing.{Lead-more, text_of-more}

-- a reader that returned anything but the end had not ended
pub had_not : (had : Bool) (next : NextLine) → (had ≡ true → next ≡ next_line.End) → next ≢ next_line.End → had ≡ false
had_not true next ended other = absurd (other (ended refl))
had_not false next ended other = refl

module _ {S : Type 0} (Step : S → List ℕ → ReplyValue → S → Type 0) where
  -- one reply more
  replies-more : (first now next : S) (lines : List (List ℕ)) (replies : List ReplyValue) (line : List ℕ) (reply : ReplyValue) → Lead Step first (texts_of lines) replies now → Step now (without_return line) reply next
      → Lead Step first (texts_of (lines ++ line ∷ [])) (replies ++ reply ∷ []) next
  replies-more first now next lines replies line reply h step =
      subst (λ ls. Lead Step first ls (replies ++ reply ∷ []) next) (sym (map-append without_return lines (line ∷ []))) (Lead-more Step (texts_of lines) (without_return line) replies reply first now next h step)

  -- the lines so far: none ends a session, each was answered, and the replies were taken
  pub record IsSoFar (left : Option (List ℕ)) (count : ℕ) (now : Option (List ℕ)) (ahead : List ℕ) (ended : Bool) (first last : S) (before after : Option (List ℕ)) : Type 0 where
    pub read : List (List ℕ)
    pub many : length read ≡ count
    pub none_ends : before_end read ≡ read
    pub cuts : CutsOf left read (stream_of ahead now)
    pub given : IsGiven left now read ahead ended
    pub replies : List ReplyValue
    pub legal : Lead Step first (texts_of read) replies last
    pub took : Took before after (text_of replies)

  -- none yet
  pub so_far-none : (left : Option (List ℕ)) (ahead : List ℕ) (ended : Bool) (first last : S) (taken : Option (List ℕ)) → ahead ≡ [] → ended ≡ false → last ≡ first → IsSoFar left 0 left ahead ended first last taken taken
  so_far-none left ahead ended first last taken nil goes same = record {
    read = [];
    many = refl;
    none_ends = refl;
    cuts = subst (λ a. CutsOf left [] (stream_of a left)) (sym nil) (CutsOf-none left);
    given = given-none left ahead ended nil goes;
    replies = [];
    legal = same;
    took = Took-nothing taken;
  }

  module _ {left : Option (List ℕ)} {count : ℕ} {now : Option (List ℕ)} {ahead : List ℕ} {had : Bool} {first last : S} {before after : Option (List ℕ)} (so_far : IsSoFar left count now ahead had first last before after) where
    -- one line more
    pub so_far-more : (next : S) (line new : List ℕ) (ended : Bool) (reply : ReplyValue) (then later : Option (List ℕ)) → had ≡ false → IsNextOf next_line.Line (stream_of ahead now) line (stream_of new then)
        → Takes next_line.Line now then ahead line new ended → (ended ≡ true → IsAtEnd (stream_of new then)) → length line ≤ MOST_LINE_BYTES → is_last (without_return line) ≡ false
        → Step last (without_return line) reply next → Took after later reply.text → IsSoFar left (count + 1) then new ended first next before later
    so_far-more next line new ended reply then later goes comes takes at_end short other step took = record {
      read = so_far.read ++ line ∷ [];
      many = length_push so_far.read line ∙ ap (λ n. n + 1) so_far.many;
      none_ends = none_more so_far.read line so_far.none_ends (one_goes_on line short other);
      cuts = CutsOf-more left (stream_of ahead now) (stream_of new then) so_far.read line so_far.cuts comes;
      given = given-more left now then so_far.read ahead line new had ended so_far.given goes takes at_end;
      replies = so_far.replies ++ reply ∷ [];
      legal = replies-more first last next so_far.read so_far.replies line reply so_far.legal step;
      took = Took-same before later (text_of so_far.replies ++ reply.text) (text_of (so_far.replies ++ reply ∷ [])) (sym (text_of-more so_far.replies reply)) (Took-append before after later (text_of so_far.replies) reply.text so_far.took took);
    }

    -- what the source gave until a call that ends the session
    gave_then : (next : NextLine) (line new : List ℕ) (ended : Bool) (then : Option (List ℕ)) → had ≡ false → Takes next now then ahead line new ended → GaveAtMost left then (length so_far.read)
    gave_then next line new ended then goes takes = given-ends left now then so_far.read ahead line new had ended so_far.given goes next takes

    -- an end at the lines that follow
    ends_at : (more : List (List ℕ)) (then : Option (List ℕ)) (end : SessionEnd) (later : Option (List ℕ)) → count < MOST_LINES → AreLinesOf (stream_of ahead now) more → before_end more ≡ [] → end ≡ end_by_lines more
        → GaveAtMost left then (length so_far.read) → (end ≡ Ended → before_end (so_far.read ++ more) ≡ so_far.read ++ more → IsAtEnd then) → Took after later (last_words end)
        → IsWhole (Lead Step) left then end first last before later
    unfolding answered_of end_of
    ends_at more then end later few are here is_end gave at_end took =
        let few_read : length so_far.read < MOST_LINES = omega (arith, so_far.many, few) in
        let answered = sym (answered_here MOST_LINES so_far.read more so_far.none_ends few_read here) in
        record {
          lines = so_far.read ++ more;
          of_source = lines-whole left (stream_of ahead now) so_far.read more so_far.cuts are;
          at_end = at_end;
          is_end = is_end ∙ sym (end_here MOST_LINES so_far.read more so_far.none_ends few_read here);
          gave = subst (λ ls. GaveAtMost left then (length ls)) answered gave;
          replies = so_far.replies;
          legal = subst (λ ls. Lead Step first (texts_of ls) so_far.replies last) answered so_far.legal;
          took = Took-append before after later (text_of so_far.replies) (last_words end) so_far.took took;
        }

    -- the source ended
    ends_none : (line new : List ℕ) (then : Option (List ℕ)) → count < MOST_LINES → IsNextOf next_line.End (stream_of ahead now) line (stream_of new then) → GaveAtMost left then (length so_far.read)
        → IsWhole (Lead Step) left then Ended first last before after
    ends_none line new then few comes gave =
        ends_at [] then Ended after few (lines-end (stream_of ahead now) (stream_of new then) line comes) refl refl gave (λ e all. left-nothing (stream_of ahead now) new line then comes) (Took-nothing after)

    pub session-end : (line new : List ℕ) (ended : Bool) (then : Option (List ℕ)) → count < MOST_LINES → (had ≡ false → IsNextOf next_line.End (stream_of ahead now) line (stream_of new then))
        → (had ≡ false → Takes next_line.End now then ahead line new ended) → (had ≡ true → then ≡ now) → IsWhole (Lead Step) left then Ended first last before after
    session-end line new ended then few comes takes stays = elim (cases_Bool had) [
      | inl t ↦ subst (λ n. IsWhole (Lead Step) left n Ended first last before after) (sym (stays t))
          (ends_none line ahead now few (next-none ahead line now (so_far.given.at_end t)) (given-few left now so_far.read ahead had so_far.given))
      | inr f ↦ ends_none line new then few (comes f) (gave_then next_line.End line new ended then f (takes f))
    ]

    -- the last line came, by which the session ends without a word
    ends_with_line : (end : SessionEnd) (line new : List ℕ) (ended : Bool) (then : Option (List ℕ)) → count < MOST_LINES → had ≡ false → IsNextOf next_line.Line (stream_of ahead now) line (stream_of new then) → Takes next_line.Line now then ahead line new ended
        → is_last (without_return line) ≡ true → ((more : List (List ℕ)) → end ≡ end_by_lines (line ∷ more)) → last_words end ≡ [] → IsWhole (Lead Step) left then end first last before after
    ends_with_line end line new ended then few goes comes takes is_last ends silent =
        let (more, are) = lines-next (stream_of ahead now) (stream_of new then) line comes in
        let stops : before_end (line ∷ more) ≡ [] = last_stops line more is_last in
        ends_at (line ∷ more) then end after few are stops (ends more) (gave_then next_line.Line line new ended then goes takes)
        (λ e all. absurd (lines-longer so_far.read more line (sym (before_end-append so_far.read (line ∷ more) so_far.none_ends ∙ ap (λ ls. so_far.read ++ ls) stops ∙ append-nil so_far.read) ∙ all))) (Took-same after after [] (last_words end) (sym silent) (Took-nothing after))

    -- a foreign line came
    pub session-foreign : (line new : List ℕ) (ended : Bool) (then : Option (List ℕ)) → count < MOST_LINES → had ≡ false → IsNextOf next_line.Line (stream_of ahead now) line (stream_of new then) → Takes next_line.Line now then ahead line new ended
        → length line ≤ MOST_LINE_BYTES → is_foreign (without_return line) ≡ true → IsWhole (Lead Step) left then Foreign first last before after
    session-foreign line new ended then few goes comes takes short foreign =
        ends_with_line Foreign line new ended then few goes comes takes (or_left (is_foreign (without_return line)) (is_quit (without_return line)) foreign) (λ more. foreign_ends line more short foreign) refl

    -- the line `quit` came
    pub session-quit : (line new : List ℕ) (ended : Bool) (then : Option (List ℕ)) → count < MOST_LINES → had ≡ false → IsNextOf next_line.Line (stream_of ahead now) line (stream_of new then) → Takes next_line.Line now then ahead line new ended
        → length line ≤ MOST_LINE_BYTES → is_foreign (without_return line) ≡ false → is_quit (without_return line) ≡ true → IsWhole (Lead Step) left then Ended first last before after
    session-quit line new ended then few goes comes takes short ours quits =
        ends_with_line Ended line new ended then few goes comes takes (or_right (is_foreign (without_return line)) (is_quit (without_return line)) quits) (λ more. quit_ends line more short ours quits) refl

    -- a line that is too long
    long_cut : (line : List ℕ) (more : List (List ℕ)) (then later : Option (List ℕ)) → count < MOST_LINES → AreLinesOf (stream_of ahead now) (line ∷ more) → is_too_long line ≡ true → GaveAtMost left then (length so_far.read)
        → TookPart after later too_long_text → IsCutAtEnd (Lead Step) left then first last before later
    unfolding answered_of end_of
    long_cut line more then later few are long gave (part, took) =
        let few_read : length so_far.read < MOST_LINES = omega (arith, so_far.many, few) in
        let here = long_stops line more long in
        let answered = sym (answered_here MOST_LINES so_far.read (line ∷ more) so_far.none_ends few_read here) in
        record {
          lines = so_far.read ++ line ∷ more;
          of_source = lines-whole left (stream_of ahead now) so_far.read (line ∷ more) so_far.cuts are;
          is_end = end_here MOST_LINES so_far.read (line ∷ more) so_far.none_ends few_read here ∙ sym (long_ends line more long);
          gave = subst (λ ls. GaveAtMost left then (length ls)) answered gave;
          replies = so_far.replies;
          legal = subst (λ ls. Lead Step first (texts_of ls) so_far.replies last) answered so_far.legal;
          part = part;
          took = Took-append before after later (text_of so_far.replies) (take part too_long_text) so_far.took took;
        }

    pub session-long : (end : SessionEnd) (line new : List ℕ) (ended : Bool) (then later : Option (List ℕ)) → count < MOST_LINES → had ≡ false → IsNextOf next_line.TooLong (stream_of ahead now) line (stream_of new then)
        → Takes next_line.TooLong now then ahead line new ended → IsRefused end after later → IsSession (Lead Step) end left then first last before later
    session-long Ended line new ended then later few goes comes takes refused = absurd refused
    session-long Foreign line new ended then later few goes comes takes refused = absurd refused
    session-long TooManyLines line new ended then later few goes comes takes refused = absurd refused
    session-long ReadFault line new ended then later few goes comes takes refused = absurd refused
    session-long LineTooLong line new ended then later few goes comes takes refused =
        let (long, more, is, are) = lines-long (stream_of ahead now) (stream_of new then) line comes in
        ends_at (long ∷ more) then LineTooLong later few are (long_stops long more is) (long_ends long more is) (gave_then next_line.TooLong line new ended then goes takes) (λ e. absurd (cc)) refused
    session-long WriteFault line new ended then later few goes comes takes refused =
        let (long, more, is, are) = lines-long (stream_of ahead now) (stream_of new then) line comes in
        inr (long_cut long more then later few are is (gave_then next_line.TooLong line new ended then goes takes) refused)

    -- a read failed
    pub session-broken : (line new : List ℕ) (ended : Bool) (then : Option (List ℕ)) → count < MOST_LINES → had ≡ false → Takes next_line.ReadFault now then ahead line new ended → IsBroken (Lead Step) left then first last before after
    session-broken line new ended then few goes takes = record {
      lines = so_far.read;
      given = given-broken left now then so_far.read ahead line new had ended so_far.given goes takes;
      none_ends = so_far.none_ends;
      few = omega (arith, so_far.many, few);
      gave = gave_then next_line.ReadFault line new ended then goes takes;
      replies = so_far.replies;
      legal = so_far.legal;
      took = so_far.took;
    }

    -- a reply was cut
    reply_cut : (next : S) (line new : List ℕ) (ended : Bool) (reply : ReplyValue) (then later : Option (List ℕ)) → count < MOST_LINES → had ≡ false → IsNextOf next_line.Line (stream_of ahead now) line (stream_of new then)
        → Takes next_line.Line now then ahead line new ended → (ended ≡ true → IsAtEnd (stream_of new then)) → length line ≤ MOST_LINE_BYTES → is_last (without_return line) ≡ false
        → Step last (without_return line) reply next → TookPart after later reply.text → IsCut (Lead Step) left then first next before later
    unfolding answered_of
    reply_cut next line new ended reply then later few goes comes takes at_end short other step (part, took) =
        let (more, are) = lines-next (stream_of ahead now) (stream_of new then) line comes in
        let none : before_end (so_far.read ++ line ∷ []) ≡ so_far.read ++ line ∷ [] = none_more so_far.read line so_far.none_ends (one_goes_on line short other) in
        let many : length (so_far.read ++ line ∷ []) ≡ count + 1 = length_push so_far.read line ∙ ap (λ n. n + 1) so_far.many in
        let same : so_far.read ++ line ∷ more ≡ (so_far.read ++ line ∷ []) ++ more = sym (append_assoc so_far.read (line ∷ []) more) in
        record {
          lines = (so_far.read ++ line ∷ []) ++ more;
          of_source = subst (λ ls. AreLinesOf left ls) same (lines-whole left (stream_of ahead now) so_far.read (line ∷ more) so_far.cuts are);
          count = count + 1;
          among = answered_many MOST_LINES (count + 1) (so_far.read ++ line ∷ []) more none many (omega (arith, few));
          gave = subst (λ n. GaveAtMost left then n) many (given-few left then (so_far.read ++ line ∷ []) new ended (given-more left now then so_far.read ahead line new had ended so_far.given goes takes at_end));
          replies = so_far.replies;
          cut = reply;
          legal = subst (λ ls. Lead Step first (texts_of ls) (so_far.replies ++ reply ∷ []) next) (sym (answered_part MOST_LINES (count + 1) (so_far.read ++ line ∷ []) more none many (omega (arith, few))))
              (replies-more first last next so_far.read so_far.replies line reply so_far.legal step);
          part = part;
          took = Took-append before after later (text_of so_far.replies) (take part reply.text) so_far.took took;
        }

    pub session-cut : (next : S) (line new : List ℕ) (ended : Bool) (reply : ReplyValue) (then later : Option (List ℕ)) → count < MOST_LINES → had ≡ false → IsNextOf next_line.Line (stream_of ahead now) line (stream_of new then)
        → Takes next_line.Line now then ahead line new ended → (ended ≡ true → IsAtEnd (stream_of new then)) → length line ≤ MOST_LINE_BYTES → is_last (without_return line) ≡ false
        → Step last (without_return line) reply next → TookPart after later reply.text → IsSession (Lead Step) WriteFault left then first next before later
    session-cut next line new ended reply then later few goes comes takes at_end short other step took = inl (reply_cut next line new ended reply then later few goes comes takes at_end short other step took)

    -- as many lines as a session may have
    pub session-full : count ≡ MOST_LINES → IsWhole (Lead Step) left now TooManyLines first last before after
    unfolding answered_of end_of
    session-full full =
        let (more, are) = lines-any (stream_of ahead now) in
        let many : length so_far.read ≡ MOST_LINES = so_far.many ∙ full in
        let answered = sym (answered_full MOST_LINES so_far.read more so_far.none_ends many) in
        record {
          lines = so_far.read ++ more;
          of_source = lines-whole left (stream_of ahead now) so_far.read more so_far.cuts are;
          at_end = λ e. absurd (cc);
          is_end = sym (end_full MOST_LINES so_far.read more so_far.none_ends many);
          gave = subst (λ ls. GaveAtMost left now (length ls)) answered (given-few left now so_far.read ahead had so_far.given);
          replies = so_far.replies;
          legal = subst (λ ls. Lead Step first (texts_of ls) so_far.replies last) answered so_far.legal;
          took = Took-append before after after (text_of so_far.replies) [] so_far.took (Took-nothing after);
        }
