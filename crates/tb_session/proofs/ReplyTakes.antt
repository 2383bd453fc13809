-- Each reply with cells of a run answers a take.
use Rattle.std.proofs.Common.{◌≡◌, ◌≢◌, ℕ, ◌+◌, ◌⊎◌, false, List, [], ◌∷◌, ◌++◌, length, length-append, append_assoc, set, Some, None, inl, inr, refl, sym, ap, ◌∙◌, subst}
use Rattle.std.specs.Prelude.{slice_get, option_map}
use Rattle.std.proofs.lemmas.List.Sums.{fold-append}
use Rattle.std.proofs.lemmas.Option.{slice_get-map}
use Rattle.tb_base.specs.declared.cells.Cell.{Cell}
use Rattle.tb_core.specs.declared.events.Event.{Event}
use Rattle.tb_core.specs.declared.events.Event.TheVariants.{Take, Answer}
use Rattle.tb_core.specs.declared.events.Outcome.{Outcome}
use Rattle.tb_core.specs.declared.events.Outcome.TheVariants.{Got, Memory}
use Rattle.tb_core.specs.declared.events.Reply.{Reply}
use Rattle.tb_core.specs.Callers.{Stage}
use Rattle.tb_core.specs.Callers.Stage.{Idle, Took}
use Rattle.tb_core.specs.Laws.{bare, bare_after, bare_goes_on, bare_of, bare_replied, got, BareState}
use Rattle.tb_core.specs.Runs.{after, run_of, start, RunState}
use Rattle.tb_core.proofs.LawLemmas.{keeps_no_cubes}
use Rattle.tb_core.proofs.NumberLemmas.{get-push, get-replicate, get-set}
use Rattle.tb_core.proofs.SystemLemmas.{map-replicate}
use Rattle.tb_model.specs.Releases.{ReleaseValue}
use Rattle.tb_session.specs.RunWorlds.{AnswersTake, IsNeverIdle, RepliesAnswerTakes}
use Rattle.tb_session.proofs.RunSteps.{moved, set_of, Holds}
use Rattle.tb_session.proofs.TakeRuns.{append-none, idle-bare}

-- ---- an event
-- a reply that was added is that of a caller that holds these variables
record IsAdded (event : Event) (b c : BareState) (i who : ℕ) : Type 0 where
  vars : List ℕ
  holds : Holds who vars b
  answer : event ≡ Answer who
  last : i ≡ length b.replies
  more : length c.replies ≡ i + 1

-- where a caller's variables and a reply come from
record Explains (event : Event) (b c : BareState) : Type 0 where
  callers : (who : ℕ) (vars : List ℕ) → Holds who vars c → Holds who vars b ⊎ ((event ≡ Take who (Some vars) false) × (slice_get b.callers who ≡ Some Idle))
  replies : (i who n : ℕ) (cells : List Cell) → slice_get c.replies i ≡ Some (got who n cells) → (slice_get b.replies i ≡ Some (got who n cells)) ⊎ IsAdded event b c i who

module _ (b : BareState) where
  -- where a caller was changed, the variables are the new ones, or were there before
  holds-before : (q : ℕ) (new : Stage) (c : BareState) → c.callers ≡ set b.callers q new → (who : ℕ) (vars : List ℕ) → Holds who vars c
      → ((who ≡ q) × (set_of new ≡ Some vars)) ⊎ Holds who vars b
  holds-before q new c same who vars h = elim (get-set b.callers q who new h.stage (ap (λ (cs : List Stage). slice_get cs who) (sym same) ∙ h.at)) [
    | inl own ↦ inl (own.0, ap set_of own.1 ∙ h.took)
    | inr other ↦ inr (record { stage = h.stage; at = other.1; took = h.took })
  ]

  explains-takes : (q n : ℕ) (vs : List ℕ) → slice_get b.callers q ≡ Some Idle → Explains (Take q (Some vs) false) b (bare_goes_on q (Took n vs None) b)
  explains-takes q n vs at = record {
    callers = λ who vars h. elim (holds-before q (Took n vs None) (bare_goes_on q (Took n vs None) b) refl who vars h) [
      | inl own ↦
          let same : vs ≡ vars = let two : Some vs ≡ Some vars = own.1 in cc in
          inr (ap (λ w. Take w (Some vs) false) (sym own.0) ∙ ap (λ (v : List ℕ). Take who (Some v) false) same, subst (λ w. slice_get b.callers w ≡ Some Idle) (sym own.0) at)
      | inr old ↦ inl old
    ];
    replies = λ i who m cells there. inl there;
  }

  explains-works : (event : Event) (q : ℕ) (old new : Stage) → slice_get b.callers q ≡ Some old → set_of old ≡ set_of new → Explains event b (bare_goes_on q new b)
  explains-works event q old new at same = record {
    callers = λ who vars h. elim (holds-before q new (bare_goes_on q new b) refl who vars h) [
      | inl own ↦ inl (record { stage = old; at = subst (λ w. slice_get b.callers w ≡ Some old) (sym own.0) at; took = same ∙ own.1 })
      | inr was ↦ inl was
    ];
    replies = λ i who m cells there. inl there;
  }

  holds-replied : (q : ℕ) (outcome : Outcome) (who : ℕ) (vars : List ℕ) → Holds who vars (bare_replied q outcome b) → Holds who vars b
  holds-replied q outcome who vars h = elim (holds-before q Idle (bare_replied q outcome b) refl who vars h) [
    | inl own ↦ let none : None ≡ Some vars = own.1 in absurd (cc)
    | inr was ↦ was
  ]

  explains-refuses : (event : Event) (q : ℕ) → Explains event b (bare_replied q Memory b)
  explains-refuses event q = record {
    callers = λ who vars h. inl (holds-replied q Memory who vars h);
    replies = λ i who m cells there. elim (get-push b.replies i (record { who = q; outcome = Memory }) (got who m cells) there) [
      | inl old ↦ inl old
      | inr new ↦ let other : Memory ≡ Got m cells = ap (λ (r : Reply). r.outcome) new.1 in absurd (cc)
    ];
  }

  explains-answers : (q n : ℕ) (vs : List ℕ) (made : List Cell) → Holds q vs b → Explains (Answer q) b (bare_replied q (Got n made) b)
  explains-answers q n vs made held =
      let reply : Reply = record { who = q; outcome = Got n made } in record {
        callers = λ who vars h. inl (holds-replied q (Got n made) who vars h);
        replies = λ i who m cells there. elim (get-push b.replies i reply (got who m cells) there) [
          | inl old ↦ inl old
          | inr new ↦
              let own : q ≡ who = ap (λ (r : Reply). r.who) new.1 in
              inr (record {
                vars = vs;
                holds = subst (λ w. Holds w vs b) own held;
                answer = ap Answer own;
                last = new.0;
                more = length-append b.replies (reply ∷ []) ∙ ap (λ k. k + 1) (sym new.0);
              })
        ];
      }

  explains : (event : Event) → Explains event b (bare_after b event)
  explains event = moved (λ e. Explains e b) b (record {
    same = λ e. record { callers = λ who vars h. inl h; replies = λ i who n cells there. inl there };
    takes = explains-takes;
    works = explains-works;
    refuses = λ e q old at. explains-refuses e q;
    answers = explains-answers;
    longer = λ e batch. record { callers = λ who vars h. inl (record { stage = h.stage; at = h.at; took = h.took }); replies = λ i who n cells there. inl there };
  }) event

-- ---- a run
-- the take of a caller that isn't idle
record Asked (first : RunState) (events : List Event) (who : ℕ) (vars : List ℕ) : Type 0 where
  before : List Event
  between : List Event
  events_are : events ≡ before ++ Take who (Some vars) false ∷ between
  idle : slice_get (run_of first before).callers who ≡ Some Idle
  busy : IsNeverIdle who (after (run_of first before) (Take who (Some vars) false)) between

record Known (first : RunState) (events : List Event) : Type 0 where
  callers : (who : ℕ) (vars : List ℕ) → Holds who vars (bare_of (run_of first events)) → Asked first events who vars
  replies : (i who n : ℕ) (cells : List Cell) → slice_get (run_of first events).replies i ≡ Some (got who n cells) → (vars : List ℕ) × AnswersTake first events i who vars

busy-holds : (who : ℕ) (vars : List ℕ) (s : RunState) → Holds who vars (bare_of s) → slice_get s.callers who ≢ Some Idle
busy-holds who vars s h idle =
    let two : Some Idle ≡ Some h.stage = sym (slice_get-map bare s.callers who ∙ ap (option_map bare) idle) ∙ h.at in
    let one : Idle ≡ h.stage = cc in
    let none : None ≡ Some vars = ap set_of one ∙ h.took in
    cc

never-more : (who : ℕ) (s : RunState) (events : List Event) (event : Event) → IsNeverIdle who s events → slice_get (run_of s (events ++ event ∷ [])).callers who ≢ Some Idle
    → IsNeverIdle who s (events ++ event ∷ [])
never-more who s [] event busy last = (busy, last)
never-more who s (e ∷ events) event busy last = (busy.0, never-more who (after s e) events event busy.1 last)

module _ (first : RunState) (events : List Event) (event : Event) (known : Known first events) where
  abbrev one_more : List Event
  one_more = events ++ event ∷ []

  abbrev now : RunState
  now = run_of first events

  last : run_of first one_more ≡ after now event
  last = fold-append after first events (event ∷ [])

  here : Explains event (bare_of now) (bare_of (run_of first one_more))
  here = subst (λ (b : BareState). Explains event (bare_of now) b) (sym (keeps_no_cubes now event) ∙ sym (ap bare_of last)) (explains (bare_of now) event)

  asked-before : (who : ℕ) (vars : List ℕ) → Holds who vars (bare_of (run_of first one_more)) → Asked first events who vars → Asked first one_more who vars
  asked-before who vars h a =
      let take : Event = Take who (Some vars) false in
      let parts : one_more ≡ a.before ++ take ∷ (a.between ++ event ∷ []) = ap (λ (es : List Event). es ++ event ∷ []) a.events_are ∙ append_assoc a.before (take ∷ a.between) (event ∷ []) in
      let at : run_of first one_more ≡ run_of (after (run_of first a.before) take) (a.between ++ event ∷ []) =
      ap (run_of first) parts ∙ fold-append after first a.before (take ∷ (a.between ++ event ∷ [])) in
      record {
        before = a.before;
        between = a.between ++ event ∷ [];
        events_are = parts;
        idle = a.idle;
        busy = never-more who (after (run_of first a.before) take) a.between event a.busy
            (subst (λ (s : RunState). slice_get s.callers who ≢ Some Idle) at (busy-holds who vars (run_of first one_more) h));
      }

  asked-now : (who : ℕ) (vars : List ℕ) → Holds who vars (bare_of (run_of first one_more)) → event ≡ Take who (Some vars) false → slice_get (bare_of now).callers who ≡ Some Idle
      → Asked first one_more who vars
  asked-now who vars h is idle = record {
    before = events;
    between = [];
    events_are = ap (λ (e : Event). events ++ e ∷ []) is;
    idle = idle-bare (slice_get now.callers who) (sym (slice_get-map bare now.callers who) ∙ idle);
    busy = subst (λ (s : RunState). slice_get s.callers who ≢ Some Idle) (last ∙ ap (after now) is) (busy-holds who vars (run_of first one_more) h);
  }

  answers-before : (i who : ℕ) (vars : List ℕ) → AnswersTake first events i who vars → AnswersTake first one_more i who vars
  answers-before i who vars a =
      let take : Event = Take who (Some vars) false in record {
        before = a.before;
        between = a.between;
        rest = a.rest ++ event ∷ [];
        events_are = ap (λ (es : List Event). es ++ event ∷ []) a.events_are ∙ append_assoc a.before (take ∷ (a.between ++ Answer who ∷ a.rest)) (event ∷ [])
            ∙ ap (λ (es : List Event). a.before ++ take ∷ es) (append_assoc a.between (Answer who ∷ a.rest) (event ∷ []));
        idle = a.idle;
        busy = a.busy;
        before_answer = a.before_answer;
        after_answer = a.after_answer;
      }

  answers-now : (i who : ℕ) → (new : IsAdded event (bare_of now) (bare_of (run_of first one_more)) i who) → AnswersTake first one_more i who new.vars
  answers-now i who new =
      let a = known.callers who new.vars new.holds in
      let take : Event = Take who (Some new.vars) false in
      let parts : one_more ≡ a.before ++ take ∷ (a.between ++ Answer who ∷ []) =
      ap (λ (e : Event). events ++ e ∷ []) new.answer ∙ ap (λ (es : List Event). es ++ Answer who ∷ []) a.events_are ∙ append_assoc a.before (take ∷ a.between) (Answer who ∷ []) in
      record {
        before = a.before;
        between = a.between;
        rest = [];
        events_are = parts;
        idle = a.idle;
        busy = a.busy;
        before_answer = ap (λ (es : List Event). length (run_of first es).replies) (sym a.events_are) ∙ sym new.last;
        after_answer = ap (λ (es : List Event). length (run_of first es).replies) (sym parts) ∙ new.more;
      }

  known-more : Known first one_more
  known-more = record {
    callers = λ who vars h. elim (here.callers who vars h) [
      | inl old ↦ asked-before who vars h (known.callers who vars old)
      | inr new ↦ asked-now who vars h new.0 new.1
    ];
    replies = λ i who n cells at. elim (here.replies i who n cells at) [
      | inl old ↦ let k = known.replies i who n cells old in (k.0, answers-before i who k.0 k.1)
      | inr new ↦ (new.vars, answers-now i who new)
    ];
  }

known-run : (first : RunState) (so_far events : List Event) → Known first so_far → Known first (so_far ++ events)
known-run first so_far [] k = subst (Known first) (append-none so_far) k
known-run first so_far (event ∷ events) k =
    subst (Known first) (append_assoc so_far (event ∷ []) events) (known-run first (so_far ++ event ∷ []) events (known-more first so_far event k))

known-start : (shape : List ℕ) (base : ReleaseValue) (capacity callers : ℕ) → Known (start shape base capacity callers) []
known-start shape base capacity callers = record {
  callers = λ who vars h.
      let idle : Idle ≡ h.stage = get-replicate callers who Idle h.stage (ap (λ (cs : List Stage). slice_get cs who) (sym (map-replicate bare callers Idle)) ∙ h.at) in
      let none : None ≡ Some vars = ap set_of idle ∙ h.took in
      absurd (cc);
  replies = λ i who n cells at. let none : ⊥ = cc in absurd none;
}

pub replies_answer_takes : RepliesAnswerTakes
replies_answer_takes shape base capacity callers events =
    (known-run (start shape base capacity callers) [] events (known-start shape base capacity callers)).replies
