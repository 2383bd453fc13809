-- A reply to a take has the cells of the cube over the variables of the take, at the release of its number.
use Rattle.std.proofs.Common.{◌≡◌, ◌≢◌, ℕ, zero, suc, ◌+◌, ◌≤◌, true, false, List, [], ◌∷◌, ◌++◌, length, length-append, append_assoc, take, set, map, Option, Some, None, inl, inr, refl, sym, ap, ◌∙◌, subst, arith}
use Rattle.std.specs.Prelude.{if◌then◌else◌, fold, not, slice_get, option_map}
use Rattle.std.proofs.lemmas.Bool.{cases_eq}
use Rattle.std.proofs.lemmas.List.{take-append-le}
use Rattle.std.proofs.lemmas.List.Sums.{fold-append}
use Rattle.std.proofs.lemmas.Option.{slice_get-map}
use Rattle.tb_base.specs.declared.cells.Cell.{Cell}
use Rattle.tb_core.specs.declared.events.Event.{Event}
use Rattle.tb_core.specs.declared.events.Event.TheVariants.{Take, Answer}
use Rattle.tb_core.specs.declared.events.Outcome.{Outcome}
use Rattle.tb_core.specs.declared.events.Outcome.TheVariants.{Got, Memory}
use Rattle.tb_core.specs.declared.events.Reply.{Reply}
use Rattle.tb_core.specs.Callers.{Stage}
use Rattle.tb_core.specs.Callers.Stage.{Idle, Took, Works}
use Rattle.tb_core.specs.Desks.{release_at, IsRevised}
use Rattle.tb_core.specs.Fitting.{can_ask}
use Rattle.tb_core.specs.Laws.{bare, bare_after, bare_by, bare_goes_on, bare_of, bare_replied, got, BareState}
use Rattle.tb_core.specs.Runs.{after, run_of, start, RunState}
use Rattle.tb_core.proofs.CountLemmas.{replies_are_counted}
use Rattle.tb_core.proofs.LawLemmas.{bare-run, keeps_no_cubes}
use Rattle.tb_model.specs.Cubes.{cube_of}
use Rattle.tb_model.specs.Releases.{ReleaseValue}
use Rattle.tb_release.specs.Batches.{BatchValue}
use Rattle.tb_release.specs.Chains.{release_after}
use Rattle.tb_session.specs.RunWorlds.{AnswersTake, IsNeverIdle}
use Rattle.tb_session.proofs.RunSteps.{moved, set_of, Holds, Moves}

-- ---- lists
-- an element of a list that was changed at a place
get-same : {X : Type 0} (xs : List X) (i : ℕ) (x y : X) → slice_get xs i ≡ Some x → slice_get (set xs i y) i ≡ Some y
get-same [] i x y at = cc
get-same (z ∷ xs) zero x y at = refl
get-same (z ∷ xs) (suc i) x y at = get-same xs i x y at

get-other : {X : Type 0} (xs : List X) (i j : ℕ) (y : X) → (j ≡ i → ⊥) → slice_get (set xs i y) j ≡ slice_get xs j
get-other [] i j y other = refl
get-other (z ∷ xs) zero zero y other = absurd (other refl)
get-other (z ∷ xs) zero (suc j) y other = refl
get-other (z ∷ xs) (suc i) zero y other = refl
get-other (z ∷ xs) (suc i) (suc j) y other = get-other xs i j y (λ e. other (ap suc e))

-- the element that was added to a list
get-added : {X : Type 0} (xs ys : List X) (x : X) → slice_get (xs ++ x ∷ ys) (length xs) ≡ Some x
get-added [] ys x = refl
get-added (z ∷ xs) ys x = get-added xs ys x

get-more : {X : Type 0} (xs ys : List X) (i : ℕ) (x : X) → slice_get xs i ≡ Some x → slice_get (xs ++ ys) i ≡ Some x
get-more [] ys i x at = let no : ⊥ = cc in absurd no
get-more (z ∷ xs) ys zero x at = at
get-more (z ∷ xs) ys (suc i) x at = get-more xs ys i x at

-- ---- what stays in a run
-- the shape and release 0 stay, and the chain and the replies go on
record GoesOn (b c : BareState) : Type 0 where
  shape : c.shape ≡ b.shape
  base : c.base ≡ b.base
  batches : List BatchValue
  chain : c.chain ≡ b.chain ++ batches
  more : List Reply
  replies : c.replies ≡ b.replies ++ more

pub append-none : {X : Type 0} (xs : List X) → xs ≡ xs ++ []
append-none [] = refl
append-none (x ∷ xs) = ap (λ ys. x ∷ ys) (append-none xs)

goes-on-stage : (a b : BareState) (who : ℕ) (new : Stage) → GoesOn a b → GoesOn a (bare_goes_on who new b)
goes-on-stage a b who new h = record { shape = h.shape; base = h.base; batches = h.batches; chain = h.chain; more = h.more; replies = h.replies }

goes-on-replied : (a b : BareState) (who : ℕ) (outcome : Outcome) → GoesOn a b → GoesOn a (bare_replied who outcome b)
goes-on-replied a b who outcome h =
    let reply : Reply = record { who = who; outcome = outcome } in record {
      shape = h.shape;
      base = h.base;
      batches = h.batches;
      chain = h.chain;
      more = h.more ++ reply ∷ [];
      replies = ap (λ (rs : List Reply). rs ++ reply ∷ []) h.replies ∙ append_assoc a.replies h.more (reply ∷ []);
    }

goes-on-moves : (a b : BareState) → GoesOn a b → Moves (λ event. GoesOn a) b
goes-on-moves a b h = record {
  same = λ event. h;
  takes = λ who n vars at. goes-on-stage a b who (Took n vars None) h;
  works = λ event who old new at same. goes-on-stage a b who new h;
  refuses = λ event who old at. goes-on-replied a b who Memory h;
  answers = λ who n vars cells holds. goes-on-replied a b who (Got n cells) h;
  longer = λ event batch. record {
    shape = h.shape;
    base = h.base;
    batches = h.batches ++ batch ∷ [];
    chain = ap (λ (bs : List BatchValue). bs ++ batch ∷ []) h.chain ∙ append_assoc a.chain h.batches (batch ∷ []);
    more = h.more;
    replies = h.replies;
  };
}

goes-on-run : (a b : BareState) (events : List Event) → GoesOn a b → GoesOn a (fold bare_after b events)
goes-on-run a b [] h = h
goes-on-run a b (event ∷ events) h = goes-on-run a (bare_after b event) events (moved (λ event. GoesOn a) b (goes-on-moves a b h) event)

goes-on : (s : RunState) (events : List Event) → GoesOn (bare_of s) (bare_of (run_of s events))
goes-on s events =
    subst (GoesOn (bare_of s)) (sym (bare-run s events))
    (goes-on-run (bare_of s) (bare_of s) events
    (record { shape = refl; base = refl; batches = []; chain = append-none s.desk.chain; more = []; replies = append-none s.replies }))

-- ---- the variables of a take
module _ (who : ℕ) (vars : List ℕ) where
  -- a caller that isn't idle holds its variables
  abbrev HoldsOn : Event → BareState → Type 0
  HoldsOn event b = slice_get b.callers who ≢ Some Idle → Holds who vars b

  no_set : (stage : Stage) → Idle ≡ stage → set_of stage ≡ Some vars → ⊥
  no_set stage idle took = let none : None ≡ Some vars = ap set_of idle ∙ took in cc

  one_stage : (b : BareState) (q : ℕ) (old : Stage) (h : Holds who vars b) → slice_get b.callers q ≡ Some old → who ≡ q → old ≡ h.stage
  one_stage b q old h at own = let two : Some old ≡ Some h.stage = sym (subst (λ w. slice_get b.callers w ≡ Some old) (sym own) at) ∙ h.at in cc

  holds-replied : (b : BareState) (q : ℕ) (old : Stage) (outcome : Outcome) → Holds who vars b → slice_get b.callers q ≡ Some old → slice_get (bare_replied q outcome b).callers who ≢ Some Idle
      → Holds who vars (bare_replied q outcome b)
  holds-replied b q old outcome h at busy = elim (cases_eq who q) [
    | inl own ↦ absurd (busy (subst (λ w. slice_get (set b.callers q Idle) w ≡ Some Idle) (sym own) (get-same b.callers q old Idle at)))
    | inr other ↦ record { stage = h.stage; at = get-other b.callers q who Idle other ∙ h.at; took = h.took }
  ]

  holds-moves : (b : BareState) → Holds who vars b → Moves HoldsOn b
  holds-moves b h = record {
    same = λ event busy. h;
    takes = λ q n vs at busy. elim (cases_eq who q) [
      | inl own ↦ absurd (no_set h.stage (one_stage b q Idle h at own) h.took)
      | inr other ↦ record { stage = h.stage; at = get-other b.callers q who (Took n vs None) other ∙ h.at; took = h.took }
    ];
    works = λ event q old new at same busy. elim (cases_eq who q) [
      | inl own ↦ record {
        stage = new;
        at = subst (λ w. slice_get (set b.callers q new) w ≡ Some new) (sym own) (get-same b.callers q old new at);
        took = sym same ∙ ap set_of (one_stage b q old h at own) ∙ h.took;
      }
      | inr other ↦ record { stage = h.stage; at = get-other b.callers q who new other ∙ h.at; took = h.took }
    ];
    refuses = λ event q old at busy. holds-replied b q old Memory h at busy;
    answers = λ q n vs cells held busy. holds-replied b q held.stage (Got n cells) h held.at busy;
    longer = λ event batch busy. record { stage = h.stage; at = h.at; took = h.took };
  }

-- a caller that is idle without cubes is so with them
pub idle-bare : (o : Option Stage) → option_map bare o ≡ Some Idle → o ≡ Some Idle
idle-bare None e = cc
idle-bare (Some Idle) e = refl
idle-bare (Some (Took n vars hit)) e = let no : ⊥ = cc in absurd no
idle-bare (Some (Works n vars to_offer)) e = let no : ⊥ = cc in absurd no

busy-bare : (s : RunState) (who : ℕ) → slice_get s.callers who ≢ Some Idle → slice_get (bare_of s).callers who ≢ Some Idle
busy-bare s who busy e = busy (idle-bare (slice_get s.callers who) (sym (slice_get-map bare s.callers who) ∙ e))

busy-now : (who : ℕ) (s : RunState) (events : List Event) → IsNeverIdle who s events → slice_get s.callers who ≢ Some Idle
busy-now who s [] busy = busy
busy-now who s (event ∷ events) busy = busy.0

holds-run : (who : ℕ) (vars : List ℕ) (s : RunState) (events : List Event) → Holds who vars (bare_of s) → IsNeverIdle who s events → Holds who vars (bare_of (run_of s events))
holds-run who vars s [] h busy = h
holds-run who vars s (event ∷ events) h busy =
    let now = busy-bare (after s event) who (busy-now who (after s event) events busy.1) in
    let one : HoldsOn who vars event (bare_of (after s event)) = subst (HoldsOn who vars event) (sym (keeps_no_cubes s event)) (moved (HoldsOn who vars) (bare_of s) (holds-moves who vars (bare_of s) h) event) in
    holds-run who vars (after s event) events (one now) busy.1

-- ---- the take and the answer
abbrev take_of : ℕ → List ℕ → Event
take_of who vars = Take who (Some vars) false

holds-idle : (who : ℕ) (vars : List ℕ) (b : BareState) → slice_get b.callers who ≡ Some Idle → HoldsOn who vars (take_of who vars) (bare_by b (take_of who vars) (Some Idle))
holds-idle who vars b at =
    elim (can_ask b.shape vars) as (λ t. HoldsOn who vars (take_of who vars) (if not t then b else bare_goes_on who (Took (length b.chain) vars None) b)) [
      | false ↦ λ busy. absurd (busy at)
      | true ↦ λ busy. record { stage = Took (length b.chain) vars None; at = get-same b.callers who Idle (Took (length b.chain) vars None) at; took = refl }
    ]

holds-take : (who : ℕ) (vars : List ℕ) (s : RunState) → slice_get s.callers who ≡ Some Idle → slice_get (after s (Take who (Some vars) false)).callers who ≢ Some Idle
    → Holds who vars (bare_of (after s (Take who (Some vars) false)))
holds-take who vars s idle busy =
    let b : BareState = bare_of s in
    let at : slice_get b.callers who ≡ Some Idle = slice_get-map bare s.callers who ∙ ap (option_map bare) idle in
    let there : HoldsOn who vars (take_of who vars) (bare_after b (take_of who vars)) =
    subst (λ (o : Option Stage). HoldsOn who vars (take_of who vars) (bare_by b (take_of who vars) o)) (sym at) (holds-idle who vars b at) in
    subst (HoldsOn who vars (take_of who vars)) (sym (keeps_no_cubes s (take_of who vars))) there (busy-bare (after s (take_of who vars)) who busy)

-- one reply was added: the cells of the cube over these variables, at some release
record IsAnswered (who : ℕ) (vars : List ℕ) (b c : BareState) : Type 0 where
  number : ℕ
  replies : c.replies ≡ b.replies ++ got who number (cube_of b.shape vars (release_at b.base b.chain number).records) ∷ []
  chain : c.chain ≡ b.chain

answer-case : (who : ℕ) (vars : List ℕ) (b : BareState) (stage : Stage) → set_of stage ≡ Some vars → length (bare_by b (Answer who) (Some stage)).replies ≡ length b.replies + 1
    → IsAnswered who vars b (bare_by b (Answer who) (Some stage))
answer-case who vars b Idle took long = let no : ⊥ = cc in absurd no
answer-case who vars b (Took n vs hit) took long = absurd (omega (arith, long))
answer-case who vars b (Works n vs to_offer) took long =
    let same : vs ≡ vars = cc in record {
      number = n;
      replies = ap (λ (v : List ℕ). b.replies ++ got who n (cube_of b.shape v (release_at b.base b.chain n).records) ∷ []) same;
      chain = refl;
    }

answered : (who : ℕ) (vars : List ℕ) (s : RunState) → Holds who vars (bare_of s) → length (after s (Answer who)).replies ≡ length s.replies + 1
    → IsAnswered who vars (bare_of s) (bare_of (after s (Answer who)))
answered who vars s h long =
    let b : BareState = bare_of s in
    let step : bare_of (after s (Answer who)) ≡ bare_by b (Answer who) (Some h.stage) = keeps_no_cubes s (Answer who) ∙ ap (bare_by b (Answer who)) h.at in
    subst (IsAnswered who vars b) (sym step)
    (answer-case who vars b h.stage h.took (sym (ap (λ (c : BareState). length c.replies) step) ∙ long))

-- ---- a run
same-cells : (f : ℕ → List Cell) (who m n : ℕ) (cells : List Cell) → Some (got who m (f m)) ≡ Some (got who n cells) → cells ≡ f n
same-cells f who m n cells e =
    let reply : got who m (f m) ≡ got who n cells = cc in
    let outcome : Got m (f m) ≡ Got n cells = ap (λ (r : Reply). r.outcome) reply in
    let number : m ≡ n = cc in
    let same : f m ≡ cells = cc in
    sym same ∙ ap f number

-- from just before the answer to the end of the run
record IsEnd (shape : List ℕ) (base : ReleaseValue) (who : ℕ) (vars : List ℕ) (i : ℕ) (s : RunState) : Type 0 where
  number : ℕ
  there : number ≤ length s.desk.chain
  added : slice_get s.replies i ≡ Some (got who number (cube_of shape vars (release_at base s.desk.chain number).records))

module _ (shape : List ℕ) (base : ReleaseValue) (capacity callers : ℕ) (revised : IsRevised shape base []) where
  abbrev first : RunState
  first = start shape base capacity callers

  -- just after the answer the reply is there
  end-answer : (i who : ℕ) (vars : List ℕ) (upto : List Event) → Holds who vars (bare_of (run_of first upto)) → length (run_of first upto).replies ≡ i
      → length (run_of first (upto ++ Answer who ∷ [])).replies ≡ i + 1 → IsEnd shape base who vars i (run_of first (upto ++ Answer who ∷ []))
  end-answer i who vars upto h short long =
      let s : RunState = run_of first upto in
      let all : List Event = upto ++ Answer who ∷ [] in
      let last : run_of first all ≡ after s (Answer who) = fold-append after first upto (Answer who ∷ []) in
      let one = answered who vars s h (sym (ap (λ (t : RunState). length t.replies) last) ∙ long ∙ ap (λ n. n + 1) (sym short)) in
      let from = goes-on first upto in
      let n : ℕ = one.number in
      let cells : List Cell = cube_of s.desk.shape vars (release_at s.desk.base s.desk.chain n).records in
      let replies : (run_of first all).replies ≡ s.replies ++ got who n cells ∷ [] = ap (λ (t : RunState). t.replies) last ∙ one.replies in
      let chain : s.desk.chain ≡ (run_of first all).desk.chain = sym (ap (λ (t : RunState). t.desk.chain) last ∙ one.chain) in
      let same : cells ≡ cube_of shape vars (release_at base (run_of first all).desk.chain n).records =
      ap (λ (sh : List ℕ). cube_of sh vars (release_at s.desk.base s.desk.chain n).records) from.shape
      ∙ ap (λ (r : ReleaseValue). cube_of shape vars (release_at r s.desk.chain n).records) from.base
      ∙ ap (λ (c : List BatchValue). cube_of shape vars (release_at base c n).records) chain in
      let added : slice_get (run_of first all).replies i ≡ Some (got who n cells) =
      ap (λ (rs : List Reply). slice_get rs i) replies
      ∙ ap (λ j. slice_get (s.replies ++ got who n cells ∷ []) j) (sym short) ∙ get-added s.replies [] (got who n cells) in
      record {
        number = n;
        there = (replies_are_counted shape base capacity callers all revised i who n cells added).there;
        added = added ∙ ap (λ (cs : List Cell). Some (got who n cs)) same;
      }

  -- and it stays
  end-later : (i who : ℕ) (vars : List ℕ) (s : RunState) (rest : List Event) → IsEnd shape base who vars i s → IsEnd shape base who vars i (run_of s rest)
  end-later i who vars s rest h =
      let on = goes-on s rest in
      let longer = on.chain in
      let there = h.there in
      let same : take h.number s.desk.chain ≡ take h.number (run_of s rest).desk.chain =
      sym (ap (λ (c : List BatchValue). take h.number c) longer ∙ take-append-le h.number s.desk.chain on.batches there) in
      record {
        number = h.number;
        there = rw (longer, length-append s.desk.chain on.batches) (omega arith);
        added = ap (λ (rs : List Reply). slice_get rs i) on.replies ∙ get-more s.replies on.more i _ h.added
            ∙ ap (λ (c : List BatchValue). Some (got who h.number (cube_of shape vars (release_after base c).records))) same;
      }

  end-run : (events : List Event) (i who : ℕ) (vars : List ℕ) → AnswersTake first events i who vars → IsEnd shape base who vars i (run_of first events)
  end-run events i who vars h =
      let take : Event = Take who (Some vars) false in
      let s : RunState = run_of first h.before in
      let upto : List Event = h.before ++ take ∷ h.between in
      let held : Holds who vars (bare_of (run_of (after s take) h.between)) =
      holds-run who vars (after s take) h.between (holds-take who vars s h.idle (busy-now who (after s take) h.between h.busy)) h.busy in
      let at : run_of first upto ≡ run_of (after s take) h.between = fold-append after first h.before (take ∷ h.between) in
      let parts : upto ++ Answer who ∷ [] ≡ h.before ++ take ∷ (h.between ++ Answer who ∷ []) = append_assoc h.before (take ∷ h.between) (Answer who ∷ []) in
      let whole : (upto ++ Answer who ∷ []) ++ h.rest ≡ events =
      append_assoc upto (Answer who ∷ []) h.rest ∙ append_assoc h.before (take ∷ h.between) (Answer who ∷ h.rest) ∙ sym h.events_are in
      let end = end-answer i who vars upto (subst (λ (t : RunState). Holds who vars (bare_of t)) (sym at) held) h.before_answer
      (ap (λ (es : List Event). length (run_of first es).replies) parts ∙ h.after_answer) in
      subst (λ (t : RunState). IsEnd shape base who vars i t)
      (sym (fold-append after first (upto ++ Answer who ∷ []) h.rest) ∙ ap (run_of first) whole)
      (end-later i who vars (run_of first (upto ++ Answer who ∷ [])) h.rest end)

  -- the reply's cells are those of the cube over the variables of the take
  pub cells-taken : (events : List Event) (i who n : ℕ) (cells : List Cell) (vars : List ℕ) → slice_get (run_of first events).replies i ≡ Some (got who n cells) → AnswersTake first events i who vars
      → cells ≡ cube_of shape vars (release_at base (run_of first events).desk.chain n).records
  cells-taken events i who n cells vars at h =
      let end = end-run events i who vars h in
      let two : Some (got who end.number (cube_of shape vars (release_at base (run_of first events).desk.chain end.number).records)) ≡ Some (got who n cells) = sym end.added ∙ at in
      same-cells (λ m. cube_of shape vars (release_at base (run_of first events).desk.chain m).records) who end.number n cells two
