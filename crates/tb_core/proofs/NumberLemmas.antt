-- The numbers that a caller gets never fall: each is at most that of the release that it took since.
use Rattle.std.proofs.Common.{◌≡◌, ℕ, zero, suc, ◌≤◌, ◌⊎◌, Bool, true, false, List, [], ◌∷◌, ◌++◌, length, length-append, set, Option, Some, None, inl, inr, refl, sym, ap, ◌∙◌, subst, arith}
use Rattle.std.specs.Prelude.{◌&&◌, if◌then◌else◌, not, replicate, slice_get}
use Rattle.std.proofs.lemmas.Option.{slice_get_within}
use Rattle.tb_base.specs.declared.cells.Cell.{Cell}
use Rattle.tb_model.specs.Cubes.{cube_of}
use Rattle.tb_model.specs.Releases.{ReleaseValue}
use Rattle.tb_release.specs.Batches.{BatchValue, batch_of}
use Rattle.tb_release.specs.Chains.{release_after}
use Rattle.tb_release.specs.declared.edits.Edit.{Edit}
use Rattle.tb_core.specs.declared.events.Event.{Event}
use Rattle.tb_core.specs.declared.events.Event.TheVariants.{Take, Work, Answer}
use Rattle.tb_core.specs.declared.events.Outcome.{Outcome}
use Rattle.tb_core.specs.declared.events.Outcome.TheVariants.{Got, Memory}
use Rattle.tb_core.specs.declared.events.Reply.{Reply}
use Rattle.tb_core.specs.Desks.{release_at}
use Rattle.tb_core.specs.Callers.{Stage}
use Rattle.tb_core.specs.Callers.Stage.{Idle, Took, Works}
use Rattle.tb_core.specs.Fitting.{can_ask, can_follow}
use Rattle.tb_release.specs.Fitting.{edits_fit}
use Rattle.tb_core.specs.Runs.{run_of, start}
use Rattle.tb_core.specs.Laws.{bare, bare_by, bare_goes_on, bare_of, bare_published, bare_replied, got, BareState, NeverFall}
use Rattle.tb_core.proofs.LawLemmas.{bare-run, kept_in_run, IsKept}
use Rattle.tb_core.proofs.SystemLemmas.{map-replicate}

-- ---- an element of a list that was changed at a place, or has one more
pub get-set : {X : Type 0} (xs : List X) (i j : ℕ) (y z : X) → slice_get (set xs i y) j ≡ Some z → ((j ≡ i) × (y ≡ z)) ⊎ ((j ≡ i → ⊥) × (slice_get xs j ≡ Some z))
get-set [] i j y z at = cc
get-set (x ∷ xs) zero zero y z at = inl (refl, cc)
get-set (x ∷ xs) zero (suc j) y z at = inr (λ e. omega (arith, e), at)
get-set (x ∷ xs) (suc i) zero y z at = inr (λ e. omega (arith, e), at)
get-set (x ∷ xs) (suc i) (suc j) y z at =
    elim (get-set xs i j y z at) [
      | inl h ↦ inl (ap suc h.0, h.1)
      | inr h ↦ inr (λ e. h.0 (omega (arith, e)), h.1)
    ]

pub get-push : {X : Type 0} (xs : List X) (i : ℕ) (x y : X) → slice_get (xs ++ x ∷ []) i ≡ Some y → (slice_get xs i ≡ Some y) ⊎ ((i ≡ length xs) × (x ≡ y))
get-push [] zero x y at = inr (refl, cc)
get-push [] (suc i) x y at = cc
get-push (z ∷ xs) zero x y at = inl at
get-push (z ∷ xs) (suc i) x y at =
    elim (get-push xs i x y at) [
      | inl h ↦ inl h
      | inr h ↦ inr (ap suc h.0, h.1)
    ]

pub get-replicate : {X : Type 0} (n i : ℕ) (x y : X) → slice_get (replicate n x) i ≡ Some y → x ≡ y
get-replicate zero i x y at = cc
get-replicate (suc n) zero x y at = cc
get-replicate (suc n) (suc i) x y at = get-replicate n i x y at

-- ---- what a caller got so far
-- its numbers are at most this one
abbrev AtMost : List Reply → ℕ → ℕ → Type 0
AtMost replies who most = (i n : ℕ) (cells : List Cell) → slice_get replies i ≡ Some (got who n cells) → n ≤ most

-- an outcome's number, if it has one, is this one
abbrev HasNumber : Outcome → ℕ → Type 0
HasNumber outcome number = (n : ℕ) (cells : List Cell) → outcome ≡ Got n cells → n ≡ number

abbrev reply_of : ℕ → Outcome → Reply
reply_of who outcome = record { who = who; outcome = outcome }

-- one more reply of the caller, and of another
most-own : (replies : List Reply) (who number most : ℕ) (outcome : Outcome) → AtMost replies who number → HasNumber outcome number → number ≤ most → AtMost (replies ++ reply_of who outcome ∷ []) who most
most-own replies who number most outcome so_far has low = λ i n cells at.
    elim (get-push replies i (reply_of who outcome) (got who n cells) at) [
      | inl h ↦ omega (arith, so_far i n cells h)
      | inr h ↦ omega (arith, has n cells (ap (λ (r : Reply). r.outcome) h.1))
    ]

most-other : (replies : List Reply) (who q most : ℕ) (outcome : Outcome) → AtMost replies q most → (q ≡ who → ⊥) → AtMost (replies ++ reply_of who outcome ∷ []) q most
most-other replies who q most outcome so_far other = λ i n cells at.
    elim (get-push replies i (reply_of who outcome) (got q n cells) at) [
      | inl h ↦ so_far i n cells h
      | inr h ↦ absurd (other (sym (ap (λ (r : Reply). r.who) h.1)))
    ]

most-more : (replies : List Reply) (q few most : ℕ) → few ≤ most → AtMost replies q few → AtMost replies q most
most-more replies q few most low so_far = λ i n cells at. omega (arith, so_far i n cells at)

-- so the numbers don't fall
fall-push : (replies : List Reply) (who number : ℕ) (outcome : Outcome) → NeverFall replies → AtMost replies who number → HasNumber outcome number → NeverFall (replies ++ reply_of who outcome ∷ [])
fall-push replies who number outcome fall so_far has = λ i j q n m earlier later before at_i at_j.
    elim (get-push replies j (reply_of who outcome) (got q m later) at_j) [
      | inl old_j ↦ elim (get-push replies i (reply_of who outcome) (got q n earlier) at_i) [
        | inl old_i ↦ fall i j q n m earlier later before old_i old_j
        | inr new_i ↦ absurd (omega (arith, new_i.0, slice_get_within replies j (got q m later) old_j))
      ]
      | inr new_j ↦ elim (get-push replies i (reply_of who outcome) (got q n earlier) at_i) [
        | inl old_i ↦
            let same : who ≡ q = ap (λ (r : Reply). r.who) new_j.1 in
            let low : n ≤ number = so_far i n earlier (subst (λ w. slice_get replies i ≡ Some (got w n earlier)) (sym same) old_i) in
            omega (arith, low, has m later (ap (λ (r : Reply). r.outcome) new_j.1))
        | inr new_i ↦ absurd (omega (arith, new_i.0, new_j.0))
      ]
    ]

-- ---- where the callers stand
-- the number of a caller's next reply, at least
abbrev next_number : ℕ → Stage → ℕ
next_number now Idle = now
next_number now (Took n vars hit) = n
next_number now (Works n vars to_offer) = n

-- that number, at a current release of this number
record IsNumber (replies : List Reply) (now who number : ℕ) : Type 0 where
  most : AtMost replies who number
  there : number ≤ now

-- the numbers didn't fall so far, and won't with the next replies
record IsRising (b : BareState) : Type 0 where
  fall : NeverFall b.replies
  next : (who : ℕ) (stage : Stage) → slice_get b.callers who ≡ Some stage → IsNumber b.replies (length b.chain) who (next_number (length b.chain) stage)

-- a caller that goes on with the same number
rising-goes_on : (b : BareState) (who : ℕ) (old new : Stage) → slice_get b.callers who ≡ Some old → next_number (length b.chain) old ≡ next_number (length b.chain) new → IsRising b → IsRising (bare_goes_on who new b)
rising-goes_on b who old new at same h = record {
  fall = h.fall;
  next = λ q stage at_q. elim (get-set b.callers who q new stage at_q) [
    | inl own ↦
        let here : IsNumber b.replies (length b.chain) q (next_number (length b.chain) new) =
        subst (λ w. IsNumber b.replies (length b.chain) w (next_number (length b.chain) new)) (sym own.0) (subst (IsNumber b.replies (length b.chain) who) same (h.next who old at)) in
        subst (λ (s : Stage). IsNumber b.replies (length b.chain) q (next_number (length b.chain) s)) own.1 here
    | inr other ↦ h.next q stage other.1
  ];
}

-- a caller that gets a reply
rising-replied : (b : BareState) (who : ℕ) (old : Stage) (outcome : Outcome) → slice_get b.callers who ≡ Some old → HasNumber outcome (next_number (length b.chain) old) → IsRising b → IsRising (bare_replied who outcome b)
rising-replied b who old outcome at has h =
    let own = h.next who old at in record {
      fall = fall-push b.replies who (next_number (length b.chain) old) outcome h.fall own.most has;
      next = λ q stage at_q. elim (get-set b.callers who q Idle stage at_q) [
        | inl new ↦
            let here : IsNumber (b.replies ++ reply_of who outcome ∷ []) (length b.chain) who (length b.chain) = record {
              most = most-own b.replies who (next_number (length b.chain) old) (length b.chain) outcome own.most has own.there;
              there = omega arith;
            } in
            subst (λ (s : Stage). IsNumber (b.replies ++ reply_of who outcome ∷ []) (length b.chain) q (next_number (length b.chain) s)) new.1
            (subst (λ w. IsNumber (b.replies ++ reply_of who outcome ∷ []) (length b.chain) w (length b.chain)) (sym new.0) here)
        | inr other ↦
            let still = h.next q stage other.1 in record {
              most = most-other b.replies who q (next_number (length b.chain) stage) outcome still.most other.0;
              there = still.there;
            }
      ];
    }

-- a later release
later-number : (replies : List Reply) (now since who : ℕ) (stage : Stage) → now ≤ since → IsNumber replies now who (next_number now stage) → IsNumber replies since who (next_number since stage)
later-number replies now since who Idle low h = record { most = most-more replies who now since low h.most; there = omega arith }
later-number replies now since who (Took n vars hit) low h = let there = h.there in record { most = h.most; there = omega arith }
later-number replies now since who (Works n vars to_offer) low h = let there = h.there in record { most = h.most; there = omega arith }

rising-longer : (b : BareState) (batch : BatchValue) → IsRising b → IsRising (record b { chain = b.chain ++ batch ∷ [] })
rising-longer b batch h =
    let long : length b.chain ≤ length (b.chain ++ batch ∷ []) = omega (arith, length-append b.chain (batch ∷ [])) in record {
      fall = h.fall;
      next = λ who stage at. later-number b.replies (length b.chain) (length (b.chain ++ batch ∷ [])) who stage long (h.next who stage at);
    }

-- ---- the events
no_number : (number : ℕ) → HasNumber Memory number
no_number number = λ n cells e. cc

rising-take : (b : BareState) (who : ℕ) (vars : Option (List ℕ)) (refused : Bool) (o : Option Stage) → slice_get b.callers who ≡ o → IsRising b → IsRising (bare_by b (Take who vars refused) o)
rising-take b who None refused None at h = h
rising-take b who None refused (Some Idle) at h = h
rising-take b who None refused (Some (Took n vs hit)) at h = h
rising-take b who None refused (Some (Works n vs to_offer)) at h = h
rising-take b who (Some vars) refused None at h = h
rising-take b who (Some vars) refused (Some (Took n vs hit)) at h = h
rising-take b who (Some vars) refused (Some (Works n vs to_offer)) at h = h
rising-take b who (Some vars) refused (Some Idle) at h =
    elim (can_ask b.shape vars)
    as (λ t. IsRising (if not t then b else if refused then bare_replied who Memory b else bare_goes_on who (Took (length b.chain) vars None) b)) [
      | false ↦ h
      | true ↦ elim refused as (λ r. IsRising (if r then bare_replied who Memory b else bare_goes_on who (Took (length b.chain) vars None) b)) [
        | true ↦ rising-replied b who Idle Memory at (no_number (length b.chain)) h
        | false ↦ rising-goes_on b who Idle (Took (length b.chain) vars None) at refl h
      ]
    ]

rising-work : (b : BareState) (who : ℕ) (refused : Bool) (o : Option Stage) → slice_get b.callers who ≡ o → IsRising b → IsRising (bare_by b (Work who refused) o)
rising-work b who refused None at h = h
rising-work b who refused (Some Idle) at h = h
rising-work b who refused (Some (Works n vs to_offer)) at h = h
rising-work b who refused (Some (Took n vars hit)) at h =
    elim refused as (λ r. IsRising (if r then bare_replied who Memory b else bare_goes_on who (Works n vars false) b)) [
      | true ↦ rising-replied b who (Took n vars hit) Memory at (no_number n) h
      | false ↦ rising-goes_on b who (Took n vars hit) (Works n vars false) at refl h
    ]

rising-answer : (b : BareState) (who : ℕ) (o : Option Stage) → slice_get b.callers who ≡ o → IsRising b → IsRising (bare_by b (Answer who) o)
rising-answer b who None at h = h
rising-answer b who (Some Idle) at h = h
rising-answer b who (Some (Took n vs hit)) at h = h
rising-answer b who (Some (Works n vars to_offer)) at h =
    rising-replied b who (Works n vars to_offer) (Got n (cube_of b.shape vars (release_at b.base b.chain n).records)) at (λ m cells e. cc) h

rising-published : (b : BareState) (edits : List Edit) (refused : Bool) → IsRising b → IsRising (if refused then b else bare_published edits b)
rising-published b edits true h = h
rising-published b edits false h =
    elim (edits_fit b.shape edits && can_follow (release_after b.base b.chain) edits)
    as (λ t. IsRising (if t then record b { chain = b.chain ++ batch_of (release_after b.base b.chain) edits ∷ [] } else b)) [
      | true ↦ rising-longer b (batch_of (release_after b.base b.chain) edits) h
      | false ↦ h
    ]

rising-kept : IsKept IsRising
rising-kept = record {
  take = λ b who vars refused h. rising-take b who vars refused (slice_get b.callers who) refl h;
  work = λ b who refused h. rising-work b who refused (slice_get b.callers who) refl h;
  answer = λ b who h. rising-answer b who (slice_get b.callers who) refl h;
  publish = rising-published;
}

-- ---- a run
rising-start : (shape : List ℕ) (base : ReleaseValue) (capacity callers : ℕ) → IsRising (bare_of (start shape base capacity callers))
rising-start shape base capacity callers = record {
  fall = λ i j who n m earlier later before at_i at_j. cc;
  next = λ who stage at.
      let idle : Idle ≡ stage = get-replicate callers who Idle stage (ap (λ (cs : List Stage). slice_get cs who) (sym (map-replicate bare callers Idle)) ∙ at) in
      subst (λ (s : Stage). IsNumber [] 0 who (next_number 0 s)) idle (record { most = λ i n cells at_i. cc; there = omega arith });
}

pub numbers_never_fall : (shape : List ℕ) (base : ReleaseValue) (capacity callers : ℕ) (events : List Event) → NeverFall (run_of (start shape base capacity callers) events).replies
numbers_never_fall shape base capacity callers events =
    subst (λ (b : BareState). NeverFall b.replies) (sym (bare-run (start shape base capacity callers) events))
    (kept_in_run IsRising rising-kept (bare_of (start shape base capacity callers)) events (rising-start shape base capacity callers)).fall
