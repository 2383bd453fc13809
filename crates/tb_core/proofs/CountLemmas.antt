-- Each reply's cells are counted from scratch, over a release of the chain whose records fit.
use Rattle.std.proofs.Common.{◌≡◌, ℕ, ◌≤◌, Bool, true, false, List, [], ◌∷◌, ◌++◌, length, length-append, take, Option, Some, None, inl, inr, refl, sym, ap, ◌∙◌, subst, arith}
use Rattle.std.specs.Prelude.{◌&&◌, if◌then◌else◌, not, slice_get}
use Rattle.std.proofs.lemmas.Bool.{and_parts}
use Rattle.std.proofs.lemmas.List.{take-append-le}
use Rattle.tb_base.specs.declared.cells.Cell.{Cell}
use Rattle.tb_model.specs.Cubes.{cube_of}
use Rattle.tb_model.specs.Releases.{ReleaseValue}
use Rattle.tb_release.specs.Batches.{BatchValue, batch_of, next_release}
use Rattle.tb_release.specs.Chains.{release_after}
use Rattle.tb_release.specs.Results.{IsNext}
use Rattle.tb_release.specs.declared.edits.Edit.{Edit}
use Rattle.tb_release.proofs.Runs.{batch_fits}
use Rattle.tb_core.specs.declared.events.Event.{Event}
use Rattle.tb_core.specs.declared.events.Event.TheVariants.{Take, Work, Answer}
use Rattle.tb_core.specs.declared.events.Outcome.{Outcome}
use Rattle.tb_core.specs.declared.events.Outcome.TheVariants.{Got, Memory}
use Rattle.tb_core.specs.declared.events.Reply.{Reply}
use Rattle.tb_core.specs.Callers.{Stage}
use Rattle.tb_core.specs.Callers.Stage.{Idle, Took, Works}
use Rattle.tb_core.specs.Desks.{release_at, HasCube, IsRevised}
use Rattle.tb_core.specs.Fitting.{can_ask, can_follow}
use Rattle.tb_release.specs.Fitting.{edits_fit}
use Rattle.tb_core.specs.Runs.{run_of, start}
use Rattle.tb_core.specs.Laws.{bare, bare_by, bare_goes_on, bare_of, bare_published, bare_replied, got, BareState, IsCounted}
use Rattle.tb_core.proofs.ChainLemmas.{after_all, revised_on}
use Rattle.tb_core.proofs.FitLemmas.{ask_told, follow_told}
use Rattle.tb_release.proofs.FitTests.{fits_all}
use Rattle.tb_core.proofs.LawLemmas.{bare-run, kept_in_run, IsKept}
use Rattle.tb_core.proofs.NumberLemmas.{get-push, get-replicate, get-set}
use Rattle.tb_core.proofs.SystemLemmas.{map-replicate}

-- ---- the chain
-- the batch of edits that fit and can follow
revised-next : (shape : List ℕ) (base : ReleaseValue) (chain : List BatchValue) (edits : List Edit) → IsRevised shape base chain → edits_fit shape edits ≡ true → can_follow (release_after base chain) edits ≡ true
    → IsRevised shape base (chain ++ batch_of (release_after base chain) edits ∷ [])
revised-next shape base chain edits h fits can =
    let old : ReleaseValue = release_after base chain in
    let batch : BatchValue = batch_of old edits in
    let follows = follow_told old edits can in
    let next : IsNext old edits (next_release old edits) batch = record { can = follows; release = refl; batch_is = refl } in
    revised_on shape base chain batch h (record { edits = edits; can = follows; theirs = refl })
    (batch_fits shape old (next_release old edits) edits batch (after_all shape base chain h).fit (fits_all shape edits fits) next)

-- ---- what holds in a run
-- a caller's release is of the chain, and there is a cube over its variables
abbrev IsStage : List ℕ → ℕ → Stage → Type 0
IsStage shape now Idle = Unit {0}
IsStage shape now (Took n vars hit) = (n ≤ now) × HasCube shape vars
IsStage shape now (Works n vars to_offer) = (n ≤ now) × HasCube shape vars

record AreCounted (shape : List ℕ) (base : ReleaseValue) (b : BareState) : Type 0 where
  same_shape : b.shape ≡ shape
  same_base : b.base ≡ base
  revised : IsRevised shape base b.chain
  replies : (i who n : ℕ) (cells : List Cell) → slice_get b.replies i ≡ Some (got who n cells) → IsCounted shape base b.chain n cells
  callers : (who : ℕ) (stage : Stage) → slice_get b.callers who ≡ Some stage → IsStage shape (length b.chain) stage

module _ (shape : List ℕ) (base : ReleaseValue) where
  counted-goes_on : (b : BareState) (who : ℕ) (new : Stage) → IsStage shape (length b.chain) new → AreCounted shape base b → AreCounted shape base (bare_goes_on who new b)
  counted-goes_on b who new good h = record {
    same_shape = h.same_shape;
    same_base = h.same_base;
    revised = h.revised;
    replies = h.replies;
    callers = λ q stage at. elim (get-set b.callers who q new stage at) [
      | inl own ↦ subst (IsStage shape (length b.chain)) own.1 good
      | inr other ↦ h.callers q stage other.1
    ];
  }

  counted-replied : (b : BareState) (who : ℕ) (outcome : Outcome) → ((n : ℕ) (cells : List Cell) → outcome ≡ Got n cells → IsCounted shape base b.chain n cells)
      → AreCounted shape base b → AreCounted shape base (bare_replied who outcome b)
  counted-replied b who outcome good h = record {
    same_shape = h.same_shape;
    same_base = h.same_base;
    revised = h.revised;
    replies = λ i q n cells at. elim (get-push b.replies i (record { who = who; outcome = outcome }) (got q n cells) at) [
      | inl old ↦ h.replies i q n cells old
      | inr new ↦ good n cells (ap (λ (r : Reply). r.outcome) new.1)
    ];
    callers = λ q stage at. elim (get-set b.callers who q Idle stage at) [
      | inl own ↦ subst (IsStage shape (length b.chain)) own.1 tt
      | inr other ↦ h.callers q stage other.1
    ];
  }

  stage-later : (now since : ℕ) (stage : Stage) → now ≤ since → IsStage shape now stage → IsStage shape since stage
  stage-later now since Idle low h = tt
  stage-later now since (Took n vars hit) low h = (omega (arith, h.0), h.1)
  stage-later now since (Works n vars to_offer) low h = (omega (arith, h.0), h.1)

  reply-later : (chain more : List BatchValue) (n : ℕ) (cells : List Cell) → IsCounted shape base chain n cells → IsCounted shape base (chain ++ more) n cells
  reply-later chain more n cells h =
      let there = h.there in
      let same : take n (chain ++ more) ≡ take n chain = take-append-le n chain more there in record {
        vars = h.vars;
        has = h.has;
        there = rw length-append (omega arith);
        counted = rw same h.counted;
      }

  counted-longer : (b : BareState) (batch : BatchValue) → IsRevised shape base (b.chain ++ batch ∷ []) → AreCounted shape base b → AreCounted shape base (record b { chain = b.chain ++ batch ∷ [] })
  counted-longer b batch revised h =
      let long : length b.chain ≤ length (b.chain ++ batch ∷ []) = omega (arith, length-append b.chain (batch ∷ [])) in record {
        same_shape = h.same_shape;
        same_base = h.same_base;
        revised = revised;
        replies = λ i who n cells at. reply-later b.chain (batch ∷ []) n cells (h.replies i who n cells at);
        callers = λ who stage at. stage-later (length b.chain) (length (b.chain ++ batch ∷ [])) stage long (h.callers who stage at);
      }

  counted-published : (b : BareState) (edits : List Edit) (refused : Bool) → AreCounted shape base b → AreCounted shape base (if refused then b else bare_published edits b)
  counted-published b edits true h = h
  counted-published b edits false h =
      let batch : BatchValue = batch_of (release_after b.base b.chain) edits in
      (elim (edits_fit b.shape edits && can_follow (release_after b.base b.chain) edits)
      as (λ t. (edits_fit b.shape edits && can_follow (release_after b.base b.chain) edits) ≡ t → AreCounted shape base (if t then record b { chain = b.chain ++ batch ∷ [] } else b)) [
        | true ↦ λ is.
            let parts = and_parts (edits_fit b.shape edits) (can_follow (release_after b.base b.chain) edits) is in
            let revised : IsRevised b.shape b.base b.chain =
            subst (λ (s : List ℕ). IsRevised s b.base b.chain) (sym h.same_shape) (subst (λ (r : ReleaseValue). IsRevised shape r b.chain) (sym h.same_base) h.revised) in
            let next : IsRevised b.shape b.base (b.chain ++ batch ∷ []) = revised-next b.shape b.base b.chain edits revised parts.0 parts.1 in
            counted-longer b batch
            (subst (λ (s : List ℕ). IsRevised s base (b.chain ++ batch ∷ [])) h.same_shape (subst (λ (r : ReleaseValue). IsRevised b.shape r (b.chain ++ batch ∷ [])) h.same_base next)) h
        | false ↦ λ is. h
      ]) refl

  -- ---- the events
  no_cells : (b : BareState) (n : ℕ) (cells : List Cell) → Memory ≡ Got n cells → IsCounted shape base b.chain n cells
  no_cells b n cells e = let no : ⊥ = cc in absurd no

  counted-take : (b : BareState) (who : ℕ) (vars : Option (List ℕ)) (refused : Bool) (o : Option Stage) → AreCounted shape base b → AreCounted shape base (bare_by b (Take who vars refused) o)
  counted-take b who None refused None h = h
  counted-take b who None refused (Some Idle) h = h
  counted-take b who None refused (Some (Took n vs hit)) h = h
  counted-take b who None refused (Some (Works n vs to_offer)) h = h
  counted-take b who (Some vars) refused None h = h
  counted-take b who (Some vars) refused (Some (Took n vs hit)) h = h
  counted-take b who (Some vars) refused (Some (Works n vs to_offer)) h = h
  counted-take b who (Some vars) refused (Some Idle) h =
      (elim (can_ask b.shape vars)
      as (λ t. can_ask b.shape vars ≡ t
      → AreCounted shape base (if not t then b else if refused then bare_replied who Memory b else bare_goes_on who (Took (length b.chain) vars None) b)) [
        | false ↦ λ is. h
        | true ↦ λ is. elim refused as (λ r. AreCounted shape base (if r then bare_replied who Memory b else bare_goes_on who (Took (length b.chain) vars None) b)) [
          | true ↦ counted-replied b who Memory (no_cells b) h
          | false ↦ counted-goes_on b who (Took (length b.chain) vars None) (omega arith, subst (λ (s : List ℕ). HasCube s vars) h.same_shape (ask_told b.shape vars is).has) h
        ]
      ]) refl

  counted-work : (b : BareState) (who : ℕ) (refused : Bool) (o : Option Stage) → slice_get b.callers who ≡ o → AreCounted shape base b → AreCounted shape base (bare_by b (Work who refused) o)
  counted-work b who refused None at h = h
  counted-work b who refused (Some Idle) at h = h
  counted-work b who refused (Some (Works n vs to_offer)) at h = h
  counted-work b who refused (Some (Took n vars hit)) at h =
      elim refused as (λ r. AreCounted shape base (if r then bare_replied who Memory b else bare_goes_on who (Works n vars false) b)) [
        | true ↦ counted-replied b who Memory (no_cells b) h
        | false ↦ counted-goes_on b who (Works n vars false) (h.callers who (Took n vars hit) at) h
      ]

  own_cells : (b : BareState) (n m : ℕ) (vars : List ℕ) (cells : List Cell) → AreCounted shape base b → n ≤ length b.chain → HasCube shape vars
      → Got n (cube_of b.shape vars (release_at b.base b.chain n).records) ≡ Got m cells → IsCounted shape base b.chain m cells
  own_cells b n m vars cells h there has e =
      let number : n ≡ m = cc in
      let same : cells ≡ cube_of b.shape vars (release_at b.base b.chain n).records = cc in
      subst (λ k. IsCounted shape base b.chain k cells) number (record {
        vars = vars;
        has = has;
        there = there;
        counted = same ∙ ap (λ (s : List ℕ). cube_of s vars (release_at b.base b.chain n).records) h.same_shape
            ∙ ap (λ (r : ReleaseValue). cube_of shape vars (release_at r b.chain n).records) h.same_base;
      })

  counted-answer : (b : BareState) (who : ℕ) (o : Option Stage) → slice_get b.callers who ≡ o → AreCounted shape base b → AreCounted shape base (bare_by b (Answer who) o)
  counted-answer b who None at h = h
  counted-answer b who (Some Idle) at h = h
  counted-answer b who (Some (Took n vs hit)) at h = h
  counted-answer b who (Some (Works n vars to_offer)) at h =
      let good = h.callers who (Works n vars to_offer) at in
      counted-replied b who (Got n (cube_of b.shape vars (release_at b.base b.chain n).records)) (λ m cells e. own_cells b n m vars cells h good.0 good.1 e) h

  counted-kept : IsKept (AreCounted shape base)
  counted-kept = record {
    take = λ b who vars refused h. counted-take b who vars refused (slice_get b.callers who) h;
    work = λ b who refused h. counted-work b who refused (slice_get b.callers who) refl h;
    answer = λ b who h. counted-answer b who (slice_get b.callers who) refl h;
    publish = counted-published;
  }

  -- ---- a run
  counted-start : (capacity callers : ℕ) → IsRevised shape base [] → AreCounted shape base (bare_of (start shape base capacity callers))
  counted-start capacity callers revised = record {
    same_shape = refl;
    same_base = refl;
    revised = revised;
    replies = λ i who n cells at. let no : ⊥ = cc in absurd no;
    callers = λ who stage at.
        let idle : Idle ≡ stage = get-replicate callers who Idle stage (ap (λ (cs : List Stage). slice_get cs who) (sym (map-replicate bare callers Idle)) ∙ at) in
        subst (IsStage shape 0) idle tt;
  }

  counted : (capacity callers : ℕ) (events : List Event) → IsRevised shape base [] → AreCounted shape base (bare_of (run_of (start shape base capacity callers) events))
  counted capacity callers events revised =
      subst (AreCounted shape base) (sym (bare-run (start shape base capacity callers) events))
      (kept_in_run (AreCounted shape base) counted-kept (bare_of (start shape base capacity callers)) events
      (counted-start capacity callers revised))

pub chains_follow : (shape : List ℕ) (base : ReleaseValue) (capacity callers : ℕ) (events : List Event) → IsRevised shape base []
    → IsRevised shape base (run_of (start shape base capacity callers) events).desk.chain
chains_follow shape base capacity callers events revised = (counted shape base capacity callers events revised).revised

pub replies_are_counted : (shape : List ℕ) (base : ReleaseValue) (capacity callers : ℕ) (events : List Event) → IsRevised shape base []
    → (i who n : ℕ) (cells : List Cell) → slice_get (run_of (start shape base capacity callers) events).replies i ≡ Some (got who n cells)
    → IsCounted shape base (run_of (start shape base capacity callers) events).desk.chain n cells
replies_are_counted shape base capacity callers events revised = (counted shape base capacity callers events revised).replies
