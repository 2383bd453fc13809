-- What an event may do to a system that keeps no cubes.
use Rattle.std.proofs.Common.{◌≡◌, ℕ, ◌++◌, Bool, true, false, List, [], ◌∷◌, length, Option, Some, None, refl}
use Rattle.std.specs.Prelude.{◌&&◌, if◌then◌else◌, not, slice_get}
use Rattle.tb_base.specs.declared.cells.Cell.{Cell}
use Rattle.tb_core.specs.declared.events.Event.{Event}
use Rattle.tb_core.specs.declared.events.Event.TheVariants.{Take, Work, Offer, Answer, Publish, Clear, Resize, Stats}
use Rattle.tb_core.specs.declared.events.Outcome.TheVariants.{Got, Memory}
use Rattle.tb_core.specs.Callers.{Stage}
use Rattle.tb_core.specs.Callers.Stage.{Idle, Took, Works}
use Rattle.tb_core.specs.Desks.{release_at}
use Rattle.tb_core.specs.Fitting.{can_ask, can_follow}
use Rattle.tb_core.specs.Laws.{bare_after, bare_by, bare_goes_on, bare_published, bare_replied, BareState}
use Rattle.tb_model.specs.Cubes.{cube_of}
use Rattle.tb_release.specs.declared.edits.Edit.{Edit}
use Rattle.tb_release.specs.Batches.{batch_of, BatchValue}
use Rattle.tb_release.specs.Chains.{release_after}
use Rattle.tb_release.specs.Fitting.{edits_fit}

-- the variables that a caller took, if it isn't idle
abbrev pub set_of : Stage → Option (List ℕ)
set_of Idle = None
set_of (Took n vars hit) = Some vars
set_of (Works n vars to_offer) = Some vars

-- a caller took these variables, and isn't idle since
pub record Holds (who : ℕ) (vars : List ℕ) (b : BareState) : Type 0 where
  pub stage : Stage
  pub at : slice_get b.callers who ≡ Some stage
  pub took : set_of stage ≡ Some vars

-- nothing; an idle caller takes; a caller goes on with its variables; it is refused memory, or answered; or the chain has one batch more
pub record Moves (P : Event → BareState → Type 0) (b : BareState) : Type 0 where
  pub same : (event : Event) → P event b
  pub takes : (who n : ℕ) (vars : List ℕ) → slice_get b.callers who ≡ Some Idle → P (Take who (Some vars) false) (bare_goes_on who (Took n vars None) b)
  pub works : (event : Event) (who : ℕ) (old new : Stage) → slice_get b.callers who ≡ Some old → set_of old ≡ set_of new → P event (bare_goes_on who new b)
  pub refuses : (event : Event) (who : ℕ) (old : Stage) → slice_get b.callers who ≡ Some old → P event (bare_replied who Memory b)
  pub answers : (who n : ℕ) (vars : List ℕ) (cells : List Cell) → Holds who vars b → P (Answer who) (bare_replied who (Got n cells) b)
  pub longer : (event : Event) (batch : BatchValue) → P event (record b { chain = b.chain ++ batch ∷ [] })

module _ (P : Event → BareState → Type 0) (b : BareState) (m : Moves P b) where
  moved-take : (who : ℕ) (vars : Option (List ℕ)) (refused : Bool) (o : Option Stage) → slice_get b.callers who ≡ o → P (Take who vars refused) (bare_by b (Take who vars refused) o)
  moved-take who None refused None at = m.same _
  moved-take who None refused (Some Idle) at = m.same _
  moved-take who None refused (Some (Took n vs hit)) at = m.same _
  moved-take who None refused (Some (Works n vs to_offer)) at = m.same _
  moved-take who (Some vars) refused None at = m.same _
  moved-take who (Some vars) refused (Some (Took n vs hit)) at = m.same _
  moved-take who (Some vars) refused (Some (Works n vs to_offer)) at = m.same _
  moved-take who (Some vars) refused (Some Idle) at =
      elim (can_ask b.shape vars)
      as (λ t. P (Take who (Some vars) refused) (if not t then b else if refused then bare_replied who Memory b else bare_goes_on who (Took (length b.chain) vars None) b)) [
        | false ↦ m.same _
        | true ↦ elim refused as (λ r. P (Take who (Some vars) r) (if r then bare_replied who Memory b else bare_goes_on who (Took (length b.chain) vars None) b)) [
          | true ↦ m.refuses _ who Idle at
          | false ↦ m.takes who (length b.chain) vars at
        ]
      ]

  moved-work : (who : ℕ) (refused : Bool) (o : Option Stage) → slice_get b.callers who ≡ o → P (Work who refused) (bare_by b (Work who refused) o)
  moved-work who refused None at = m.same _
  moved-work who refused (Some Idle) at = m.same _
  moved-work who refused (Some (Works n vs to_offer)) at = m.same _
  moved-work who refused (Some (Took n vars hit)) at =
      elim refused as (λ r. P (Work who r) (if r then bare_replied who Memory b else bare_goes_on who (Works n vars false) b)) [
        | true ↦ m.refuses _ who (Took n vars hit) at
        | false ↦ m.works _ who (Took n vars hit) (Works n vars false) at refl
      ]

  moved-answer : (who : ℕ) (o : Option Stage) → slice_get b.callers who ≡ o → P (Answer who) (bare_by b (Answer who) o)
  moved-answer who None at = m.same _
  moved-answer who (Some Idle) at = m.same _
  moved-answer who (Some (Took n vs hit)) at = m.same _
  moved-answer who (Some (Works n vars to_offer)) at =
      m.answers who n vars (cube_of b.shape vars (release_at b.base b.chain n).records)
      (record { stage = Works n vars to_offer; at = at; took = refl })

  moved-published : (edits : List Edit) (refused : Bool) → P (Publish edits refused) (if refused then b else bare_published edits b)
  moved-published edits true = m.same _
  moved-published edits false =
      elim (edits_fit b.shape edits && can_follow (release_after b.base b.chain) edits)
      as (λ t. P (Publish edits false) (if t then record b { chain = b.chain ++ batch_of (release_after b.base b.chain) edits ∷ [] } else b)) [
        | true ↦ m.longer _ (batch_of (release_after b.base b.chain) edits)
        | false ↦ m.same _
      ]

  pub moved : (event : Event) → P event (bare_after b event)
  moved (Take who vars refused) = moved-take who vars refused (slice_get b.callers who) refl
  moved (Work who refused) = moved-work who refused (slice_get b.callers who) refl
  moved (Offer who refused) = m.same _
  moved (Answer who) = moved-answer who (slice_get b.callers who) refl
  moved (Publish edits refused) = moved-published edits refused
  moved Clear = m.same _
  moved (Resize capacity refused) = m.same _
  moved Stats = m.same _
