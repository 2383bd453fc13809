-- What the calls on edits return.
use Rattle.std.specs.Prelude.{◌≡◌, ◌<◌, ℕ, List, [], ◌∷◌, ◌++◌, length, Option, Some}
use Rattle.std.specs.Prelude.{Result, Ok, Err}
use Rattle.std.specs.Option.{ForSome}
use Rattle.tb_base.specs.Records.{Fits}
use Rattle.tb_model.specs.Releases.{ReleaseValue}
use Rattle.tb_release.specs.declared.edits.Edit.{Edit}
use Rattle.tb_release.specs.declared.edits.Change.{Change}
use Rattle.tb_release.specs.declared.edits.Pushed.{Pushed}
use Rattle.tb_release.specs.declared.edits.Pushed.TheVariants as pushed
use Rattle.tb_release.specs.declared.fault.EditFault.{EditFault}
use Rattle.tb_release.specs.declared.fault.EditFault.TheVariants as fault
use Rattle.tb_release.specs.declared.fault.EditFaultKind.{EditFaultKind}
use Rattle.tb_release.specs.declared.limits.TheConstants.{MOST_EDITS}
use Rattle.tb_release.specs.Batches.{BatchValue, CanFollow, batch_of, next_release}

-- how an edit is pushed: it goes last where fewer than the most are held; else, and where the call
-- is out of memory, it comes back and nothing has changed
abbrev pub Pushes : List Edit → Edit → Result (Unit {0}) Pushed → List Edit → Type 0
Pushes held edit (Ok _) after = (length held < MOST_EDITS) × (after ≡ held ++ edit ∷ [])
Pushes held edit (Err (pushed.Full back)) after =
    (length held ≡ MOST_EDITS) × (back ≡ edit) × (after ≡ held)
Pushes held edit (Err (pushed.Memory back)) after =
    (length held < MOST_EDITS) × (back ≡ edit) × (after ≡ held)

-- edits can follow a release, and this is the next release with this batch
pub record IsNext (old : ReleaseValue) (edits : List Edit) (next : ReleaseValue)
    (batch : BatchValue) : Type 0 where
  pub can : CanFollow old edits
  pub release : next ≡ next_release old edits
  pub batch_is : batch ≡ batch_of old edits

-- a fault says why edits can't follow; want of memory says nothing of them
abbrev pub IsWhy : Option (EditFaultKind × ℕ) → EditFault → Type 0
IsWhy why (fault.Refused kind edit) = why ≡ Some (kind, edit)
IsWhy why fault.Memory = Unit {0}

-- the records before and after a change fit a shape
abbrev pub ChangeFits : List ℕ → Change → Type 0
ChangeFits shape change = ForSome change.before (Fits shape) × ForSome change.after (Fits shape)
