-- A release that is led on by batches.
use Rattle.std.specs.Prelude.{◌≡◌, ◌+◌, ◌<◌, ◌≤◌, ℕ, false, List, length, Option, Some, None}
use Rattle.tb_base.specs.declared.people.TheConstants.{MOST_PERSONS}
use Rattle.tb_base.specs.declared.records.Record.{Record}
use Rattle.tb_base.specs.Persons.{has_person}
use Rattle.tb_model.specs.Pages.{records_in}
use Rattle.tb_model.specs.Releases.{ReleaseValue}
use Rattle.tb_pages.specs.declared.pages.TheConstants.{PAGES}
use Rattle.tb_pages.specs.declared.register.Register.{Register}
use Rattle.tb_pages.specs.Books.{keys_in}
use Rattle.tb_pages.specs.Pages.{changed_pages, record_of}
use Rattle.tb_pages.specs.Registers.{IsRegister, IsReplaced, IsTaken}
use Rattle.tb_release.specs.declared.edits.Change.{Change}
use Rattle.tb_release.specs.declared.limits.TheConstants.{MOST_CHANGES}
use Rattle.tb_release.specs.declared.replaying.Reached.{Reached}
use Rattle.tb_release.specs.Batches.{BatchValue, Follows}
use Rattle.tb_release.specs.Chains.{after_batch, changed_book}
use Rattle.tb_release.specs.Releases.{IsShared, registered}

-- a new record may be added: it is the person's, who has none, and there is room for it
pub record CanBeAdded (person : ℕ) (register : Register) (new : Record) : Type 0 where
  pub own : new.person ≡ person
  pub none : has_person (records_in register.pages) person ≡ false
  pub few : length (records_in register.pages) < MOST_PERSONS
  pub room : length register.pages < PAGES

-- a change can be made: the record before it, if there is one, is the person's, and the one after
-- it, if there is one, is of the same person
abbrev pub CanChange : ℕ → Option Record → Option Record → Register → Type 0
CanChange person None None register = Unit {0}
CanChange person None (Some new) register = CanBeAdded person register new
CanChange person (Some old) None register =
    record_of (records_in register.pages) person ≡ Some old
CanChange person (Some old) (Some new) register =
    (new.person ≡ person) × (record_of (records_in register.pages) person ≡ Some old)

-- a change was made under a stamp
pub record IsChanged (stamp : ℕ) (change : Change) (old new : Register) : Type 0 where
  pub pages : new.pages
      ≡ changed_pages stamp old.pages change.person change.before change.after
  pub keys : keys_in new.book
      ≡ changed_book (keys_in old.book) change.person change.before change.after
  pub whole : IsRegister new

-- a person's record was taken out under a stamp, or replaced, whatever it was
abbrev pub WasTaken : ℕ → ℕ → Register → Register → Type 0
WasTaken stamp person old new = (before : Record) × IsTaken stamp person old new before

abbrev pub WasReplaced : ℕ → Record → Register → Register → Type 0
WasReplaced stamp one old new = (before : Record) × IsReplaced stamp one old new before

-- a register has the pages and keys of a release, and the batch that follows it is to be made under
-- the next release's number
pub record CanReplay (release : ReleaseValue) (batch : BatchValue) (stamp : ℕ)
    (register : Register) : Type 0 where
  pub shared : IsShared release register
  pub follows : Follows release batch
  pub next : stamp ≡ release.number + 1

-- the release that was reached
abbrev pub release_reached : Reached → ReleaseValue
release_reached reached =
    registered reached.register reached.most reached.number reached.changes reached.edits
    reached.rules

-- what was reached serves as a release, and edits led to it that aren't too many
pub record IsReached (reached : Reached) : Type 0 where
  pub shared : IsShared (release_reached reached) reached.register
  pub few : reached.edits ≤ MOST_CHANGES

-- it is this release
pub record IsReachedFrom (release : ReleaseValue) (reached : Reached) : Type 0 where
  pub same : release_reached reached ≡ release
  pub whole : IsReached reached

-- a batch led from a release that was reached to the next
pub record IsLed (batch : BatchValue) (old new : Reached) : Type 0 where
  pub leads : release_reached new ≡ after_batch (release_reached old) batch
  pub whole : IsReached new
