-- What a journal knows, and what each of its calls leaves of that.
use Rattle.std.specs.Prelude.{◌≡◌, ◌+◌, ◌-◌, ◌^◌, ℕ, Bool, true, false, length, min}
use Rattle.tb_spelling.specs.Spelling.{spelled}
use Rattle.tb_journal.specs.declared.recovered.Recovered.{Recovered}
use Rattle.tb_journal.specs.declared.recovered.Recovered.TheVariants.{Batch, End, BadRecord, DiskFault, Memory}

-- the place of the next gate, how many payloads were read, whether more can be put, and whether all
-- payloads were read
pub record JournalState : Type 0 where
  pub place : ℕ
  pub read : ℕ
  pub live : Bool
  pub at_end : Bool

-- a journal that was just opened
abbrev pub opened : JournalState
opened = record { place = 8; read = 0; live = true; at_end = false }

abbrev pub last_place : ℕ
last_place = 2 ^ 64 - 1

-- behind the record of a payload of so many bytes, as far as a place goes
abbrev pub place_after : ℕ → ℕ → ℕ
place_after place size = min (place + (5 + size)) last_place

-- how a journal stands after it was asked for the next batch
abbrev pub AfterNext : JournalState → Recovered → JournalState → Type 0
AfterNext old (Batch edits) new =
    new ≡ record old {
      place = place_after old.place (length (spelled edits));
      read = old.read + 1;
    }
AfterNext old End new = new ≡ record old { at_end = true }
AfterNext old (BadRecord r) new = (r ≡ old.read + 1) × (new ≡ record old { live = false })
AfterNext old DiskFault new = new ≡ record old { live = false }
AfterNext old Memory new = new ≡ old
