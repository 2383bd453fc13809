-- What is found at a journal's next gate.
use Rattle.std.specs.Prelude.{◌≡◌, ◌≢◌, ◌≤◌, ◌<◌, ◌+◌, ◌⊎◌, ℕ, true, List, [], ◌∷◌, ◌++◌, length, take, drop, get_or}
use Rattle.std.specs.Int.{w32, from_be_bytes, to_be_bytes}
use Rattle.tb_release.specs.declared.edits.Edit.{Edit}
use Rattle.tb_spelling.specs.declared.limits.TheConstants.{MOST_PAYLOAD_BYTES}
use Rattle.tb_spelling.specs.Payloads.{IsPayload}
use Rattle.tb_spelling.specs.Spelling.{spelled}
use Rattle.tb_journal.specs.Records.{is_whole, length_at, payload_at, payloads_before, stands_for}
use Rattle.tb_journal.specs.States.{JournalState}
use Rattle.tb_journal.specs.declared.reading.Found.{Found}
use Rattle.tb_journal.specs.declared.reading.Found.TheVariants as found
use Rattle.tb_journal.specs.declared.reading.Next.{Next}
use Rattle.tb_journal.specs.declared.reading.Next.TheVariants as next
use Rattle.tb_journal.specs.declared.reading.Number.{Number}
use Rattle.tb_journal.specs.declared.reading.Number.TheVariants as number
use Rattle.tb_journal.specs.declared.recovered.Recovered.{Recovered}
use Rattle.tb_journal.specs.declared.recovered.Recovered.TheVariants.{Batch, End, BadRecord, DiskFault, Memory}

-- the bytes begin with a record whose payload isn't too long
pub record IsRecord (bytes : List ℕ) : Type 0 where
  pub whole : is_whole bytes ≡ true
  pub short : length_at bytes ≤ MOST_PAYLOAD_BYTES
  pub four : to_be_bytes w32 (length_at bytes) ≡ take 4 (drop 1 bytes)

-- the bytes begin with an open gate behind which there is no such record
pub record IsNoRecord (bytes : List ℕ) : Type 0 where
  pub gate : get_or bytes 0 0 ≡ 1
  pub bad : (length bytes ≤ 5 + length_at bytes) ⊎ (MOST_PAYLOAD_BYTES < length_at bytes)

-- the bytes begin with an open gate, and no record of edits: the record doesn't lie in the file, or
-- its payload is too long, or is that of no edits
pub record IsBad (bytes : List ℕ) : Type 0 where
  pub gate : get_or bytes 0 0 ≡ 1
  pub bad : (length bytes ≤ 5 + length_at bytes)
      ⊎ ((MOST_PAYLOAD_BYTES < length_at bytes)
      ⊎ ((edits : List Edit) → ¬ IsPayload (payload_at bytes) edits))

abbrev pub IsByte : List ℕ → Number → Type 0
IsByte bytes (number.Is n) = n ≡ get_or bytes 0 0
IsByte bytes number.Failed = Unit {0}

-- the number, and that its four bytes are those of that number
abbrev pub IsNumber : List ℕ → Number → Type 0
IsNumber bytes (number.Is n) =
    (n ≡ from_be_bytes w32 (take 4 bytes)) × (to_be_bytes w32 n ≡ take 4 bytes)
IsNumber bytes number.Failed = Unit {0}

-- these are so many bytes in front
abbrev pub AreBytes : List ℕ → ℕ → Next → Type 0
AreBytes bytes size (next.Payload payload) = payload.items ≡ take size bytes
AreBytes bytes size next.End = ⊥
AreBytes bytes size next.Bad = ⊥
AreBytes bytes size next.DiskFault = Unit {0}
AreBytes bytes size next.Memory = Unit {0}

-- a payload comes exactly where there is a record, the end exactly where the gate isn't open
abbrev pub TellsNext : List ℕ → Next → Type 0
TellsNext bytes (next.Payload payload) = IsRecord bytes × (payload.items ≡ payload_at bytes)
TellsNext bytes next.End = get_or bytes 0 1 ≢ 1
TellsNext bytes next.Bad = IsNoRecord bytes
TellsNext bytes next.DiskFault = Unit {0}
TellsNext bytes next.Memory = Unit {0}

-- a batch comes exactly where there is a record of its edits
abbrev pub TellsFound : List ℕ → Found → Type 0
TellsFound bytes (found.Batch edits size) = IsRecord bytes × IsPayload (payload_at bytes) edits
TellsFound bytes found.End = get_or bytes 0 1 ≢ 1
TellsFound bytes found.Bad = IsBad bytes
TellsFound bytes found.DiskFault = Unit {0}
TellsFound bytes found.Memory = Unit {0}

-- a batch comes with the number of its payload's bytes
abbrev pub IsSizeFound : Found → Type 0
IsSizeFound (found.Batch edits size) = size ≡ length (spelled edits)
IsSizeFound found.End = Unit {0}
IsSizeFound found.Bad = Unit {0}
IsSizeFound found.DiskFault = Unit {0}
IsSizeFound found.Memory = Unit {0}

-- the record at a journal's next gate is that of these edits, and its payload is the next of those
-- for which the file stands
pub record IsNextBatch (file : List ℕ) (old new : JournalState) (edits : List Edit) : Type 0 where
  pub record_there : IsRecord (drop old.place file)
  pub payload : IsPayload (payload_at (drop old.place file)) edits
  pub before : payloads_before new.place file
      ≡ payloads_before old.place file ++ payload_at (drop old.place file) ∷ []
  pub more : List (List ℕ)
  pub stands : stands_for file ≡ payloads_before new.place file ++ more

-- the next gate isn't open: the payloads that were read are all for which the file stands
pub record IsEnd (file : List ℕ) (old : JournalState) : Type 0 where
  pub shut : get_or file old.place 1 ≢ 1
  pub stands : stands_for file ≡ payloads_before old.place file

-- a batch comes exactly where the record at the next gate is that of its edits, the end exactly
-- where that gate isn't open, and `BadRecord` exactly where it is and there is no record of edits
abbrev pub Tells : List ℕ → JournalState → JournalState → Recovered → Type 0
Tells file old new (Batch edits) = IsNextBatch file old new edits
Tells file old new End = IsEnd file old
Tells file old new (BadRecord r) = IsBad (drop old.place file)
Tells file old new DiskFault = Unit {0}
Tells file old new Memory = Unit {0}
