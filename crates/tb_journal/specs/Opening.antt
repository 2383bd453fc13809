-- What the opening of a journal finds, and what it leaves.
use Rattle.std.specs.Prelude.{◌≡◌, ◌≢◌, ◌≤◌, ◌<◌, ◌^◌, ◌⊎◌, ℕ, List, [], ◌∷◌, ◌++◌, length, take, nat_le, if◌then◌else◌, Option}
use Rattle.tb_disk.specs.Images.{Leads, Only, WhereTold}
use Rattle.tb_disk.specs.Moments.{KeepsPast, LeavesOnly}
use Rattle.tb_journal.specs.declared.opening.JournalOpen.{JournalOpen}
use Rattle.tb_journal.specs.declared.opening.JournalOpen.TheVariants.{Open, NotJournal}
use Rattle.tb_journal.specs.Records.{payloads_before, stands_for}
use Rattle.tb_journal.specs.Stops.{IsOn}
use Rattle.tb_journal.specs.States.{opened}

-- TBJOURN1
abbrev pub header : List ℕ
header = 84 ∷ 66 ∷ 74 ∷ 79 ∷ 85 ∷ 82 ∷ 78 ∷ 49 ∷ []

-- no more than those bytes and a gate: it is written anew
abbrev pub IsFew : List ℕ → Type 0
IsFew file = length file ≤ 9

abbrev pub IsLong : List ℕ → Type 0
IsLong file = (9 < length file) × (length file < 2 ^ 64)

-- a longer file that begins otherwise
abbrev pub IsForeign : List ℕ → Type 0
IsForeign file = (9 < length file) × (take 8 file ≢ header)

-- a longer file begins so
abbrev pub IsOurs : List ℕ → Type 0
IsOurs file = 9 < length file → take 8 file ≡ header

-- a file of at most nine bytes is written anew, and any other stays as it is
abbrev pub opened_file : List ℕ → List ℕ
opened_file file = if nat_le (length file) 9 then header ++ 0 ∷ [] else file

-- new is old, or was written anew; so it stands for the same payloads as old, and none of them
-- stands before the place of a journal that was just opened
pub record IsOpened (old new : List ℕ) : Type 0 where
  pub is : new ≡ opened_file old
  pub stands : stands_for new ≡ stands_for old
  pub before : payloads_before opened.place new ≡ []

-- and the journal is on it
pub record IsBegun (may_leave : List ℕ → Type 0) (old new : List ℕ) : Type 0 where
  pub as_opened : IsOpened old new
  pub on : IsOn new may_leave opened

-- it is one of these files, or neither has more than nine bytes; so it stands for the same payloads
-- as one of them
pub record StandsAsOne (images : List ℕ → Type 0) (file : List ℕ) : Type 0 where
  pub first : List ℕ
  pub left : images first
  pub same : (file ≡ first) ⊎ (IsFew first × IsFew file)
  pub stands : stands_for file ≡ stands_for first

-- how a journal begins: what is found of the file and what is left of it, and what a stop at any
-- moment leaves
pub record Begins {D : Type 0} (content : D → Option (List ℕ))
    (may_leave : D → List ℕ → Type 0) (moment : D → ℕ) (left_since : D → ℕ → List ℕ → Type 0)
    (old new : D) (result : JournalOpen) : Type 0 where
  pub opens : result ≡ Open → Leads (content old) (content new) (IsBegun (may_leave new))
  pub ours : result ≡ Open → WhereTold (content old) IsOurs
  pub foreign : result ≡ NotJournal → WhereTold (content old) IsForeign
  pub untouched : result ≡ NotJournal → content new ≡ content old
  pub durable : result ≡ NotJournal → WhereTold (content old) (λ file. Only file (may_leave new))
  pub any_moment : WhereTold (content old)
      (λ _. LeavesOnly moment left_since old new (StandsAsOne (may_leave old)))
  pub past : KeepsPast moment left_since old new
