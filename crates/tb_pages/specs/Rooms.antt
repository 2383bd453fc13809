-- How many pages there can be.
use Rattle.std.specs.Prelude.{◌<◌, ◌≤◌, ℕ, ◌+◌, ◌*◌, List, [], ◌∷◌, length, Option}
use Rattle.tb_base.specs.declared.records.Record.{Record}
use Rattle.tb_model.specs.declared.rooms.TheConstants.{PAGE_ROOM}
use Rattle.tb_pages.specs.declared.pages.TheConstants.{PAGES}
use Rattle.tb_model.specs.Pages.{PageValue, cut}
use Rattle.tb_pages.specs.Pages.{changed_pages}

-- how many records the last page has
abbrev pub last_length : List PageValue → ℕ
last_length [] = 0
last_length (p ∷ []) = length p.records
last_length (p ∷ (q ∷ ps)) = last_length (q ∷ ps)

-- so many adds suffice for these pages: all but the last were full once
abbrev pub AreFilledBy : List PageValue → ℕ → Type 0
AreFilledBy pages adds = PAGE_ROOM * length pages + last_length pages ≤ adds + PAGE_ROOM

-- a change is one add at most
abbrev pub ChangesFill : Type 0
ChangesFill =
    (stamp : ℕ) (pages : List PageValue) (person : ℕ) (before after : Option Record) (adds : ℕ)
    → AreFilledBy pages adds
    → AreFilledBy (changed_pages stamp pages person before after) (adds + 1)

-- so are those of release 0
abbrev pub RecordsFill : Type 0
RecordsFill = (records : List Record) → AreFilledBy (cut records) (length records)

-- 101 million adds leave fewer pages than there are numbers
abbrev pub FewPages : Type 0
FewPages =
    (pages : List PageValue) (adds : ℕ) → AreFilledBy pages adds → adds ≤ 101000000
    → length pages < PAGES
