-- Edits, and what they leave.
use Rattle.std.specs.Prelude.{ℕ, ◌+◌, Bool, true, false, not, if◌then◌else◌, List, ◌∷◌, ◌++◌, []}
use Rattle.std.specs.Prelude.{map, filter, fold, slice_set}
use Rattle.std.specs.FinMap as finmap
use Rattle.tb_base.specs.declared.records.Record.{Record}
use Rattle.tb_base.specs.Rules.{RulesValue, with_oldest, with_pvalue, with_threshold}
use Rattle.tb_model.specs.Pages.{PageValue}
use Rattle.tb_model.specs.Releases.{KeyBook, ReleaseValue}
use Rattle.tb_pages.specs.Pages.{changed_pages, is_of, record_of}
use Rattle.tb_release.specs.declared.edits.Edit.{Edit}
use Rattle.tb_release.specs.declared.edits.Edit.TheVariants.{Add, Drop, Amend, Pvalue}
use Rattle.tb_release.specs.declared.edits.Edit.TheVariants.{Oldest, Threshold}

-- whether an edit is one of the rules, and not of a record
abbrev pub is_of_rules : Edit → Bool
is_of_rules (Add person key codes) = false
is_of_rules (Drop person) = false
is_of_rules (Amend person sets) = false
is_of_rules (Pvalue row key pvalue) = true
is_of_rules (Threshold value) = true
is_of_rules (Oldest oldest) = true

-- the person of an edit of a record; an edit of the rules has none
abbrev pub person_of : Edit → ℕ
person_of (Add person key codes) = person
person_of (Drop person) = person
person_of (Amend person sets) = person
person_of (Pvalue row key pvalue) = 0
person_of (Threshold value) = 0
person_of (Oldest oldest) = 0

-- a record with the settings made in their order
abbrev pub amended : List (ℕ × ℕ) → Record → Record
amended sets r = record r { codes = fold (λ codes s. slice_set codes s.0 s.1) r.codes sets }

-- the records that an edit leaves: an added one goes last, a dropped one leaves and the rest closes
-- up, and an amended one keeps its place
abbrev pub edited_records : List Record → Edit → List Record
edited_records records (Add person key codes) =
    records ++ record { person = person; key = key; codes = codes } ∷ []
edited_records records (Drop person) = filter (λ r. not (is_of person r)) records
edited_records records (Amend person sets) =
    map (λ r. if is_of person r then amended sets r else r) records
edited_records records (Pvalue row key pvalue) = records
edited_records records (Threshold value) = records
edited_records records (Oldest oldest) = records

-- the key book that an edit leaves: an added person stands in it from then on
abbrev pub edited_book : KeyBook → Edit → KeyBook
edited_book book (Add person key codes) = finmap.insert book person key
edited_book book (Drop person) = book
edited_book book (Amend person sets) = book
edited_book book (Pvalue row key pvalue) = book
edited_book book (Threshold value) = book
edited_book book (Oldest oldest) = book

-- the rules that an edit leaves
abbrev pub edited_rules : RulesValue → Edit → RulesValue
edited_rules rules (Add person key codes) = rules
edited_rules rules (Drop person) = rules
edited_rules rules (Amend person sets) = rules
edited_rules rules (Pvalue row key pvalue) = with_pvalue rules row key pvalue
edited_rules rules (Threshold value) = with_threshold rules value
edited_rules rules (Oldest oldest) = with_oldest rules oldest

-- the pages that an edit leaves: its person's record before it is replaced by the one after it, and
-- the page where that is has the number of the next release as its stamp; an edit of the rules
-- touches none
abbrev pub edited_pages : ReleaseValue → Edit → List PageValue
edited_pages release edit =
    let person = person_of edit in
    if is_of_rules edit then release.pages
    else changed_pages (release.number + 1) release.pages person
    (record_of release.records person) (record_of (edited_records release.records edit) person)

-- the release that an edit leaves
abbrev pub edited : ReleaseValue → Edit → ReleaseValue
edited release edit =
    record release {
      records = edited_records release.records edit;
      pages = edited_pages release edit;
      key_book = edited_book release.key_book edit;
      rules = edited_rules release.rules edit;
    }

-- the release that edits leave, one after another
abbrev pub edited_all : ReleaseValue → List Edit → ReleaseValue
edited_all release edits = fold edited release edits
