-- Records in pages: what a change makes of them, and where a person's record stands.
use Rattle.std.specs.Prelude.{◌≡◌, ◌<◌, ℕ, suc, ◌==◌, Bool, true, not, if◌then◌else◌}
use Rattle.std.specs.Prelude.{List, [], ◌∷◌, map, filter, find, length}
use Rattle.std.specs.Prelude.{slice_index_or, slice_set, Option, Some, None}
use Rattle.std.specs.Option.{option_map}
use Rattle.tb_base.specs.declared.records.Record.{Record}
use Rattle.tb_base.specs.Persons.{has_person}
use Rattle.tb_model.specs.Pages.{PageValue, page_of, with_added}

-- whether a record is a person's
abbrev pub is_of : ℕ → Record → Bool
is_of person r = person == r.person

-- a person's record, if there is one
abbrev pub record_of : List Record → ℕ → Option Record
record_of records person = find (is_of person) records

-- where there is no page
abbrev pub no_page : PageValue
no_page = page_of [] 0

-- pages with other records in page i, under a stamp
abbrev pub with_page : List PageValue → ℕ → List Record → ℕ → List PageValue
with_page pages i records stamp = slice_set pages i (page_of records stamp)

-- a page with a person's record goes over into another
abbrev pub at_person : ℕ → (PageValue → PageValue) → PageValue → PageValue
at_person person change p = if has_person p.records person then change p else p

-- a page without a person's record
abbrev pub page_without : ℕ → ℕ → PageValue → PageValue
page_without stamp person p = page_of (filter (λ r. not (is_of person r)) p.records) stamp

-- a page with a person's record replaced
abbrev pub page_replaced : ℕ → ℕ → Record → PageValue → PageValue
page_replaced stamp person new p =
    page_of (map (λ r. if is_of person r then new else r) p.records) stamp

-- the pages with a person's record before a change replaced by the one after it: an added record
-- goes into the last page or a new one, a dropped one leaves its page and another one takes its
-- place there; the stamp comes on that page alone
abbrev pub changed_pages : ℕ → List PageValue → ℕ → Option Record → Option Record → List PageValue
changed_pages stamp pages person None None = pages
changed_pages stamp pages person None (Some new) = with_added stamp new pages
changed_pages stamp pages person (Some old) None =
    map (at_person person (page_without stamp person)) pages
changed_pages stamp pages person (Some old) (Some new) =
    map (at_person person (page_replaced stamp person new)) pages

-- the number of the page with a person's record, if there is one
abbrev pub page_number : List PageValue → ℕ → Option ℕ
page_number [] person = None
page_number (p ∷ ps) person =
    if has_person p.records person then Some 0
    else option_map (λ k. suc k) (page_number ps person)

-- a record at a place is a person's
pub record IsPlace (records : List Record) (person place : ℕ) : Type 0 where
  pub within : place < length records
  pub own : (d : Record) → is_of person (slice_index_or records place d) ≡ true
