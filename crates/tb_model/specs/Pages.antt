-- Records in pages.
use Rattle.std.specs.Prelude.{ℕ, nat_lt, if◌then◌else◌, refl}
use Rattle.std.specs.Prelude.{List, [], ◌∷◌, ◌++◌, fold, flat_map, length}
use Rattle.std.specs.Coded.{Coded, code_by, coded×, coded_ℕ, coded_list}
use Rattle.tb_base.specs.declared.records.Record.{Record}
use Rattle.tb_base.specs.Records.{record_code}
use Rattle.tb_model.specs.declared.rooms.TheConstants.{PAGE_ROOM}

-- a page: its records, and the number of the release that last changed it
pub record PageValue : Type 0 where
  pub records : List Record
  pub stamp : ℕ

abbrev pub page_of : List Record → ℕ → PageValue
page_of records stamp = record { records = records; stamp = stamp }

-- how a page is coded, for a type whose value holds pages
abbrev pub page_code : Coded PageValue
page_code =
    code_by (List Record × ℕ) (coded× (coded_list record_code) coded_ℕ)
    (λ p. (p.records, p.stamp)) (λ p. page_of p.0 p.1) (λ _. refl)

-- the records of pages, in order
abbrev pub records_in : List PageValue → List Record
records_in pages = flat_map (λ p. p.records) pages

-- pages with one more record: it goes into the last page, or into a new one where that is full
abbrev pub with_added : ℕ → Record → List PageValue → List PageValue
with_added stamp r [] = page_of (r ∷ []) stamp ∷ []
with_added stamp r (p ∷ []) =
    if nat_lt (length p.records) PAGE_ROOM then page_of (p.records ++ r ∷ []) stamp ∷ []
    else p ∷ page_of (r ∷ []) stamp ∷ []
with_added stamp r (p ∷ (q ∷ ps)) = p ∷ with_added stamp r (q ∷ ps)

-- records in pages: each is put in after the other, for release 0
abbrev pub cut : List Record → List PageValue
cut records = fold (λ pages r. with_added 0 r pages) [] records
