-- Pages beside the key book that has each person's page.
use Rattle.std.specs.Prelude.{◌≡◌, ℕ, List, length, Some, None}
use Rattle.std.specs.Prelude.{slice_index_or}
use Rattle.std.specs.FinMap as finmap
use Rattle.tb_base.specs.declared.records.Record.{Record}
use Rattle.tb_base.specs.Persons.{AreDistinct}
use Rattle.tb_pages.specs.declared.register.Register.{Register}
use Rattle.tb_pages.specs.declared.register.Spot.{Spot}
use Rattle.tb_pages.specs.Books.{keys_in}
use Rattle.tb_pages.specs.Fillings.{ArePlaced}
use Rattle.tb_model.specs.Pages.{PageValue}
use Rattle.tb_pages.specs.Pages.{IsPlace, no_page, page_number}
use Rattle.tb_model.specs.Pages.{records_in}
use Rattle.tb_pages.specs.Pages.{changed_pages, record_of}

-- persons are found on their pages, the records are counted, and no person has two
pub record IsRegister (register : Register) : Type 0 where
  pub placed : ArePlaced register.book register.pages
  pub living : register.living ≡ length (records_in register.pages)
  pub distinct : AreDistinct (records_in register.pages)

-- a person's record stands on a page at a place
pub record IsSpot (pages : List PageValue) (person : ℕ) (spot : Spot) : Type 0 where
  pub page : page_number pages person ≡ Some spot.page
  pub place : IsPlace (slice_index_or pages spot.page no_page).records person spot.place

-- a record was added under a stamp; its person's key stands in the key book from then on
pub record IsAdded (stamp : ℕ) (one : Record) (old new : Register) : Type 0 where
  pub pages : new.pages ≡ changed_pages stamp old.pages one.person None (Some one)
  pub keys : keys_in new.book ≡ finmap.insert (keys_in old.book) one.person one.key
  pub whole : IsRegister new

-- a person's record, the one before, was taken out under a stamp; the key stays
pub record IsTaken (stamp person : ℕ) (old new : Register) (before : Record) : Type 0 where
  pub found : record_of (records_in old.pages) person ≡ Some before
  pub pages : new.pages ≡ changed_pages stamp old.pages person (Some before) None
  pub keys : keys_in new.book ≡ keys_in old.book
  pub whole : IsRegister new

-- a record took the place of its person's, the one before, under a stamp; the key stays
pub record IsReplaced (stamp : ℕ) (one : Record) (old new : Register) (before : Record)
    : Type 0 where
  pub found : record_of (records_in old.pages) one.person ≡ Some before
  pub pages : new.pages ≡ changed_pages stamp old.pages one.person (Some before) (Some one)
  pub keys : keys_in new.book ≡ keys_in old.book
  pub whole : IsRegister new
