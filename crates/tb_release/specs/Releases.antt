-- What is true of every release.
use Rattle.std.specs.Prelude.{◌≡◌, ◌+◌, ◌≤◌, ℕ, List, length, Some, All}
use Rattle.std.specs.FinMap as finmap
use Rattle.tb_base.specs.declared.people.TheConstants.{MOST_PERSONS}
use Rattle.tb_base.specs.declared.records.Record.{Record}
use Rattle.tb_base.specs.Persons.{AreDistinct}
use Rattle.tb_base.specs.Rules.{RulesValue}
use Rattle.tb_model.specs.Pages.{PageValue, records_in}
use Rattle.tb_model.specs.Releases.{KeyBook, ReleaseValue}
use Rattle.tb_pages.specs.declared.register.Register.{Register}
use Rattle.tb_pages.specs.declared.stock.Stock.{Stock}
use Rattle.tb_pages.specs.Books.{keys_in}
use Rattle.tb_pages.specs.Registers.{IsRegister}
use Rattle.tb_pages.specs.Rooms.{AreFilledBy}
use Rattle.tb_pages.specs.Stocks.{IsStock, keys_of}
use Rattle.tb_release.specs.declared.limits.TheConstants.{MOST_CHANGES}

-- a key book has a record's person with the record's key
abbrev pub HasKeyOf : KeyBook → Record → Type 0
HasKeyOf book r = finmap.get book r.person ≡ Some r.key

-- no person has two records, the key book has each record's key, there are no more records than
-- there may be, which are no more than the types admit, and they are those of the pages in order
pub record IsSound (release : ReleaseValue) : Type 0 where
  pub distinct : AreDistinct release.records
  pub in_book : All (HasKeyOf release.key_book) release.records
  pub few : length release.records ≤ release.most
  pub most : release.most ≤ MOST_PERSONS
  pub in_pages : release.records ≡ records_in release.pages

-- a release whose records stand in pages
abbrev pub release_view :
    List PageValue → KeyBook → (most number changes edits : ℕ) → RulesValue → ReleaseValue
release_view pages book most number changes edits rules =
    record {
      records = records_in pages;
      pages = pages;
      key_book = book;
      most = most;
      number = number;
      changes = changes;
      edits = edits;
      rules = rules;
    }

-- the release of a register
abbrev pub registered : Register → (most number changes edits : ℕ) → RulesValue → ReleaseValue
registered register most number changes edits rules =
    release_view register.pages (keys_in register.book) most number changes edits rules

-- the release of what is kept of it
abbrev pub stocked : Stock → (most number changes edits : ℕ) → RulesValue → ReleaseValue
stocked stock most number changes edits rules =
    release_view stock.pages (keys_of stock) most number changes edits rules

-- what is kept serves as a release: it is whole, the release is sound, and there are no more pages,
-- changes and edits than there can be
pub record IsKept (stock : Stock) (most number changes edits : ℕ) (rules : RulesValue)
    : Type 0 where
  pub whole : IsStock stock
  pub sound : IsSound (stocked stock most number changes edits rules)
  pub room : AreFilledBy stock.pages (MOST_PERSONS + changes)
  pub fewer : changes ≤ edits
  pub few : edits ≤ MOST_CHANGES

-- a register has the records and keys of a release, persons are found on their pages, and there are
-- no more pages than its changes suffice for
pub record IsShared (release : ReleaseValue) (register : Register) : Type 0 where
  pub same :
      release
      ≡ registered register release.most release.number release.changes release.edits
      release.rules
  pub whole : IsRegister register
  pub sound : IsSound release
  pub room : AreFilledBy register.pages (MOST_PERSONS + release.changes)
  pub fewer : release.changes ≤ release.edits
