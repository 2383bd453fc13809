-- The key book of pages.
use Rattle.std.specs.Prelude.{◌≡◌, ℕ, List, fold, map, Some}
use Rattle.std.specs.FinMap as finmap
use Rattle.tb_base.specs.declared.records.Record.{Record}
use Rattle.tb_model.specs.Releases.{KeyBook}
use Rattle.tb_pages.specs.declared.shard.Entry.{Entry}
use Rattle.tb_pages.specs.Books.{Book, keys_in, page_in}
use Rattle.tb_model.specs.Pages.{PageValue, records_in}
use Rattle.tb_pages.specs.Pages.{page_number}

-- the key book has the page of each person's record
abbrev pub ArePlaced : Book → List PageValue → Type 0
ArePlaced book pages = (q : ℕ) → page_in book q ≡ page_number pages q

-- the entry of a record that stands on a page
abbrev pub entry_of : ℕ → Record → Entry
entry_of page r = record { person = r.person; key = r.key; page = Some page }

-- a key book with the entries of a page's records
abbrev pub with_entries : ℕ → List Record → Book → Book
with_entries page records book =
    fold (λ b r. finmap.insert b r.person (entry_of page r)) book records

-- the keys of records
abbrev pub keys_of_records : List Record → KeyBook
keys_of_records records = finmap.from_entries (map (λ r. (r.person, r.key)) records)

-- a key book has the pages and keys of the records that stand in pages
pub record AreBooked (pages : List PageValue) (book : Book) : Type 0 where
  pub placed : ArePlaced book pages
  pub keys : keys_in book ≡ keys_of_records (records_in pages)
