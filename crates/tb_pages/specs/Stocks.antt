-- Pages beside the key book that has each person's page, if it was made.
use Rattle.std.specs.Prelude.{◌≡◌, List, length, Option, Some, None}
use Rattle.std.specs.Option.{ForSome}
use Rattle.tb_base.specs.declared.records.Record.{Record}
use Rattle.tb_base.specs.Persons.{AreDistinct}
use Rattle.tb_model.specs.Pages.{PageValue, cut, records_in}
use Rattle.tb_model.specs.Releases.{KeyBook}
use Rattle.tb_pages.specs.declared.stock.Stock.{Stock}
use Rattle.tb_pages.specs.Books.{Book, keys_in}
use Rattle.tb_pages.specs.Fillings.{ArePlaced, keys_of_records}

-- the keys of a key book, or of the records in pages where there is none
abbrev pub keys_with : Option Book → List PageValue → KeyBook
keys_with None pages = keys_of_records (records_in pages)
keys_with (Some book) pages = keys_in book

abbrev pub keys_of : Stock → KeyBook
keys_of stock = keys_with stock.book stock.pages

-- persons are found on their pages where there is a key book, the records are counted, and no
-- person has two
pub record IsStock (stock : Stock) : Type 0 where
  pub placed : ForSome stock.book (λ b. ArePlaced b stock.pages)
  pub living : stock.living ≡ length (records_in stock.pages)
  pub distinct : AreDistinct (records_in stock.pages)

-- records were put into pages, each after the other, and there is no key book
pub record IsFirst (records : List Record) (stock : Stock) : Type 0 where
  pub pages : stock.pages ≡ cut records
  pub book : stock.book ≡ None
  pub living : stock.living ≡ length records

-- a key book for pages, which is the one that there was or was made
pub record IsBookOf (pages : List PageValue) (book : Option Book) (made : Book) : Type 0 where
  pub placed : ArePlaced made pages
  pub keys : keys_in made ≡ keys_with book pages
