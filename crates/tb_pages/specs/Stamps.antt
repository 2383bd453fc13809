-- What the stamps of pages tell.
use Rattle.std.specs.Prelude.{◌≡◌, ◌<◌, ◌≤◌, ◌⊎◌, ℕ, suc, List, length, slice_index_or, Option}
use Rattle.tb_base.specs.declared.records.Record.{Record}
use Rattle.tb_model.specs.Pages.{PageValue, cut}
use Rattle.tb_pages.specs.Pages.{changed_pages, no_page}

-- pages come after others under a stamp: a page without that stamp is as it was, and a new page has
-- it
pub record KeepsPages (stamp : ℕ) (old new : List PageValue) : Type 0 where
  pub long : length old ≤ length new
  pub kept :
      (i : ℕ) → i < length old
      → ((slice_index_or new i no_page).stamp ≡ stamp)
      ⊎ (slice_index_or new i no_page ≡ slice_index_or old i no_page)
  pub fresh :
      (i : ℕ) → length old ≤ i → i < length new → (slice_index_or new i no_page).stamp ≡ stamp

-- so does a change leave them
abbrev pub ChangesKeepPages : Type 0
ChangesKeepPages =
    (stamp : ℕ) (pages : List PageValue) (person : ℕ) (before after : Option Record)
    → KeepsPages stamp pages (changed_pages stamp pages person before after)

-- and so do two steps under one stamp
abbrev pub StepsKeepPages : Type 0
StepsKeepPages =
    (stamp : ℕ) (first second third : List PageValue) → KeepsPages stamp first second
    → KeepsPages stamp second third → KeepsPages stamp first third

-- where the pages of each release come after those of the one before it, under its own number, page
-- i of release n is page i of the release whose number is its stamp
abbrev pub StampsTell : Type 0
StampsTell =
    (people : List Record) (pages : ℕ → List PageValue) → pages 0 ≡ cut people
    → ((n : ℕ) → KeepsPages (suc n) (pages n) (pages (suc n)))
    → (n i : ℕ) → i < length (pages n)
    → let stamp = (slice_index_or (pages n) i no_page).stamp in
    (stamp ≤ n) × (slice_index_or (pages n) i no_page ≡ slice_index_or (pages stamp) i no_page)
