-- Key books in shards.
use Rattle.std.specs.Prelude.{◌≡◌, ℕ, suc, ◌<◌, ◌≤◌, ◌%◌, ◌==◌, true, if◌then◌else◌, is_some}
use Rattle.std.specs.Prelude.{List, [], ◌∷◌, map, flat_map, length, slice_index_or, refl, Vec}
use Rattle.std.specs.Prelude.{Option, Some, None}
use Rattle.std.specs.Option.{option_map_or}
use Rattle.std.specs.Coded.{Coded, code_by, coded×, coded_ℕ, coded_option}
use Rattle.std.specs.FinMap as finmap
use Rattle.std.specs.Ordering.{nat_cmp}
use Rattle.tb_model.specs.Releases.{KeyBook}
use Rattle.tb_pages.specs.declared.shard.Entry.{Entry}
use Rattle.tb_pages.specs.declared.book.TheConstants.{SHARDS}

abbrev pub entry_code : Coded Entry
entry_code =
    code_by (ℕ × (ℕ × Option ℕ)) (coded× coded_ℕ (coded× coded_ℕ (coded_option coded_ℕ)))
    (λ e. (e.person, (e.key, e.page)))
    (λ p. record { person = p.0; key = p.1.0; page = p.1.1 })
    (λ _. refl)

-- a key book with pages: from persons to their entries
abbrev pub Book : Type 0
Book = finmap.FinMap nat_cmp Entry

abbrev pub book_code : Coded Book
book_code = finmap.code coded_ℕ entry_code

-- each entry's person is above those before it
abbrev pub Rise : List Entry → Type 0
Rise entries =
    (i j : ℕ) (d : Entry) → i < j → j < length entries
    → (slice_index_or entries i d).person < (slice_index_or entries j d).person

-- a person's entry stands at a place
pub record IsAt (entries : List Entry) (person i : ℕ) : Type 0 where
  pub within : i < length entries
  pub own : (d : Entry) → (slice_index_or entries i d).person ≡ person

-- what stands before a place is below a person, and the rest is above
pub record IsBetween (entries : List Entry) (person i : ℕ) : Type 0 where
  pub within : i ≤ length entries
  pub low :
      (k : ℕ) (d : Entry) → k < i → k < length entries
      → (slice_index_or entries k d).person < person
  pub high :
      (k : ℕ) (d : Entry) → i ≤ k → k < length entries
      → person < (slice_index_or entries k d).person

-- the entry of a person, if there is one
abbrev pub held_in : List Entry → ℕ → Option Entry
held_in [] person = None
held_in (e ∷ es) person = if person == e.person then Some e else held_in es person

-- no person has two entries
abbrev pub AreApart : List Entry → Type 0
AreApart [] = Unit {0}
AreApart (e ∷ es) = (held_in es e.person ≡ None) × AreApart es

-- an entry comes in the place of its person's, or is added
abbrev pub Sets : List Entry → List Entry → Entry → Type 0
Sets old new entry =
    (q : ℕ) → held_in new q ≡ (if q == entry.person then Some entry else held_in old q)

-- two lists have the same entry of each person
abbrev pub HoldSame : List Entry → List Entry → Type 0
HoldSame old new = (q : ℕ) → held_in new q ≡ held_in old q

-- the entries of shards
abbrev pub entries_in : List (List Entry) → List Entry
entries_in shards = flat_map (λ s. s) shards

-- the key book of shards
abbrev pub book_of : List (List Entry) → Book
book_of shards = finmap.from_entries (map (λ e. (e.person, e)) (entries_in shards))

-- each person stands in the shard of the person's number, where the first has this number
abbrev pub InOwnShards : ℕ → List (List Entry) → Type 0
InOwnShards number [] = Unit {0}
InOwnShards number (s ∷ ss) =
    ((q : ℕ) → is_some (held_in s q) ≡ true → q % SHARDS ≡ number) × InOwnShards (suc number) ss

pub record AreShards (shards : List (List Entry)) : Type 0 where
  pub all : length shards ≡ SHARDS
  pub own : InOwnShards 0 shards

-- a list as its entries
abbrev pub entries_of : {A : Type 0} → Vec Entry A → List Entry
entries_of list = list.items

-- shards in which no person has two entries
pub record AreLists (lists : List (List Entry)) : Type 0 where
  pub shards : AreShards lists
  pub apart : (k : ℕ) → AreApart (slice_index_or lists k [])

-- so many shards as lists, each with the entries of its list
pub record AreSorted (lists shards : List (List Entry)) : Type 0 where
  pub long : length shards ≡ length lists
  pub same : (k : ℕ) → HoldSame (slice_index_or lists k []) (slice_index_or shards k [])

-- the keys alone
abbrev pub keys_in : Book → KeyBook
keys_in book = finmap.from_entries (map (λ e. (e.0, e.1.key)) (finmap.entries book))

-- the page of a person's record, if there is one
abbrev pub page_in : Book → ℕ → Option ℕ
page_in book person = option_map_or (λ e. e.page) (finmap.get book person) None
