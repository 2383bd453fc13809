-- How many places a table has, and how its cells change with the records.
use Rattle.std.proofs.Common.{◌≡◌, ℕ, zero, suc, ◌+◌, ◌-◌, ◌/◌, ◌%◌, ◌<◌, inl, inr, Bool, true, false, cond, List, [], ◌∷◌, ◌++◌, map, length, length-append, get_or, refl, ◌∙◌, arith}
use Rattle.std.specs.List.{range_with_len}
use Rattle.std.specs.Prelude.{nat_lt, if◌then◌else◌}
use Rattle.std.proofs.lemmas.Bool.{cases_lt, lt-ltb, le-ltb}
use Rattle.std.proofs.lemmas.Nat.{mod_below, div_below}
use Rattle.std.proofs.lemmas.List.{get_or_append_left, get_or-append_right}
use Rattle.std.proofs.lemmas.List.FromFn.{length-map-range_with_len, get_or-map-range_with_len}
use Rattle.tb_base.specs.declared.records.Record.{Record}
use Rattle.tb_base.specs.Cells.{merged_all}
use Rattle.tb_model.specs.declared.names.NameOf.{NameOf}
use Rattle.tb_model.specs.declared.names.Entry.{Entry}
use Rattle.tb_model.specs.declared.names.Entry.TheVariants as entry
use Rattle.tb_model.specs.Schemas.{SchemaValue, category_count}
use Rattle.tb_model.specs.Queries.{QueryValue}
use Rattle.tb_model.specs.RowMajor.{product}
use Rattle.tb_base.specs.Records.{category_at}
use Rattle.tb_base.proofs.CellsBy.{cells_by-append}
use Rattle.tb_model.specs.Places.{Place, entries_of, places_of, belongs, cells_of}
use Rattle.tb_model.proofs.RowMajorLemmas.{length-row_major, get_or-row_major, choice_at, some_rows}

-- a dimension's number of entries
abbrev pub size_of : SchemaValue → QueryValue → NameOf → ℕ
size_of schema query of = category_count schema of + cond query.totals 1 0

length-entries : (schema : SchemaValue) (query : QueryValue) (of : NameOf) → length (entries_of schema query of) ≡ size_of schema query of
length-entries schema query of =
    rw (length-append, length-map-range_with_len)
    (elim query.totals as (λ b. category_count schema of + length (cond b (entry.Total ∷ []) []) ≡ category_count schema of + cond b 1 0) [ true ↦ refl | false ↦ refl ])

sizes : (schema : SchemaValue) (query : QueryValue) (of : List NameOf) → map length (map (entries_of schema query) of) ≡ map (size_of schema query) of
sizes schema query [] = refl
sizes schema query (of ∷ rest) = rw (length-entries schema query of, sizes schema query rest) refl

-- there are as many places as the product of the dimensions' sizes
pub length-places : (schema : SchemaValue) (query : QueryValue) → length (places_of schema query) ≡ product (map (size_of schema query) query.dimensions)
length-places schema query = rw (length-row_major, sizes schema query query.dimensions) refl

-- the cells of two lists in a row are the merges of their cells
pub cells_of-append : (schema : SchemaValue) (query : QueryValue) (xs ys : List Record) → cells_of schema query (xs ++ ys) ≡ merged_all (cells_of schema query xs) (cells_of schema query ys)
cells_of-append schema query xs ys = cells_by-append (λ place r. belongs schema query place (category_at r)) (places_of schema query) xs ys

-- the entry of a dimension at a number below its size
abbrev pub entry_at : SchemaValue → NameOf → ℕ → Entry
entry_at schema of k = if nat_lt k (category_count schema of) then entry.Category k else entry.Total

-- the place at a number, by mixed radix: the last dimension changes fastest
abbrev pub place_at : SchemaValue → QueryValue → List NameOf → ℕ → Place
place_at schema query [] i = []
place_at schema query (of ∷ rest) i =
    let n = product (map (size_of schema query) rest) in
    entry_at schema of (i / n) ∷ place_at schema query rest (i % n)

last : (totals : Bool) (k : ℕ) → get_or (cond totals (entry.Total ∷ []) []) k entry.Total ≡ entry.Total
last true zero = refl
last true (suc k) = refl
last false k = refl

get_or-entries : (schema : SchemaValue) (query : QueryValue) (of : NameOf) (k : ℕ) → k < size_of schema query of → get_or (entries_of schema query of) k entry.Total ≡ entry_at schema of k
get_or-entries schema query of k below =
    elim (cases_lt k (category_count schema of)) [
      | inl h ↦
          let long : k < length (map entry.Category (range_with_len 0 (category_count schema of))) = rw length-map-range_with_len h in
          get_or_append_left _ _ entry.Total k long
          ∙ get_or-map-range_with_len entry.Category 0 (category_count schema of) k k entry.Total h (omega arith)
          ∙ rw (lt-ltb k (category_count schema of) h) refl
      | inr h ↦
          rw (le-ltb k (category_count schema of) h, get_or-append_right _ _ (category_count schema of) k entry.Total (length-map-range_with_len entry.Category 0 (category_count schema of)) h)
          (last query.totals (k - category_count schema of))
    ]

get_or-choices : (schema : SchemaValue) (query : QueryValue) (of : List NameOf) (i : ℕ) → i < product (map (size_of schema query) of)
    → choice_at (map (entries_of schema query) of) i entry.Total ≡ place_at schema query of i
get_or-choices schema query [] i below = refl
get_or-choices schema query (of ∷ rest) i below =
    let n : ℕ = product (map (size_of schema query) rest) in
    let some : 0 < n = some_rows (size_of schema query of) n i below in
    rw (sizes schema query rest, get_or-entries schema query of (i / n) (div_below i n (size_of schema query of) some below), get_or-choices schema query rest (i % n) (mod_below i n some)) refl

-- which place stands at a number
pub get_or-places : (schema : SchemaValue) (query : QueryValue) (i : ℕ) (e : Place) → i < product (map (size_of schema query) query.dimensions)
    → get_or (places_of schema query) i e ≡ place_at schema query query.dimensions i
get_or-places schema query i e below =
    get_or-row_major (map (entries_of schema query) query.dimensions) i entry.Total e (rw (sizes schema query query.dimensions) below)
    ∙ get_or-choices schema query query.dimensions i below
