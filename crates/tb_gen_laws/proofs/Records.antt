-- The records of a text whose lines are fields parted by commas.
use Rattle.std.proofs.Common.{◌≡◌, ◌≢◌, ◌∙◌, refl, sym, ap, ℕ, zero, suc, ◌+◌, ◌<◌, ◌≤◌, List, [], ◌∷◌, ◌++◌, length, map, false, Some, None, arith, append-nil, length-append, ne_eqb}
use Rattle.std.specs.List.{flat_map, join_with_byte, range_with_len}
use Rattle.std.proofs.lemmas.Grind.{flat_map-append}
use Rattle.std.proofs.lemmas.List.Concat.{flat_map_single}
use Rattle.csv.specs.Machine.{next_record}
use Rattle.csv.specs.Reading.{default_config, records_from, records_next, strip_bom}
use Rattle.csv.specs.Writing.{default_writer, field_text, fields_text, is_blank, needs_quotes, row_text}
use Rattle.csv.specs.declared.parser.State.TheVariants as st
use Rattle.csv.proofs.RoundTrip.{read-write}
use Rattle.tb_gen.specs.Lines.{each_below, fields_line}
use Rattle.tb_rows.specs.Records.{records_of}

-- a field has no comma, quotation mark, carriage return or line feed
abbrev pub IsPlain : List ℕ → Type 0
IsPlain field = needs_quotes default_writer field ≡ false

abbrev pub ArePlain : List (List ℕ) → Type 0
ArePlain [] = Unit {0}
ArePlain (field ∷ fields) = IsPlain field × ArePlain fields

-- a record has a field, its first isn't empty, and each is plain
abbrev pub IsRow : List (List ℕ) → Type 0
IsRow [] = ⊥
IsRow (field ∷ fields) = (0 < length field) × ArePlain (field ∷ fields)

abbrev pub AreRows : List (List (List ℕ)) → Type 0
AreRows [] = Unit {0}
AreRows (row ∷ rows) = IsRow row × AreRows rows

-- a text is the lines of these records
pub record AreLines (text : List ℕ) (rows : List (List (List ℕ))) : Type 0 where
  pub text_is : text ≡ flat_map fields_line rows
  pub good : AreRows rows

-- plain fields are written as they are
joined : (x : List ℕ) (rest : List (List ℕ)) → ArePlain (x ∷ rest) → field_text default_writer x ++ fields_text default_writer rest ≡ join_with_byte 44 (x ∷ rest)
unfolding fields_text
joined x [] p = rw p.0 (append-nil x)
joined x (y ∷ ys) p = rw p.0 (ap (λ t. x ++ 44 ∷ t) (joined y ys p.1))

not_blank : (x : List ℕ) (rest : List (List ℕ)) → IsRow (x ∷ rest) → is_blank default_writer (x ∷ rest) ≡ false
unfolding is_blank
not_blank x [] p = rw p.1.0 (ne_eqb (length x) 0 (λ e. omega (arith, e, p.0)))
not_blank x (y ∷ ys) p = refl

row-line : (row : List (List ℕ)) → IsRow row → row_text default_writer row ≡ fields_line row
row-line [] p = absurd p
row-line (x ∷ rest) p = rw (not_blank x rest p) (ap (λ t. t ++ 10 ∷ []) (joined x rest p.1))

-- the first record of a text that begins with its line
next-row : (row : List (List ℕ)) (tail : List ℕ) → IsRow row → next_record default_config st.StartRecord [] [] (fields_line row ++ tail) ≡ Some (row, st.StartRecord, tail)
next-row [] tail p = absurd p
next-row (x ∷ rest) tail p = ap (λ t. next_record default_config st.StartRecord [] [] (t ++ tail)) (sym (row-line (x ∷ rest) p)) ∙ read-write (x ∷ rest) tail

none-next : next_record default_config st.StartRecord [] [] [] ≡ None
unfolding next_record
none-next = refl

all-rows : (rows : List (List (List ℕ))) (n : ℕ) → AreRows rows → length rows < n → records_from default_config n st.StartRecord (flat_map fields_line rows) ≡ rows
unfolding records_from
all-rows rows zero p enough = absurd (omega (arith, enough))
all-rows [] (suc n) p enough = ap (records_next (records_from default_config n)) none-next
all-rows (row ∷ rows) (suc n) p enough =
    ap (records_next (records_from default_config n)) (next-row row (flat_map fields_line rows) p.0)
    ∙ ap (λ t. row ∷ t) (all-rows rows n p.1 (omega (arith, enough)))

-- a line has a byte at least
long : (rows : List (List (List ℕ))) → length rows ≤ length (flat_map fields_line rows)
long [] = omega arith
long (row ∷ rows) =
    omega (arith, long rows, length-append (fields_line row) (flat_map fields_line rows), length-append (join_with_byte 44 row) (10 ∷ []))

-- a text that begins with another byte than a byte order mark has none
pub no_bom : (first : ℕ) (text : List ℕ) → first ≢ 0xEF → strip_bom (first ∷ text) ≡ first ∷ text
unfolding strip_bom
no_bom first [] other = refl
no_bom first (b ∷ []) other = refl
no_bom first (b ∷ c ∷ text) other = rw (ne_eqb first 0xEF other) refl

-- a text of lines without a byte order mark has just their records
pub records-read : (text : List ℕ) (rows : List (List (List ℕ))) → AreLines text rows → strip_bom text ≡ text → records_of text ≡ rows
records-read text rows lines bare =
    ap (λ t. records_from default_config (length t + 1) st.StartRecord t) (bare ∙ lines.text_is)
    ∙ all-rows rows (length (flat_map fields_line rows) + 1) lines.good (omega (arith, long rows))

-- the same of a header and lines after it
pub header-and-lines : (head body : List ℕ) (header : List (List ℕ)) (rows : List (List (List ℕ))) → head ≡ fields_line header → IsRow header → AreLines body rows
    → strip_bom (head ++ body) ≡ head ++ body → records_of (head ++ body) ≡ header ∷ rows
header-and-lines head body header rows is p lines bare =
    records-read (head ++ body) (header ∷ rows) (record { text_is = ap (λ t. t ++ body) is ∙ ap (λ t. fields_line header ++ t) lines.text_is; good = (p, lines.good) }) bare

-- one line
pub one-line : (row : List (List ℕ)) → IsRow row → AreLines (fields_line row) (row ∷ [])
one-line row p = record { text_is = sym (append-nil (fields_line row)); good = (p, tt) }

pub no-lines : AreLines [] []
no-lines = record { text_is = refl; good = tt }

rows-append : (rows more : List (List (List ℕ))) → AreRows rows → AreRows more → AreRows (rows ++ more)
rows-append [] more p q = q
rows-append (row ∷ rows) more p q = (p.0, rows-append rows more p.1 q)

-- lines after lines
pub more-lines : (a b : List ℕ) (rows more : List (List (List ℕ))) → AreLines a rows → AreLines b more → AreLines (a ++ b) (rows ++ more)
more-lines a b rows more p q = record {
  text_is = ap (λ t. t ++ b) p.text_is ∙ ap (λ t. flat_map fields_line rows ++ t) q.text_is ∙ sym (flat_map-append fields_line rows more);
  good = rows-append rows more p.good q.good;
}

-- the records of the numbers from 0 that are below a bound, where each number has some
unfoldable pub rows_below : ℕ → (ℕ → List (List (List ℕ))) → List (List (List ℕ))
rows_below n rows = flat_map rows (range_with_len 0 n)

lines-from : (a n : ℕ) (lines : ℕ → List ℕ) (rows : ℕ → List (List (List ℕ))) → ((i : ℕ) → i < a + n → AreLines (lines i) (rows i))
    → AreLines (flat_map lines (range_with_len a n)) (flat_map rows (range_with_len a n))
lines-from a zero lines rows each = no-lines
lines-from a (suc n) lines rows each =
    more-lines (lines a) (flat_map lines (range_with_len (a + 1) n)) (rows a) (flat_map rows (range_with_len (a + 1) n)) (each a (omega arith))
    (lines-from (a + 1) n lines rows (λ i below. each i (omega (arith, below))))

-- some lines for each number below a bound
pub lines-below : (n : ℕ) (lines : ℕ → List ℕ) (rows : ℕ → List (List (List ℕ))) → ((i : ℕ) → i < n → AreLines (lines i) (rows i)) → AreLines (each_below n lines) (rows_below n rows)
unfolding each_below rows_below
lines-below n lines rows each = lines-from 0 n lines rows (λ i below. each i (omega (arith, below)))

-- one record for each number below a bound
unfoldable pub row_each : ℕ → (ℕ → List (List ℕ)) → List (List (List ℕ))
row_each n row = map row (range_with_len 0 n)

single : (n : ℕ) (row : ℕ → List (List ℕ)) → rows_below n (λ i. row i ∷ []) ≡ row_each n row
unfolding rows_below row_each
single n row = flat_map_single row (range_with_len 0 n)

-- one line for each number below a bound
pub line-each : (n : ℕ) (row : ℕ → List (List ℕ)) → ((i : ℕ) → i < n → IsRow (row i)) → AreLines (each_below n (λ i. fields_line (row i))) (row_each n row)
line-each n row each =
    rw (← single n row) (lines-below n (λ i. fields_line (row i)) (λ i. row i ∷ []) (λ i below. one-line (row i) (each i below)))
