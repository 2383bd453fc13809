-- The generated microdata is read as its records.
use Rattle.std.proofs.Common.{◌≡◌, ◌∙◌, refl, ap, ℕ, zero, suc, ◌+◌, ◌*◌, ◌%◌, ◌^◌, ◌<◌, ◌≤◌, List, [], ◌∷◌, length, map, false, Option, Some, Ok, arith, ne_eqb, lt-ltb}
use Rattle.std.specs.Prelude.{codes, decimal, zip, if◌then◌else◌, nat_lt, ◌==◌, None, option_and_then}
use Rattle.std.specs.List.{range_with_len}
use Rattle.std.proofs.lemmas.List.FromFn.{length-map-range_with_len}
use Rattle.tb_base.specs.Lists.{all_some}
use Rattle.tb_base.specs.Persons.{AreDistinct, has_person}
use Rattle.tb_base.specs.declared.keys.Keys.TheVariants.{K256}
use Rattle.tb_gen.specs.declared.limits.TheConstants.{MOST_GENERATED}
use Rattle.tb_base.specs.declared.records.Record.{Record}
use Rattle.tb_gen.specs.Draws.{after, draw}
use Rattle.tb_gen.specs.Generated.{generated_people, person_line}
use Rattle.tb_gen.specs.Lines.{each_below}
use Rattle.tb_gen.specs.Variables.{code_of, name_of}
use Rattle.tb_gen.specs.declared.variables.Variable.TheVariants.{Area, Age, Sex, Tenure}
use Rattle.tb_model.specs.Schemas.{SchemaValue, VariableValue}
use Rattle.tb_records.specs.People.{categories_under, category_under, key_of, people_file, people_of, person_of, record_in, record_of}
use Rattle.tb_records.specs.WholeFiles.{ArePeople}
use Rattle.tb_records.proofs.WholeFiles.{are_people}
use Rattle.tb_rows.specs.Columns.{indices_of}
use Rattle.tb_rows.specs.Formats.{line_under}
use Rattle.tb_rows.specs.Records.{records_of}
use Rattle.tb_rows.specs.WholeFiles.{AreAccepted, IsFile}
use Rattle.tb_rows.proofs.WholeFiles.{accepted_where}
use Rattle.tb_schema.specs.Names.{category_codes, place_in}
use Rattle.tb_gen_laws.proofs.Codes.{ages, areas, code-found, sexes, tenures}
use Rattle.tb_gen_laws.proofs.Digits.{decimal-plain, decimal-short, decimal-some, number-back}
use Rattle.tb_gen_laws.proofs.Lengths.{AreShort, length-below, length-line}
use Rattle.tb_gen_laws.proofs.Records.{AreLines, ArePlain, IsRow, header-and-lines, line-each, no_bom, row_each}
use Rattle.tb_gen_laws.specs.Classification.{IsGeneratedSchema, codes_of, variables}
use Rattle.tb_gen_laws.specs.People.{generated_records, person_record}
use Rattle.tb_gen_laws.specs.Ranges.{list_below}

-- the header, and where the columns stand in it
abbrev header : List (List ℕ)
header = codes "person" ∷ codes "record_key" ∷ map name_of variables

abbrev indices : List ℕ
indices = 0 ∷ 1 ∷ 2 ∷ 3 ∷ 4 ∷ 5 ∷ []

-- the fields of a person
abbrev person_row : ℕ → ℕ → List (List ℕ)
person_row person x =
    decimal person ∷ decimal (draw 1 x % 256) ∷ code_of Area (draw 2 x % 100) ∷ code_of Age (draw 3 x % 101)
    ∷ code_of Sex (draw 4 x % 2) ∷ code_of Tenure (draw 5 x % 5) ∷ []

-- those of the number that comes before the person's, and the record
abbrev row_of : ℕ → ℕ → List (List ℕ)
row_of start i = person_row (i + 1) (after (5 * i) start)

abbrev record_at : ℕ → ℕ → Record
record_at start i = person_record (i + 1) (after (5 * i) start)

-- each field is plain, and short
drawn-plain : (a b c d : ℕ) → ArePlain (code_of Area (a % 100) ∷ code_of Age (b % 101) ∷ code_of Sex (c % 2) ∷ code_of Tenure (d % 5) ∷ [])
drawn-plain a b c d = (areas.plain (a % 100) (omega arith), (ages.plain (b % 101) (omega arith), (sexes.plain (c % 2) (omega arith), (tenures.plain (d % 5) (omega arith), tt))))

is-row : (person x : ℕ) → person < 2 ^ 32 → IsRow (person_row person x)
is-row person x small = (decimal-some person small, (decimal-plain person small, (decimal-plain (draw 1 x % 256) (omega arith), drawn-plain (draw 2 x) (draw 3 x) (draw 4 x) (draw 5 x))))

drawn-short : (a b c d : ℕ) → AreShort (code_of Area (a % 100) ∷ code_of Age (b % 101) ∷ code_of Sex (c % 2) ∷ code_of Tenure (d % 5) ∷ [])
drawn-short a b c d = (areas.short (a % 100) (omega arith), (ages.short (b % 101) (omega arith), (sexes.short (c % 2) (omega arith), (tenures.short (d % 5) (omega arith), tt))))

short-row : (person x : ℕ) → person < 2 ^ 32 → AreShort (person_row person x)
short-row person x small =
    let number : length (decimal person) ≤ 11 = omega (arith, decimal-short person small) in
    let key : length (decimal (draw 1 x % 256)) ≤ 11 = omega (arith, decimal-short (draw 1 x % 256) (omega arith)) in
    (number, (key, drawn-short (draw 2 x) (draw 3 x) (draw 4 x) (draw 5 x)))

-- what each field is read as
person-back : (n : ℕ) → 0 < n → n < 2 ^ 32 → person_of (decimal n) ≡ Some n
person-back n some small = ap (option_and_then (λ n. if n == 0 then None else Some n)) (number-back n small) ∙ rw (ne_eqb n 0 (λ e. omega (arith, e, some))) refl

key-back : (n : ℕ) → n < 256 → key_of K256 (decimal n) ≡ Some n
key-back n small = ap (option_and_then (λ n. if nat_lt n 256 then Some n else None)) (number-back n (omega (arith, small))) ∙ rw (lt-ltb n 256 small) refl

-- a category is found by the codes alone
by-codes : (vs : List VariableValue) (fields : List (List ℕ)) → map category_under (zip vs fields) ≡ map (λ d. place_in d.0 d.1) (zip (map category_codes vs) fields)
by-codes [] fields = refl
by-codes (v ∷ vs) [] = refl
by-codes (v ∷ vs) (field ∷ fields) = ap (λ t. category_under (v, field) ∷ t) (by-codes vs fields)

codes-back : (a b c d : ℕ) → a < 100 → b < 101 → c < 2 → d < 5
    → all_some (map (λ d. place_in d.0 d.1) (zip (map codes_of variables) (code_of Area a ∷ code_of Age b ∷ code_of Sex c ∷ code_of Tenure d ∷ []))) ≡ Some (a ∷ b ∷ c ∷ d ∷ [])
codes-back a b c d p q r s =
    rw (code-found (code_of Area) 100 a areas (omega arith) p, code-found (code_of Age) 101 b ages (omega arith) q, code-found (code_of Sex) 2 c sexes (omega arith) r, code-found (code_of Tenure) 5 d tenures (omega arith) s) refl

made : (person key : Option ℕ) (categories : Option (List ℕ)) (one : Record) → person ≡ Some one.person → key ≡ Some one.key → categories ≡ Some one.codes → record_of person key categories ≡ Ok one
made person key categories one e f g = rw (e, f, g) refl

module _ (schema : SchemaValue) (is : IsGeneratedSchema schema) where
  -- a person's fields are read as the record
  row-read : (person x : ℕ) → 0 < person → person < 2 ^ 32 → record_in schema (person_row person x) ≡ Ok (person_record person x)
  row-read person x some small =
      let fields = code_of Area (draw 2 x % 100) ∷ code_of Age (draw 3 x % 101) ∷ code_of Sex (draw 4 x % 2) ∷ code_of Tenure (draw 5 x % 5) ∷ [] in
      made (person_of (decimal person)) (key_of schema.keys (decimal (draw 1 x % 256))) (categories_under schema fields) (person_record person x) (person-back person some small)
      (ap (λ keys. key_of keys (decimal (draw 1 x % 256))) is.key_range ∙ key-back (draw 1 x % 256) (omega arith))
      (ap all_some (by-codes schema.variables fields) ∙ ap (λ cs. all_some (map (λ d. place_in d.0 d.1) (zip cs fields))) is.code_lists
      ∙ codes-back (draw 2 x % 100) (draw 3 x % 101) (draw 4 x % 2) (draw 5 x % 5) (omega arith) (omega arith) (omega arith) (omega arith))

  -- so are those of every person
  each-read : (start a n : ℕ) → a + n < 2 ^ 32
      → map (line_under (people_file schema) 6 indices) (map (row_of start) (range_with_len a n)) ≡ map (λ one. Ok one) (map (record_at start) (range_with_len a n))
  each-read start a zero small = refl
  each-read start a (suc n) small =
      ap (λ r. r ∷ map (line_under (people_file schema) 6 indices) (map (row_of start) (range_with_len (a + 1) n))) (row-read (a + 1) (after (5 * a) start) (omega arith) (omega (arith, small)))
      ∙ ap (λ rs. Ok (record_at start a) ∷ rs) (each-read start (a + 1) n (omega (arith, small)))

  -- the header has each column once
  columns-found : indices_of (codes "person" ∷ codes "record_key" ∷ map (λ (v : VariableValue). v.name) schema.variables) header ≡ Some indices
  columns-found = ap (λ ns. indices_of (codes "person" ∷ codes "record_key" ∷ ns) header) is.name_list

-- persons with numbers that ascend are distinct
later : (start q a n : ℕ) → q ≤ a → has_person (map (record_at start) (range_with_len a n)) q ≡ false
later start q a zero below = refl
later start q a (suc n) below = rw (ne_eqb q (a + 1) (λ e. omega (arith, e, below)), later start q (a + 1) n (omega (arith, below))) refl

distinct : (start a n : ℕ) → AreDistinct (map (record_at start) (range_with_len a n))
distinct start a zero = tt
distinct start a (suc n) = (later start (a + 1) (a + 1) n (omega arith), distinct start (a + 1) n)

module _ (n start : ℕ) (few : n ≤ MOST_GENERATED) where
  lines : AreLines (each_below n (λ i. person_line (i + 1) (after (5 * i) start))) (row_each n (row_of start))
  lines = line-each n (row_of start) (λ i below. is-row (i + 1) (after (5 * i) start) (omega (arith, below, few)))

  records-are : records_of (generated_people n start) ≡ header ∷ row_each n (row_of start)
  records-are =
      header-and-lines (codes "person,record_key,AREA,AGE,SEX,TENURE\n") (each_below n (λ i. person_line (i + 1) (after (5 * i) start))) header (row_each n (row_of start))
      refl (omega arith, (refl, (refl, (refl, (refl, (refl, (refl, tt))))))) lines (no_bom 112 _ (λ e. omega (arith, e)))

  pub people-accepted : (schema : SchemaValue) → IsGeneratedSchema schema → people_of schema (generated_people n start) ≡ Ok (generated_records n start)
  unfolding row_each list_below
  people-accepted schema is =
      let file : IsFile (people_file schema) (generated_people n start) 6 indices (row_each n (row_of start)) = (header, records-are, refl, columns-found schema is) in
      let are : AreAccepted (people_file schema) (ArePeople schema.persons) 6 indices (row_each n (row_of start)) (generated_records n start) (generated_records n start) = record {
        each = each-read schema is start 0 n (omega (arith, few));
        together = ((distinct start 0 n, omega (arith, few, is.limit, length-map-range_with_len (record_at start) 0 n)), refl);
      } in
      (accepted_where (people_file schema) (ArePeople schema.persons) (are_people schema) (generated_people n start) (generated_records n start)).1
      (6, indices, row_each n (row_of start), generated_records n start, generated_records n start, file, are, refl)

  -- 1,000,000 lines of 73 bytes, and the header
  pub people-short : length (generated_people n start) ≤ 268435456
  people-short =
      omega (
        arith,
        few,
        length-below n 73 (λ i. person_line (i + 1) (after (5 * i) start))
            (λ i below. length-line (row_of start i) (short-row (i + 1) (after (5 * i) start) (omega (arith, below, few)))),
      )
