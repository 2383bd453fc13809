-- A record of the file fits the classification.
use Rattle.std.proofs.Common.{◌≡◌, ◌∙◌, ap, sym, refl, ℕ, zero, suc, ◌+◌, ◌<◌, ◌≤◌, Bool, true, false, List, [], ◌∷◌, drop, length, map, get_or, Option, Some, None, Ok, Err, arith, inl, inr}
use Rattle.std.specs.Prelude.{bytes_eq, if◌then◌else◌, nat_lt, option_and_then, zip}
use Rattle.std.proofs.lemmas.Bool.{cases_Bool}
use Rattle.std.proofs.lemmas.Bool.Decides.{nat_tests}
use Rattle.std.proofs.lemmas.List.{length-drop, length-map}
use Rattle.std.proofs.lemmas.List.Elements.{All-cons, All-nil}
use Rattle.std.proofs.lemmas.List.Quantifiers.{position-Some}
use Rattle.tb_base.specs.Keys.{key_range}
use Rattle.tb_base.specs.Numbers.{number_of}
use Rattle.tb_base.specs.Records.{AllFit, Fits}
use Rattle.tb_base.specs.declared.keys.Keys.{Keys}
use Rattle.tb_base.specs.declared.records.Record.{Record}
use Rattle.tb_model.specs.Schemas.{CategoryValue, SchemaValue, VariableValue, shape_of}
use Rattle.tb_base.specs.Lists.{all_some}
use Rattle.tb_rows.specs.Columns.{only_index, fields_at}
use Rattle.tb_rows.specs.Formats.{line_under}
use Rattle.tb_base.proofs.AllThere.{first-some, length-all_some}
use Rattle.tb_base.proofs.KeyLemmas.{key-most}
use Rattle.tb_rows.proofs.WholeFiles.{accepted_where}
use Rattle.tb_schema.specs.Names.{place_in}
use Rattle.tb_records.specs.People.{category_under, people_file, people_of, record_in, record_of}
use Rattle.tb_records.specs.WholeFiles.{ArePeople}
use Rattle.tb_records.specs.declared.fault.PeopleKind.TheVariants.{BadCsv}
use Rattle.tb_records.proofs.WholeFiles.{are_people}

-- one more category is below its bound
below-more : (c n : ℕ) (cs ns : List ℕ) → c < n → ((v : ℕ) → v < length ns → get_or cs v 0 < get_or ns v 0) → (v : ℕ) → v < length (n ∷ ns) → get_or (c ∷ cs) v 0 < get_or (n ∷ ns) v 0
below-more c n cs ns k h zero at = k
below-more c n cs ns k h (suc v) at = h v (omega (arith, at))

code-below : (categories : List CategoryValue) (text : List ℕ) (c : ℕ) → place_in (map (λ c. c.code) categories) text ≡ Some c → c < length categories
code-below categories text c h =
    let p = position-Some (bytes_eq text) (map (λ c. c.code) categories) c [] h in
    omega (arith, p.0, length-map categories (λ (c : CategoryValue). c.code))

-- each category is one of its variable's
categories-below : (vs : List VariableValue) (fields : List (List ℕ)) (cs : List ℕ) → length fields ≡ length vs → all_some (map category_under (zip vs fields)) ≡ Some cs
    → (length cs ≡ length vs) × ((v : ℕ) → v < length (map (λ v. length v.categories) vs) → get_or cs v 0 < get_or (map (λ v. length v.categories) vs) v 0)
categories-below [] fields [] long h = (refl, λ v at. absurd (omega (arith, at)))
categories-below [] fields (c ∷ cs) long h = cc
categories-below (x ∷ vs) [] cs long h = absurd (omega (arith, long))
categories-below (x ∷ vs) (field ∷ fields) cs long h =
    let (c, more, one, others, same) = first-some (category_under (x, field)) (map category_under (zip vs fields)) cs h in
    let (count, below) = categories-below vs fields more (omega (arith, long)) others in
    rw same (ap (λ n. suc n) count, below-more c (length x.categories) more (map (λ v. length v.categories) vs) (code-below x.categories field c one) below)

-- a key that is read is below the key range
key-in : (keys : Keys) (o : Option ℕ) (key : ℕ) → option_and_then (λ n. if nat_lt n (key_range keys) then Some n else None) o ≡ Some key → key < key_range keys
key-in keys None key h = cc
key-in keys (Some n) key h = elim (cases_Bool (nat_lt n (key_range keys))) [
  | inl t ↦ let same : n ≡ key = (let g = rw t at h in cc) in grind (arith, nat_tests)
  | inr t ↦ let g = rw t at h in cc
]

record_of-parts : (person key : Option ℕ) (categories : Option (List ℕ)) (one : Record) → record_of person key categories ≡ Ok one → (key ≡ Some one.key) × (categories ≡ Some one.codes)
record_of-parts (Some person) (Some key) (Some categories) one h =
    let same : record { person = person; key = key; codes = categories } ≡ one = cc in
    (ap (λ (r : Record). Some r.key) same, ap (λ (r : Record). Some r.codes) same)
record_of-parts (Some person) (Some key) None one h = cc
record_of-parts (Some person) None categories one h = cc
record_of-parts None key categories one h = cc

-- a record that is read has a line of its fields
as_wide : (schema : SchemaValue) (b : Bool) (fields : List (List ℕ)) (one : Record) → (if b then record_in schema fields else Err BadCsv) ≡ Ok one → record_in schema fields ≡ Ok one
as_wide schema true fields one h = h
as_wide schema false fields one h = cc

record-fits : (schema : SchemaValue) (fields : List (List ℕ)) (one : Record) → length fields ≡ length schema.variables + 2 → record_in schema fields ≡ Ok one → Fits (shape_of schema) one
record-fits schema fields one long h =
    let (key, codes) = record_of-parts _ _ _ one h in
    let (count, below) = categories-below schema.variables (drop 2 fields) one.codes (omega (arith, long, length-drop 2 fields)) codes in
    record {
      long = count ∙ sym (length-map schema.variables (λ (v : VariableValue). length v.categories));
      below = below;
      key = key-most schema.keys one.key (key-in schema.keys (number_of (get_or fields 1 [])) one.key key);
    }

module _ (schema : SchemaValue) (width : ℕ) (indices : List ℕ) (long : length indices ≡ length schema.variables + 2) where
  records-fit : (records : List (List (List ℕ))) (people : List Record) → map (line_under (people_file schema) width indices) records ≡ map (λ one. Ok one) people → AllFit (shape_of schema) people
  records-fit [] [] h = All-nil (Fits (shape_of schema))
  records-fit [] (one ∷ people) h = cc
  records-fit (fields ∷ records) [] h = cc
  records-fit (fields ∷ records) (one ∷ people) h =
      let first : line_under (people_file schema) width indices fields ≡ Ok one = cc in
      let others : map (line_under (people_file schema) width indices) records ≡ map (λ one. Ok one) people = cc in
      let wide : length (fields_at indices fields) ≡ length schema.variables + 2 = length-map indices (λ i. get_or fields i []) ∙ long in
      All-cons (Fits (shape_of schema)) one people (record-fits schema (fields_at indices fields) one wide (as_wide schema _ (fields_at indices fields) one first)) (records-fit records people others)

-- the records of a file fit, and are not too many
pub people-fit : (schema : SchemaValue) (bytes : List ℕ) (people : List Record) → people_of schema bytes ≡ Ok people → AllFit (shape_of schema) people × (length people ≤ schema.persons)
people-fit schema bytes people h =
    let (width, indices, records, lines, v, (header, r, wide, c), are, end) = (accepted_where (people_file schema) (ArePeople schema.persons) (are_people schema) bytes people).0 h in
    let same : lines ≡ people = cc (are.together.1, end) in
    let long : length indices ≡ length schema.variables + 2 =
    length-all_some (map (λ name. only_index name header) (people_file schema).columns) indices c ∙ length-map (people_file schema).columns (λ name. only_index name header)
    ∙ omega (arith, length-map schema.variables (λ (v : VariableValue). v.name)) in
    rw (← same) (records-fit schema width indices long records lines are.each, are.together.0.1)
