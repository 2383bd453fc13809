-- What one more line makes of the recodes.
use Rattle.std.proofs.Common.{◌≡◌, ◌≢◌, ◌∙◌, ap, sym, subst, refl, ℕ, zero, suc, ◌<◌, ◌≤◌, Bool, true, false, List, [], ◌∷◌, ◌++◌, length, map, get_or, Option, Some, None, Result, Ok, Err, IfErr, IfSome, String, Global, string_bytes, arith, inl, inr, nat_eq, is_some, add_comm, add-one}
use Rattle.std.specs.Prelude.{bytes_eq, string_eq, find, not, option_map, slice_get, slice_set}
use Rattle.std.specs.List.{list_any, position_or_len}
use Rattle.std.specs.Map.{keys_of, lookup, values_of}
use Rattle.std.proofs.lemmas.Bool.{cases_Bool}
use Rattle.std.proofs.lemmas.Bool.Decides.{nat_tests}
use Rattle.std.proofs.lemmas.List.{length-map, map-append}
use Rattle.std.proofs.lemmas.List.Elements.{All-get_or}
use Rattle.indexmap.specs.IndexSet.{insert_key}
use Rattle.indexmap.specs.Layout.{set_value_at}
use Rattle.tb_rows.specs.Formats.{and_then, at_record}
use Rattle.tb_rows.specs.declared.fault.Fault.{Fault}
use Rattle.tb_rows.specs.declared.fault.Fault.TheVariants.{Memory}
use Rattle.tb_model.specs.Schemas.{VariableValue}
use Rattle.tb_schema.specs.Groupings.{GroupingValue, no_groups, with_code, with_group}
use Rattle.tb_schema.specs.Names.{category_codes, place_in, variable_names, nth_variable}
use Rattle.tb_schema.specs.Partial.{ArePartial, IsPartialOf}
use Rattle.tb_schema.specs.Recodes.{PartialRecode, PartialValue, RecodeLine, and_recode, at_recode, is_partial, no_recode, partial_names, unless_partial, whole_recode, with_line, with_recode}
use Rattle.tb_schema.specs.Views.{partial_view, recode_view}
use Rattle.tb_schema.specs.declared.fault.SchemaKind.{SchemaKind}
use Rattle.tb_schema.specs.declared.fault.SchemaKind.TheVariants.{NameTwice, TooMany}
use Rattle.tb_schema.specs.declared.limits.TheConstants.{MOST_RECODES}
use Rattle.tb_schema.specs.declared.recode.Recode.{Recode as RecodeText}
use Rattle.tb_schema.proofs.Distinct.{absent, nowhere-else, place-inside}
use Rattle.tb_schema.proofs.Kept.{groups-few}
use Rattle.tb_schema.proofs.Orders.{at_most, below}

-- a fault of one step is one of both
pub refused-then : {A B T : Type 0} (n : ℕ) (a : Result A SchemaKind) (next : A → Result B SchemaKind) (r : Result T (Fault SchemaKind)) → IfErr r (λ e. e ≢ Memory → at_record n a ≡ Err e)
    → IfErr r (λ e. e ≢ Memory → at_record n (and_then a next) ≡ Err e)
refused-then n a next (Ok x) h = tt
refused-then n (Ok x) next (Err e) h = λ other. let g = h other in cc
refused-then n (Err k) next (Err e) h = λ other. let g = h other in cc

-- the names of the recodes are the keys
pub partial_names-view : (es : List (String Global × RecodeText)) → partial_names (map partial_view es) ≡ map string_bytes (keys_of es)
partial_names-view [] = refl
partial_names-view (e ∷ es) = ap (λ ts. string_bytes e.0 ∷ ts) (partial_names-view es)

looked-up : (es : List (String Global × RecodeText)) (text : List ℕ) → is_some (lookup (λ k. bytes_eq text (string_bytes k)) es) ≡ list_any (bytes_eq text) (map string_bytes (keys_of es))
looked-up [] text = refl
looked-up (e ∷ es) text = elim (cases_Bool (bytes_eq text (string_bytes e.0))) [
  | inl t ↦ rw t refl
  | inr t ↦ rw t (looked-up es text)
]

-- a name that is no key is new
pub new-key : (es : List (String Global × RecodeText)) (text : List ℕ) → place_in (map string_bytes (keys_of es)) text ≡ None → is_some (lookup (λ k. bytes_eq text (string_bytes k)) es) ≡ false
new-key es text h = looked-up es text ∙ absent (map string_bytes (keys_of es)) text h

pub recode-pushed : (old es : List (String Global × RecodeText)) (k : String Global) (r : RecodeText) (name : List ℕ) → string_bytes k ≡ name → es ≡ old ++ (k, r) ∷ []
    → map partial_view es ≡ map partial_view old ++ (record { name = name; variable = r.variable; grouping = r.grouping; first = r.first }) ∷ []
recode-pushed old es k r name a e =
    ap (map partial_view) e ∙ map-append partial_view old ((k, r) ∷ [])
    ∙ ap (λ x. let p : PartialRecode = record { name = x; variable = r.variable; grouping = r.grouping; first = r.first } in map partial_view old ++ p ∷ []) a

-- a group that is new goes last
any-key : (ks : List (String Global)) (k : String Global) → list_any (string_eq k) ks ≡ list_any (bytes_eq (string_bytes k)) (map string_bytes ks)
any-key [] k = refl
any-key (x ∷ ks) k = elim (cases_Bool (bytes_eq (string_bytes k) (string_bytes x))) [
  | inl t ↦ rw t refl
  | inr t ↦ rw t (any-key ks k)
]

last-place : (ks : List (String Global)) (k : String Global) → list_any (bytes_eq (string_bytes k)) (map string_bytes ks) ≡ false → position_or_len (string_eq k) ks ≡ length ks
last-place [] k h = refl
last-place (x ∷ ks) k h = elim (cases_Bool (bytes_eq (string_bytes k) (string_bytes x))) [
  | inl t ↦ let e = rw t at h in cc
  | inr t ↦ rw (t, last-place ks k (rw t at h), add_comm 1, add-one) refl
]

pub group-pushed : (ks new : List (String Global)) (k : String Global) (group : List ℕ) (g : ℕ) → string_bytes k ≡ group → place_in (map string_bytes ks) group ≡ None → new ≡ insert_key string_eq ks k → g ≡ position_or_len (string_eq k) ks
    → with_group (map string_bytes ks) group (place_in (map string_bytes ks) group) ≡ (map string_bytes new, g)
group-pushed ks new k group g a p e at =
    let no = subst (λ t. list_any (bytes_eq t) (map string_bytes ks) ≡ false) (sym a) (absent (map string_bytes ks) group p) in
    let keys : new ≡ ks ++ k ∷ [] = e ∙ rw (any-key ks k, no) refl in
    let all : map string_bytes new ≡ map string_bytes ks ++ group ∷ [] = ap (map string_bytes) keys ∙ map-append (λ (k : String Global). string_bytes k) ks (k ∷ []) ∙ ap (λ t. map string_bytes ks ++ t ∷ []) a in
    let number : g ≡ length (map string_bytes ks) = at ∙ last-place ks k no ∙ sym (length-map ks (λ (k : String Global). string_bytes k)) in
    rw (p, all, number) refl

-- the recode of a number
pub recode-there : (es : List (String Global × RecodeText)) (i : ℕ) (m : RecodeText) → slice_get (values_of es) i ≡ Some m → (k : String Global) × (get_or (map partial_view es) i no_recode ≡ partial_view (k, m))
recode-there [] i m h = cc
recode-there (x ∷ es) zero m h = let same : x.1 ≡ m = cc in (x.0, ap (λ r. partial_view (x.0, r)) same)
recode-there (x ∷ es) (suc i) m h = recode-there es i m h

-- its groups are written
abbrev pub with_grouping : RecodeText → GroupingValue → RecodeText
with_grouping m grouping = record { variable = m.variable; grouping = grouping; first = m.first }

recode-set : (es : List (String Global × RecodeText)) (i : ℕ) (m : RecodeText) (grouping : GroupingValue) → slice_get (values_of es) i ≡ Some m
    → map partial_view (set_value_at es i (with_grouping m grouping)) ≡ slice_set (map partial_view es) i (record (get_or (map partial_view es) i no_recode) { grouping = grouping })
recode-set [] i m grouping h = cc
recode-set (x ∷ es) zero m grouping h = let same : x.1 ≡ m = cc in ap (λ (r : RecodeText). partial_view (x.0, with_grouping r grouping) ∷ map partial_view es) (sym same)
recode-set (x ∷ es) (suc i) m grouping h = ap (λ rs. partial_view x ∷ rs) (recode-set es i m grouping h)

unequal : (n m : ℕ) → (n ≡ m → ⊥) → nat_eq n m ≡ false
unequal n m h = grind (arith, nat_tests)

equal : (n m : ℕ) → n ≡ m → nat_eq n m ≡ true
equal n m h = grind (arith, nat_tests)

-- a line of the recode of a number
module _ (vs : List VariableValue) (es : List (String Global × RecodeText)) (n : ℕ) (line : RecodeLine) (v i : ℕ) (m : RecodeText) (there : slice_get (values_of es) i ≡ Some m) where
  abbrev before : PartialValue
  before = record { variables = vs; recodes = map partial_view es }

  pub old-other : (m.variable ≡ v → ⊥) → at_recode before n line v (Some i) ≡ Err NameTwice
  old-other other =
      let (k, is) = recode-there es i m there in
      let no = ap (λ (r : PartialRecode). nat_eq r.variable v) is ∙ unequal m.variable v other in
      rw no refl

  pub old-goes : (code : Option ℕ) → m.variable ≡ v → code ≡ place_in (category_codes (nth_variable vs v)) line.code
      → at_recode before n line v (Some i) ≡ and_then (with_code m.grouping line.group code) (λ g. Ok (map partial_view (set_value_at es i (with_grouping m g))))
  old-goes code same c =
      let (k, is) = recode-there es i m there in
      let yes = ap (λ (r : PartialRecode). nat_eq r.variable v) is ∙ equal m.variable v same in
      rw yes
      (ap (λ (r : PartialRecode). and_then (with_line (nth_variable vs v) r.grouping line) (λ g. Ok (slice_set (map partial_view es) i (record (get_or (map partial_view es) i no_recode) { grouping = g })))) is
      ∙ ap (λ o. and_then (with_code m.grouping line.group o) (λ g. Ok (slice_set (map partial_view es) i (record (get_or (map partial_view es) i no_recode) { grouping = g })))) (sym c)
      ∙ written (with_code m.grouping line.group code))
    where
      written : (r : Result GroupingValue SchemaKind) → and_then r (λ g. Ok (slice_set (map partial_view es) i (record (get_or (map partial_view es) i no_recode) { grouping = g })))
          ≡ and_then r (λ g. Ok (map partial_view (set_value_at es i (with_grouping m g))))
      written (Ok g) = ap (λ rs. Ok rs) (sym (recode-set es i m g there))
      written (Err e) = refl

  module _ (known : ArePartial before) (inside : i < length es) where
    own : (k : String Global) × IsPartialOf vs (partial_view (k, m))
    own =
        let (k, is) = recode-there es i m there in
        (k, subst (IsPartialOf vs) is (All-get_or (IsPartialOf vs) (map partial_view es) i no_recode (omega (arith, inside, length-map es partial_view)) known.recodes))

    pub old-few : length m.grouping.groups < 65536
    old-few = let (k, is) = own in omega (arith, groups-few before known (partial_view (k, m)) is)

    pub old-there : (code : Option ℕ) → m.variable ≡ v → code ≡ place_in (category_codes (nth_variable vs v)) line.code → IfSome code (λ c. c < length m.grouping.group_of)
    old-there code same c =
        let (k, is) = own in
        let total : length m.grouping.group_of ≡ length (category_codes (nth_variable vs v)) = is.grouping.total ∙ ap (λ u. length (nth_variable vs u).categories) same ∙ sym (length-map (nth_variable vs v).categories (λ c. c.code)) in
        subst (λ n. IfSome code (λ c. c < n)) (sym total) (place-inside (category_codes (nth_variable vs v)) line.code code c)

-- a line of a new recode
module _ (so_far : PartialValue) (n : ℕ) (line : RecodeLine) (v : ℕ) (code : Option ℕ) (c : code ≡ place_in (category_codes (nth_variable so_far.variables v)) line.code) where
  abbrev none : GroupingValue
  none = no_groups (length (nth_variable so_far.variables v).categories)

  abbrev pushed : GroupingValue → Result (List PartialRecode) SchemaKind
  pushed g = with_recode so_far.recodes (record { name = line.name; variable = v; grouping = g; first = n })

  pub new-goes : at_recode so_far n line v None ≡ and_then (with_code none line.group code) pushed
  new-goes = ap (λ o. and_then (with_code none line.group o) pushed) (sym c)

  pub new-fits : (g : GroupingValue) → with_code none line.group code ≡ Ok g → length so_far.recodes < MOST_RECODES
      → at_recode so_far n line v None ≡ Ok (so_far.recodes ++ (record { name = line.name; variable = v; grouping = g; first = n }) ∷ [])
  new-fits g h room = new-goes ∙ ap (λ r. and_then r pushed) h ∙ rw (below MOST_RECODES (length so_far.recodes) room) refl

  pub new-full : (g : GroupingValue) → with_code none line.group code ≡ Ok g → MOST_RECODES ≤ length so_far.recodes → at_recode so_far n line v None ≡ Err TooMany
  new-full g h full = new-goes ∙ ap (λ r. and_then r pushed) h ∙ rw (at_most MOST_RECODES (length so_far.recodes) full) refl

-- what was looked up by the bytes of a text
pub key-place : (es : List (String Global × RecodeText)) (bytes text : List ℕ) (o p : Option ℕ) → bytes ≡ text → o ≡ place_in (map string_bytes (keys_of es)) bytes → o ≡ p → place_in (partial_names (map partial_view es)) text ≡ p
key-place es bytes text o p same place e = ap (λ ts. place_in ts text) (partial_names-view es) ∙ ap (place_in (map string_bytes (keys_of es))) (sym same) ∙ sym place ∙ e

pub name-place : (names : List (List ℕ)) (bytes text : List ℕ) (o p : Option ℕ) → bytes ≡ text → o ≡ place_in names bytes → o ≡ p → place_in names text ≡ p
name-place names bytes text o p same place e = ap (place_in names) (sym same) ∙ sym place ∙ e

abbrev pub with_all : PartialValue → List PartialRecode → Result PartialValue SchemaKind
with_all so_far rs = Ok (record so_far { recodes = rs })

-- a line of a variable that there is
module _ (so_far : PartialValue) (n : ℕ) (line : RecodeLine) (v : ℕ) (known : place_in (variable_names so_far.variables) line.variable ≡ Some v) where
  pub line-goes : (o : Option ℕ) → place_in (variable_names so_far.variables) line.name ≡ None → place_in (partial_names so_far.recodes) line.name ≡ o → and_recode n so_far line ≡ and_then (at_recode so_far n line v o) (with_all so_far)
  line-goes o other place = rw (known, other, place) refl

  pub line-old : (i : ℕ) → ArePartial so_far → place_in (partial_names so_far.recodes) line.name ≡ Some i → and_recode n so_far line ≡ and_then (at_recode so_far n line v (Some i)) (with_all so_far)
  line-old i s place = line-goes (Some i) (nowhere-else (variable_names so_far.variables) (partial_names so_far.recodes) line.name i s.names place) place

-- the first recode that lacks a code
abbrev pub lacks : RecodeText → Bool
lacks r = list_any (λ o. not (is_some o)) r.grouping.group_of

pub first-lacking : (es : List (String Global × RecodeText)) → option_map (λ (r : PartialRecode). r.first) (find is_partial (map partial_view es)) ≡ option_map (λ (r : RecodeText). r.first) (find lacks (values_of es))
first-lacking [] = refl
first-lacking (e ∷ es) = elim (cases_Bool (lacks e.1)) [
  | inl t ↦ rw t refl
  | inr t ↦ rw t (first-lacking es)
]

-- the recodes where none lacks a code
all-whole : (es : List (String Global × RecodeText)) → map whole_recode (map partial_view es) ≡ map recode_view es
all-whole [] = refl
all-whole (e ∷ es) = ap (λ rs. recode_view e ∷ rs) (all-whole es)

none-found : (o : Option PartialRecode) → option_map (λ (r : PartialRecode). r.first) o ≡ None → o ≡ None
none-found None h = refl
none-found (Some r) h = cc

pub whole : (es : List (String Global × RecodeText)) → option_map (λ (r : PartialRecode). r.first) (find is_partial (map partial_view es)) ≡ None
    → unless_partial (map partial_view es) (find is_partial (map partial_view es)) ≡ Ok (map recode_view es)
whole es h = ap (unless_partial (map partial_view es)) (none-found (find is_partial (map partial_view es)) h) ∙ ap (λ rs. Ok rs) (all-whole es)
