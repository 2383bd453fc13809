-- An edit that was read fits the classification.
use Rattle.std.proofs.Common.{◌≡◌, ◌∙◌, sym, refl, subst, ℕ, zero, suc, ◌+◌, ◌==◌, ◌<◌, Bool, true, false, List, [], ◌∷◌, length, map, get_or, Option, Some, None, arith}
use Rattle.std.specs.Prelude.{bytes_eq, if◌then◌else◌, is_none, nat_le, nat_lt, not, ◌||◌, option_and_then, slice_index, unwrap_or}
use Rattle.std.specs.List.{AllByRecursion, list_any, range_with_len}
use Rattle.std.proofs.lemmas.Bool.{leb-true, ltb-true}
use Rattle.std.proofs.lemmas.Bool.Decides.{nat_tests}
use Rattle.std.proofs.lemmas.List.{get_or-map, length-map}
use Rattle.std.proofs.lemmas.List.FromFn.{length-range_with_len}
use Rattle.std.proofs.lemmas.List.Quantifiers.{position-Some}
use Rattle.tb_base.specs.Keys.{key_range}
use Rattle.tb_base.specs.Lists.{all_some}
use Rattle.tb_base.specs.Numbers.{number_of, signed_of}
use Rattle.tb_base.specs.Records.{Fits}
use Rattle.tb_base.specs.declared.keys.Keys.{Keys}
use Rattle.tb_base.specs.declared.keys.TheConstants.{MOST_KEYS}
use Rattle.tb_base.specs.declared.limits.TheConstants.{MOST_THRESHOLD}
use Rattle.tb_base.proofs.AllThere.{first-some, length-all_some}
use Rattle.tb_base.proofs.KeyLemmas.{key-most}
use Rattle.tb_base.proofs.Options.{none_both}
use Rattle.tb_base.proofs.Setting.{can_told}
use Rattle.tb_model.specs.Schemas.{CategoryValue, SchemaValue, VariableValue, shape_of, variable_at}
use Rattle.tb_records.specs.People.{key_of}
use Rattle.tb_schema.specs.Names.{place_in}
use Rattle.tb_release.specs.Laws.{EditFits}
use Rattle.tb_revise.specs.declared.fault.EditTextFault.{EditTextFault}
use Rattle.tb_revise.specs.declared.fault.EditTextFault.TheVariants as faults
use Rattle.tb_revise.specs.Faults.{has_bad_number, has_unknown_name, has_unknown_code, misses_variable, settings_refusal, refusal}
use Rattle.tb_revise.specs.Grammar.{NamedSetting, NamedEdit, NamedAdd, NamedDrop, NamedAmend, NamedPvalue, NamedThreshold, NamedOldest}
use Rattle.tb_revise.specs.Laws.{ReadEditsFit}
use Rattle.tb_revise.specs.Meanings.{categories_named, categories_set, category_named, category_set, edit_meant, key_meant, number_meant, person_meant, set_meant, sets_meant, signed_meant, variable_meant, variable_named}

-- a setting's variable and category are below their bounds
abbrev SetFits : List ℕ → ℕ × ℕ → Type 0
SetFits shape s = (s.0 < length shape) × (s.1 < slice_index shape s.0)

-- what no fault means
none_of : (b : Bool) (f : EditTextFault) (o : Option EditTextFault) → (if b then Some f else o) ≡ None → (b ≡ false) × (o ≡ None)
none_of true f o h = absurd (cc)
none_of false f o h = (refl, h)

there : {A : Type 0} (o : Option A) → is_none o ≡ false → (x : A) × (o ≡ Some x)
there None h = absurd (cc)
there (Some x) h = (x, refl)

-- a variable that is named, and its category, are there
name-below : (variables : List VariableValue) (name : List ℕ) (v : ℕ) → Some v ≡ place_in (map (λ v. v.name) variables) name → v < length variables
name-below variables name v h =
    let p = position-Some (bytes_eq name) (map (λ v. v.name) variables) v [] (sym h) in
    omega (arith, p.0, length-map variables (λ (v : VariableValue). v.name))

code-below : (categories : List CategoryValue) (code : List ℕ) (c : ℕ) → Some c ≡ place_in (map (λ c. c.code) categories) code → c < length categories
code-below categories code c h =
    let p = position-Some (bytes_eq code) (map (λ c. c.code) categories) c [] (sym h) in
    omega (arith, p.0, length-map categories (λ (c : CategoryValue). c.code))

count-at : (schema : SchemaValue) (v : ℕ) → v < length schema.variables → slice_index (shape_of schema) v ≡ length (variable_at schema v).categories
count-at schema v h = get_or-map (λ (v : VariableValue). length v.categories) schema.variables v (record { name = []; categories = [] }) 0 h

named-below : (schema : SchemaValue) (s : NamedSetting) (v : ℕ) → variable_named schema s ≡ Some v → v < length schema.variables
unfolding variable_named
named-below schema s v h = name-below schema.variables s.name v (sym h)

category-below : (schema : SchemaValue) (s : NamedSetting) (v c : ℕ) → variable_meant schema s ≡ v → category_named schema s ≡ Some c → c < length (variable_at schema v).categories
unfolding category_named
category-below schema s v c e h = code-below (variable_at schema v).categories s.code c (rw e at (sym h))

set-fits-at : (schema : SchemaValue) (s : NamedSetting) (v c : ℕ) → variable_named schema s ≡ Some v → category_named schema s ≡ Some c → SetFits (shape_of schema) (set_meant schema s)
set-fits-at schema s v c named coded =
    let meant : variable_meant schema s ≡ v = rw named refl in
    let below = named-below schema s v named in
    let long : length (shape_of schema) ≡ length schema.variables = length-map schema.variables (λ (v : VariableValue). length v.categories) in
    let few : c < slice_index (shape_of schema) v = rw (count-at schema v below) (category-below schema s v c meant coded) in
    rw (named, coded) (omega (arith, long, below), few)

set-fits : (schema : SchemaValue) (s : NamedSetting) → is_none (variable_named schema s) ≡ false → is_none (category_named schema s) ≡ false → SetFits (shape_of schema) (set_meant schema s)
set-fits schema s h k =
    let (v, named) = there (variable_named schema s) h in
    let (c, coded) = there (category_named schema s) k in
    set-fits-at schema s v c named coded

-- a test that none passes fails at the first and at the others
none-first : {A : Type 0} (p : A → Bool) (x : A) (xs : List A) (v : Bool) → p x ≡ v → list_any p (x ∷ xs) ≡ false → (p x ≡ false) × (list_any p xs ≡ false)
none-first p x xs true e h = let g = rw e at h in absurd (cc)
none-first p x xs false e h = (e, rw e at h)

sets-fit : (schema : SchemaValue) (ss : List NamedSetting) → has_unknown_name schema ss ≡ false → has_unknown_code schema ss ≡ false → AllByRecursion (SetFits (shape_of schema)) (sets_meant schema ss)
sets-fit schema [] h k = tt
sets-fit schema (s ∷ ss) h k =
    let (name, names) = none-first (λ s. is_none (variable_named schema s)) s ss _ refl h in
    let (code, others) = none-first (λ s. is_none (category_named schema s)) s ss _ refl k in
    (set-fits schema s name code, sets-fit schema ss names others)

known-fit : (schema : SchemaValue) (ss : List NamedSetting) → settings_refusal schema ss ≡ None → AllByRecursion (SetFits (shape_of schema)) (sets_meant schema ss)
known-fit schema ss h =
    let (names, rest) = none_of (has_unknown_name schema ss) faults.UnknownName _ h in
    let (codes, more) = none_of (has_unknown_code schema ss) faults.UnknownCode _ rest in
    sets-fit schema ss names codes

-- the category to which a variable is set is below its bound
set-below-of : (shape : List ℕ) (s : ℕ × ℕ) (sets : List (ℕ × ℕ)) (v c : ℕ) (b : Bool) → (s.0 == v) ≡ b → SetFits shape s → (category_set sets v ≡ Some c → c < slice_index shape v) → category_set (s ∷ sets) v ≡ Some c → c < slice_index shape v
set-below-of shape s sets v c true e fits rest h =
    let g = rw e at h in
    let same : s.1 ≡ c = cc in
    let of : s.0 ≡ v = grind (arith, nat_tests) in
    rw (← same, ← of) fits.1
set-below-of shape s sets v c false e fits rest h = rest (rw e at h)

set-below : (shape : List ℕ) (sets : List (ℕ × ℕ)) (v c : ℕ) → AllByRecursion (SetFits shape) sets → category_set sets v ≡ Some c → c < slice_index shape v
set-below shape [] v c fits h = absurd (cc)
set-below shape (s ∷ sets) v c fits h = set-below-of shape s sets v c (s.0 == v) refl fits.0 (set-below shape sets v c fits.1) h

moved : (shape : List ℕ) (c i j : ℕ) → i ≡ j → c < slice_index shape i → c < slice_index shape j
moved shape c i j e h = rw (← e) h

categories-below : (shape : List ℕ) (sets : List (ℕ × ℕ)) (a n : ℕ) (cs : List ℕ) → AllByRecursion (SetFits shape) sets → all_some (map (category_set sets) (range_with_len a n)) ≡ Some cs → (v : ℕ) → v < n → get_or cs v 0 < slice_index shape (a + v)
categories-below shape sets a zero cs fits h v l = absurd (omega arith)
categories-below shape sets a (suc n) cs fits h zero l =
    let (c, more, one, others, same) = first-some (category_set sets a) (map (category_set sets) (range_with_len (a + 1) n)) cs h in
    rw same (moved shape c a (a + 0) (omega arith) (set-below shape sets a c fits one))
categories-below shape sets a (suc n) cs fits h (suc v) l =
    let (c, more, one, others, same) = first-some (category_set sets a) (map (category_set sets) (range_with_len (a + 1) n)) cs h in
    rw same (moved shape (get_or more v 0) (a + 1 + v) (a + suc v) (omega arith) (categories-below shape sets (a + 1) n more fits others v (omega (arith, l))))

categories-long : (sets : List (ℕ × ℕ)) (n : ℕ) (cs : List ℕ) → categories_set sets n ≡ Some cs → length cs ≡ n
categories-long sets n cs h = length-all_some (map (category_set sets) (range_with_len 0 n)) cs h ∙ length-map (range_with_len 0 n) (category_set sets) ∙ length-range_with_len 0 n

-- a key that is read is below the largest key range
key-of-below : (keys : Keys) (n : ℕ) (b : Bool) → nat_lt n (key_range keys) ≡ b → unwrap_or (if nat_lt n (key_range keys) then Some n else None) 0 < MOST_KEYS
key-of-below keys n true e = rw e (key-most keys n (ltb-true n (key_range keys) e))
key-of-below keys n false e = rw e (omega arith)

key-below : (keys : Keys) (o : Option ℕ) → unwrap_or (option_and_then (λ n. if nat_lt n (key_range keys) then Some n else None) o) 0 < MOST_KEYS
key-below keys None = omega arith
key-below keys (Some n) = key-of-below keys n (nat_lt n (key_range keys)) refl

fits-add : (schema : SchemaValue) (person key : List ℕ) (ss : List NamedSetting) (cs : List ℕ) → AllByRecursion (SetFits (shape_of schema)) (sets_meant schema ss) → categories_named schema ss ≡ Some cs
    → Fits (shape_of schema) (record { person = person_meant person; key = key_meant schema.keys key; codes = cs })
fits-add schema person key ss cs fits h =
    let long : length (shape_of schema) ≡ length schema.variables = length-map schema.variables (λ (v : VariableValue). length v.categories) in
    record {
      long = categories-long (sets_meant schema ss) (length schema.variables) cs h ∙ sym long;
      below = λ v l. moved (shape_of schema) (get_or cs v 0) (0 + v) v (omega arith) (categories-below (shape_of schema) (sets_meant schema ss) 0 (length schema.variables) cs fits h v (omega (arith, l, long)));
      key = key-below schema.keys (number_of key);
    }

-- where no test finds a fault, the last finds its condition met
last-well : (tests met : Bool) → (tests || not met) ≡ false → met ≡ true
last-well true met h = absurd (cc)
last-well false true h = refl
last-well false false h = absurd (cc)

fits-meant : (schema : SchemaValue) (named : NamedEdit) → refusal schema named ≡ None → EditFits (shape_of schema) (edit_meant schema named)
fits-meant schema (NamedAdd person key ss) h =
    let (numbers, rest) = none_of (has_bad_number schema.keys (NamedAdd person key ss)) faults.BadNumber _ h in
    let (known, all) = none_both (settings_refusal schema ss) _ rest in
    let (some, _) = none_of (misses_variable schema (NamedAdd person key ss)) faults.Missing None all in
    let (cs, are) = there (categories_named schema ss) some in
    rw are (fits-add schema person key ss cs (known-fit schema ss known) are)
fits-meant schema (NamedDrop person) h = tt
fits-meant schema (NamedAmend person ss) h =
    let (numbers, rest) = none_of (has_bad_number schema.keys (NamedAmend person ss)) faults.BadNumber _ h in
    let (known, all) = none_both (settings_refusal schema ss) _ rest in
    known-fit schema ss known
fits-meant schema (NamedPvalue row key pvalue) h =
    let (numbers, _) = none_of (has_bad_number schema.keys (NamedPvalue row key pvalue)) faults.BadNumber _ h in
    can_told (number_meant row) (key_meant schema.keys key) (signed_meant pvalue)
    (last-well (is_none (number_of row) || is_none (key_of schema.keys key) || is_none (signed_of pvalue)) _ numbers)
fits-meant schema (NamedThreshold value) h =
    let (numbers, _) = none_of (has_bad_number schema.keys (NamedThreshold value)) faults.BadNumber _ h in
    leb-true (number_meant value) MOST_THRESHOLD (last-well (is_none (number_of value)) _ numbers)
fits-meant schema (NamedOldest release) h = tt

pub read_edits_fit : ReadEditsFit
read_edits_fit schema line edit h = subst (EditFits (shape_of schema)) h.means (fits-meant schema h.named h.no_fault)
