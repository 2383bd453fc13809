-- What it means that a line whose tokens are a query has no fault.
use Rattle.std.proofs.Common.{◌≡◌, ◌≤◌, ◌<◌, ℕ, Bool, true, false, [], ◌∷◌, List, length, map, Option, Some, None, Result, Ok, Err, refl, sym, subst, arith}
use Rattle.std.specs.Prelude.{All, IfOk, bytes_eq, nat_lt}
use Rattle.std.specs.List.{AllByRecursion}
use Rattle.std.specs.Option.{option_map}
use Rattle.std.proofs.lemmas.Bool.{ltb-false}
use Rattle.std.proofs.lemmas.List.{length-map}
use Rattle.std.proofs.lemmas.List.Elements.{All-from_recursion}
use Rattle.std.proofs.lemmas.List.Quantifiers.{position-Some}
use Rattle.tb_base.proofs.Options.{none_both}
use Rattle.tb_model.specs.declared.names.NameOf.{NameOf}
use Rattle.tb_model.specs.declared.names.NameOf.TheVariants as name_of
use Rattle.tb_model.specs.Schemas.{SchemaValue, category_count, codes_of}
use Rattle.tb_model.specs.Queries.{QueryValue}
use Rattle.tb_model.specs.Places.{places_of}
use Rattle.tb_schema.specs.Names.{IsName, place_in, recode_names, variable_names, variable_or}
use Rattle.tb_query.specs.declared.fault.QueryFault.{QueryFault}
use Rattle.tb_query.specs.declared.fault.QueryFault.TheVariants as faults
use Rattle.tb_query.specs.declared.limits.TheConstants.{MOST_DIMENSIONS, MOST_FILTERS, MOST_PLACES}
use Rattle.tb_query.specs.Tokens.{Token}
use Rattle.tb_query.specs.Grammar.{NamedFilter, NamedQuery, HasSome}
use Rattle.tb_query.specs.Meanings.{name_of_token, code_of_token, name_meant, code_meant, filter_meant, query_meant}
use Rattle.tb_query.specs.Faults.{unknown_in, unknown_name, unknown_among, unknown_code_in, unknown_code, first_repeat, fault_if, is_too_large, refusal, Reads}
use Rattle.tb_query.specs.Over.{IsFilterOver, IsOver}
use Rattle.tb_query.proofs.Found.{all_found}

pub none_inside : (o : Option ℕ) (f : ℕ → QueryFault) → option_map f o ≡ None → o ≡ None
none_inside None f h = refl
none_inside (Some x) f h = absurd (cc)

none_if : (b : Bool) (f : QueryFault) → fault_if b f ≡ None → b ≡ false
none_if true f h = absurd (cc)
none_if false f h = refl

some_left : {A : Type 0} (f : Token → A) (ts : List Token) → HasSome ts → 1 ≤ length (map f ts)
some_left f [] h = absurd h
some_left f (t ∷ ts) h = omega arith

-- the name that a text is found under is there
named : (schema : SchemaValue) (of : NameOf) (v r : Option ℕ) → variable_or v (option_map name_of.Recode r) ≡ Some of
    → ((i : ℕ) → v ≡ Some i → i < length schema.variables) → ((i : ℕ) → r ≡ Some i → i < length schema.recodes) → IsName schema of
named schema of (Some i) r h vs rs = let here : name_of.Variable i ≡ of = cc in subst (IsName schema) here (vs i refl)
named schema of None (Some j) h vs rs = let here : name_of.Recode j ≡ of = cc in subst (IsName schema) here (rs j refl)
named schema of None None h vs rs = absurd (cc)

within : (texts : List (List ℕ)) (text : List ℕ) (i : ℕ) → place_in texts text ≡ Some i → i < length texts
within texts text i h = (position-Some (bytes_eq text) texts i [] h).0

is_name : (schema : SchemaValue) (t : Token) (of : NameOf) → name_of_token schema t ≡ Some of → IsName schema of
unfolding name_of_token
is_name schema t of h =
    named schema of (place_in (variable_names schema.variables) t.text) (place_in (recode_names schema.recodes) t.text) h
    (λ i e. subst (λ n. i < n) (length-map schema.variables (λ v. v.name)) (within (variable_names schema.variables) t.text i e))
    (λ i e. subst (λ n. i < n) (length-map schema.recodes (λ r. r.name)) (within (recode_names schema.recodes) t.text i e))

is_code : (schema : SchemaValue) (of : NameOf) (t : Token) (n : ℕ) → code_of_token schema of t ≡ Some n → n < category_count schema of
unfolding code_of_token
is_code schema of t n h = within (codes_of schema of) t.text n h

map_all : {A B : Type 0} (P : B → Type 0) (g : A → B) (xs : List A) → AllByRecursion (λ x. P (g x)) xs → All P (map g xs)
map_all P g xs h = All-from_recursion P (map g xs) (each xs h)
  where
    each : (xs : List _) → AllByRecursion (λ x. P (g x)) xs → AllByRecursion P (map g xs)
    each [] h = tt
    each (x ∷ xs) h = (h.0, each xs h.1)

are_names : (schema : SchemaValue) (ts : List Token) → unknown_in schema ts ≡ None → AllByRecursion (λ t. IsName schema (name_meant schema t)) ts
are_names schema ts h = all_found (name_of_token schema) (name_of.Variable 0) (λ t of. IsName schema of) (is_name schema) ts h

are_codes : (schema : SchemaValue) (of : NameOf) (ts : List Token) → unknown_among schema of ts ≡ None → All (λ n. n < category_count schema of) (map (code_meant schema of) ts)
are_codes schema of ts h = map_all (λ n. n < category_count schema of) (code_meant schema of) ts (all_found (code_of_token schema of) 0 (λ t n. n < category_count schema of) (is_code schema of) ts h)

are_filters : (schema : SchemaValue) (fs : List NamedFilter) → AllByRecursion (λ t. IsName schema (name_meant schema t)) (map (λ f. f.name) fs) → unknown_code schema fs ≡ None
    → AllByRecursion (λ f. IsFilterOver schema (filter_meant schema f)) fs
are_filters schema [] hn hc = tt
are_filters schema (f ∷ fs) hn hc =
    let c = none_both (unknown_code_in schema f) (unknown_code schema fs) hc in
    (record { name = hn.0; codes = are_codes schema (name_meant schema f.name) f.codes c.0 }, are_filters schema fs hn.1 c.1)

over_meant : (schema : SchemaValue) (q : NamedQuery) → HasSome q.dimensions → refusal schema q ≡ None → IsOver schema (query_meant schema q)
over_meant schema q some none =
    let n = none_both (option_map faults.UnknownName (unknown_name schema q)) _ none in
    let c = none_both (option_map faults.UnknownCode (unknown_code schema q.filters)) _ n.1 in
    let r = none_both (option_map faults.RepeatedDimension (first_repeat q.dimensions)) _ c.1 in
    let d = none_both (fault_if (nat_lt MOST_DIMENSIONS (length q.dimensions)) faults.TooManyDimensions) _ r.1 in
    let f = none_both (fault_if (nat_lt MOST_FILTERS (length q.filters)) faults.TooManyFilters) _ d.1 in
    let p = none_both (fault_if (is_too_large schema (query_meant schema q)) faults.TooLarge) _ f.1 in
    let names = none_both (unknown_in schema q.dimensions) (unknown_in schema (map (λ f. f.name) q.filters)) (none_inside (unknown_name schema q) faults.UnknownName n.0) in
    let codes = none_inside (unknown_code schema q.filters) faults.UnknownCode c.0 in
    let few_d = ltb-false MOST_DIMENSIONS (length q.dimensions) (none_if (nat_lt MOST_DIMENSIONS (length q.dimensions)) faults.TooManyDimensions d.0) in
    let few_f = ltb-false MOST_FILTERS (length q.filters) (none_if (nat_lt MOST_FILTERS (length q.filters)) faults.TooManyFilters f.0) in
    record {
      names = map_all (IsName schema) (name_meant schema) q.dimensions (are_names schema q.dimensions names.0);
      filters = map_all (IsFilterOver schema) (filter_meant schema) q.filters (are_filters schema q.filters (are_names schema (map (λ f. f.name) q.filters) names.1) codes);
      some_dimension = some_left (name_meant schema) q.dimensions some;
      few_dimensions = subst (λ n. n ≤ MOST_DIMENSIONS) (sym (length-map q.dimensions (name_meant schema))) few_d;
      few_filters = subst (λ n. n ≤ MOST_FILTERS) (sym (length-map q.filters (filter_meant schema))) few_f;
      few_places = ltb-false MOST_PLACES (length (places_of schema (query_meant schema q))) (none_if (is_too_large schema (query_meant schema q)) faults.TooLarge p.0);
    }

over_read : (schema : SchemaValue) (line : List ℕ) (query : QueryValue) → Reads schema line query → IsOver schema query
over_read schema line query h = subst (IsOver schema) h.means (over_meant schema h.named h.grammar.some_dimension h.no_fault)

-- a query that was read is over its schema
pub over_result : (schema : SchemaValue) (line : List ℕ) (answer : Result QueryValue QueryFault) → IfOk answer (Reads schema line) → IfOk answer (IsOver schema)
over_result schema line (Ok q) read = over_read schema line q read
over_result schema line (Err f) read = tt
