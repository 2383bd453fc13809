-- The faults of a query line, in their order, and what a line reads as.
use Rattle.std.specs.Prelude.{◌≡◌, ℕ, ◌+◌, nat_lt, Bool, if◌then◌else◌, List, [], ◌∷◌, ◌++◌}
use Rattle.std.specs.Prelude.{length, map, find, Option, Some, None, is_none, bytes_eq}
use Rattle.std.specs.Prelude.{Result, IfOk, IfErr}
use Rattle.std.specs.List.{list_any}
use Rattle.std.specs.Option.{option_map, option_or}
use Rattle.tb_model.specs.declared.names.NameOf.{NameOf}
use Rattle.tb_model.specs.Schemas.{SchemaValue}
use Rattle.tb_model.specs.Queries.{QueryValue}
use Rattle.tb_model.specs.Places.{places_of}
use Rattle.tb_query.specs.declared.fault.QueryFault.{QueryFault}
use Rattle.tb_query.specs.declared.fault.QueryFault.TheVariants as faults
use Rattle.tb_query.specs.declared.limits.TheConstants.{MOST_DIMENSIONS, MOST_FILTERS}
use Rattle.tb_query.specs.declared.limits.TheConstants.{MOST_PLACES}
use Rattle.tb_query.specs.Bytes.{first_not_text}
use Rattle.tb_query.specs.Tokens.{Token, token_number, tokens_of}
use Rattle.tb_query.specs.Grammar.{NamedFilter, NamedQuery, IsQuery}
use Rattle.tb_query.specs.Steps.{start, steps_from}
use Rattle.tb_query.specs.Meanings.{name_of_token, code_of_token, name_meant, query_meant}

-- the first name that is no variable and no recode
abbrev pub unknown_in : SchemaValue → List Token → Option ℕ
unknown_in schema ts = option_map token_number (find (λ t. is_none (name_of_token schema t)) ts)

abbrev pub unknown_name : SchemaValue → NamedQuery → Option ℕ
unknown_name schema q =
    option_or (unknown_in schema q.dimensions) (unknown_in schema (map (λ f. f.name) q.filters))

-- the first code that is no code, and no group, under its filter's name
abbrev pub unknown_among : SchemaValue → NameOf → List Token → Option ℕ
unknown_among schema of ts =
    option_map token_number (find (λ t. is_none (code_of_token schema of t)) ts)

abbrev pub unknown_code_in : SchemaValue → NamedFilter → Option ℕ
unknown_code_in schema f = unknown_among schema (name_meant schema f.name) f.codes

abbrev pub unknown_code : SchemaValue → List NamedFilter → Option ℕ
unknown_code schema [] = None
unknown_code schema (f ∷ fs) = option_or (unknown_code_in schema f) (unknown_code schema fs)

-- the first name that an earlier one is the same as, where `earlier` stand before the list
abbrev pub repeat_after : List Token → List Token → Option ℕ
repeat_after earlier [] = None
repeat_after earlier (t ∷ ts) =
    if list_any (λ e. bytes_eq e.text t.text) earlier then Some t.number
    else repeat_after (earlier ++ t ∷ []) ts

abbrev pub first_repeat : List Token → Option ℕ
first_repeat ts = repeat_after [] ts

-- whether a query's table has too many places
abbrev pub is_too_large : SchemaValue → QueryValue → Bool
is_too_large schema query = nat_lt MOST_PLACES (length (places_of schema query))

abbrev pub first_some : List (Option QueryFault) → Option QueryFault
first_some [] = None
first_some (f ∷ fs) = option_or f (first_some fs)

abbrev pub fault_if : Bool → QueryFault → Option QueryFault
fault_if b f = if b then Some f else None

-- the first fault of a line whose tokens are this query
abbrev pub refusal : SchemaValue → NamedQuery → Option QueryFault
refusal schema q =
    first_some
    (option_map faults.UnknownName (unknown_name schema q)
    ∷ option_map faults.UnknownCode (unknown_code schema q.filters)
    ∷ option_map faults.RepeatedDimension (first_repeat q.dimensions)
    ∷ fault_if (nat_lt MOST_DIMENSIONS (length q.dimensions)) faults.TooManyDimensions
    ∷ fault_if (nat_lt MOST_FILTERS (length q.filters)) faults.TooManyFilters
    ∷ fault_if (is_too_large schema (query_meant schema q)) faults.TooLarge
    ∷ [])

-- the line reads as the query
pub record Reads (schema : SchemaValue) (line : List ℕ) (query : QueryValue) : Type 0 where
  pub named : NamedQuery
  pub text : first_not_text line ≡ None
  pub grammar : IsQuery (tokens_of line) named
  pub no_fault : refusal schema named ≡ None
  pub means : query_meant schema named ≡ query

-- the tokens are no query, and the number is that of the first token that the table of steps
-- doesn't read
pub record IsNoQuery (tokens : List Token) (number : ℕ) : Type 0 where
  pub none : (q : NamedQuery) → IsQuery tokens q → ⊥
  pub read : steps_from start tokens + 1 ≡ number

-- this is the line's first fault; want of memory says nothing of the line
abbrev pub IsRefused : SchemaValue → List ℕ → QueryFault → Type 0
IsRefused schema line (faults.NotText i) = first_not_text line ≡ Some i
IsRefused schema line (faults.Syntax i) =
    (first_not_text line ≡ None) × IsNoQuery (tokens_of line) i
IsRefused schema line faults.Memory = Unit {0}
IsRefused schema line fault =
    (first_not_text line ≡ None)
    × ((named : NamedQuery) × IsQuery (tokens_of line) named
    × (refusal schema named ≡ Some fault))

-- this is the fault, unless memory ran out
abbrev pub RefusesBy : QueryFault → Option QueryFault → Type 0
RefusesBy faults.Memory fault = Unit {0}
RefusesBy by fault = fault ≡ Some by

-- what was made of a part of a query: it is as told, and nothing of the part is unknown; or the
-- first that is unknown refuses it, unless memory ran out
pub record IsMade {A : Type 0} (made : Result A QueryFault) (AsTold : A → Type 0)
    (named : ℕ → QueryFault) (unknown : Option ℕ) : Type 0 where
  pub told : IfOk made AsTold
  pub no_fault : IfOk made (λ _. unknown ≡ None)
  pub refused : IfErr made (λ e. RefusesBy e (option_map named unknown))
