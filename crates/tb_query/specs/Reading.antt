-- What the table reads from a stage on, for the contracts of the parser's own functions.
use Rattle.std.specs.Prelude.{◌≡◌, ◌≢◌, ◌++◌, ◌+◌, ℕ, suc, Bool, true, false, if◌then◌else◌}
use Rattle.std.specs.Prelude.{List, [], ◌∷◌, length, Result, Ok, Err}
use Rattle.std.specs.Option.{option_map_or}
use Rattle.tb_query.specs.declared.tokens.Kind.{Kind}
use Rattle.tb_query.specs.declared.parse.tree.Stop.{Stop}
use Rattle.tb_query.specs.declared.parse.tree.Stop.TheVariants as stop
use Rattle.tb_query.specs.Tokens.{Token}
use Rattle.tb_query.specs.Grammar.{NamedFilter, NamedQuery, IsQuery}
use Rattle.tb_query.specs.Steps.{Stage, start, dimensions, test, negated, opening, codes, filters}
use Rattle.tb_query.specs.Steps.{totals, labels, step, is_end, steps_from}

-- what the tokens from a stage on stand for: dimensions, whether the filter that is open is
-- negated, its codes, filters, totals and labels
pub data Tail : Type 0 where
  tail : (ds : List Token) (neg : Bool) (cs : List Token) (fs : List NamedFilter)
      (tot lab : Bool) → Tail

abbrev pub no_more : Tail
no_more = tail [] false [] [] false false

-- a token that leads to a stage, before what follows it
abbrev pub before : Stage → Token → Tail → Tail
before dimensions t (tail ds neg cs fs tot lab) = tail (t ∷ ds) neg cs fs tot lab
before test t (tail ds neg cs fs tot lab) =
    tail ds false [] (record { name = t; negated = neg; codes = cs } ∷ fs) tot lab
before negated t (tail ds neg cs fs tot lab) = tail ds true cs fs tot lab
before opening t (tail ds neg cs fs tot lab) = tail ds false cs fs tot lab
before codes t (tail ds neg cs fs tot lab) = tail ds neg (t ∷ cs) fs tot lab
before filters t (tail ds neg cs fs tot lab) = tail ds false [] fs tot lab
before totals t (tail ds neg cs fs tot lab) = tail ds neg cs fs true lab
before labels t (tail ds neg cs fs tot lab) = tail ds neg cs fs tot true
before _ t r = r

abbrev pub result_before : (Tail → Tail) → Result Tail ℕ → Result Tail ℕ
result_before f (Ok r) = Ok (f r)
result_before f (Err left) = Err left

-- what is read from a stage on, or how many tokens are left where the table stops
unfoldable pub read_from : Stage → List Token → Result Tail ℕ
read_from at [] = if is_end at then Ok no_more else Err 0
read_from at (t ∷ ts) =
    option_map_or (λ next. result_before (before next t) (read_from next ts))
    (step at t.kind) (Err (suc (length ts)))

-- what is read from one stage on is what is read from another on, after something in front
abbrev pub Leads : (Tail → Tail) → Stage → List Token → Stage → List Token → Type 0
Leads f at tokens next rest = read_from at tokens ≡ result_before f (read_from next rest)

-- why the parser stopped, unless for want of memory
abbrev pub StopsBy : Stage → List Token → Stop → Type 0
StopsBy at tokens stop.Memory = Unit {0}
StopsBy at tokens (stop.Syntax left) = read_from at tokens ≡ Err left

-- from a stage on the tokens are the end of a query, with totals and labels as returned
abbrev pub Ends : Stage → List Token → Result (Bool × Bool) Stop → Type 0
Ends at tokens (Ok x) = read_from at tokens ≡ Ok (tail [] false [] [] x.0 x.1)
Ends at tokens (Err e) = StopsBy at tokens e

-- what stands in front: dimensions
abbrev pub with_dimensions : List Token → Tail → Tail
with_dimensions xs (tail ds neg cs fs tot lab) = tail (xs ++ ds) neg cs fs tot lab

-- codes
abbrev pub with_codes : List Token → Tail → Tail
with_codes xs (tail ds neg cs fs tot lab) = tail ds neg (xs ++ cs) fs tot lab

-- the last codes of a filter, and its end
abbrev pub last_codes : List Token → Tail → Tail
last_codes xs (tail ds neg cs fs tot lab) = tail ds false xs fs tot lab

-- whether a filter is negated
abbrev pub with_negated : Bool → Tail → Tail
with_negated b (tail ds neg cs fs tot lab) = tail ds b cs fs tot lab

-- filters
abbrev pub with_filters : List NamedFilter → Tail → Tail
with_filters xs (tail ds neg cs fs tot lab) = tail ds false [] (xs ++ fs) tot lab

-- the next token isn't of this kind
abbrev pub NotNext : Kind → List Token → Type 0
NotNext k [] = Unit {0}
NotNext k (t ∷ ts) = t.kind ≢ k

-- the next token is of this kind, and the others stand after it
pub record IsNext (k : Kind) (tokens rest : List Token) : Type 0 where
  pub token : Token
  pub is : tokens ≡ token ∷ rest
  pub kind : token.kind ≡ k

-- a whole query as what its tokens stand for
abbrev pub tail_of : NamedQuery → Tail
tail_of q = tail q.dimensions false [] q.filters q.totals q.labels

-- why no query was parsed, unless for want of memory: the tokens are none, and the table leaves so
-- many
abbrev pub ParsesNone : List Token → Stop → Type 0
ParsesNone tokens stop.Memory = Unit {0}
ParsesNone tokens (stop.Syntax left) =
    ((q : NamedQuery) → IsQuery tokens q → ⊥) × (steps_from start tokens + left ≡ length tokens)
