-- The table of steps, which only counts: how many tokens it reads, and the stage at which it stops.
use Rattle.std.specs.Prelude.{◌≡◌, ℕ, ◌+◌, Bool, true, false, if◌then◌else◌, List, [], ◌∷◌}
use Rattle.std.specs.Prelude.{length, Option, Some, None}
use Rattle.std.specs.Option.{option_map_or}
use Rattle.tb_query.specs.declared.tokens.Kind.{Kind}
use Rattle.tb_query.specs.declared.tokens.Kind.TheVariants as kind
use Rattle.tb_query.specs.Tokens.{Token}
use Rattle.tb_query.specs.Grammar.{is_word}

-- what was read last, or what is to come
pub data Stage : Type 0 where
  start dimension dimensions name test negated opening code codes filters : Stage
  first_with totals second_with labels : Stage

-- the table: a stage, a token of this kind, and the next stage
abbrev pub step : Stage → Kind → Option Stage
step start kind.Table = Some dimension
step dimension kind.Name = Some dimensions
step dimensions kind.By = Some dimension
step dimensions kind.Where = Some name
step dimensions kind.With = Some first_with
step name kind.Name = Some test
step test kind.Not = Some negated
step test kind.In = Some opening
step negated kind.In = Some opening
step opening kind.Open = Some code
step code k = if is_word k then Some codes else None
step codes kind.Comma = Some code
step codes kind.Close = Some filters
step filters kind.And = Some name
step filters kind.With = Some first_with
step first_with kind.Totals = Some totals
step first_with kind.Labels = Some labels
step totals kind.With = Some second_with
step second_with kind.Labels = Some labels
step _ _ = None

-- the stages at which a query may end
abbrev pub is_end : Stage → Bool
is_end dimensions = true
is_end filters = true
is_end totals = true
is_end labels = true
is_end _ = false

-- how many tokens the table reads from a stage on: it stops before the first token without a step
abbrev pub steps_from : Stage → List Token → ℕ
steps_from at [] = 0
steps_from at (t ∷ ts) = option_map_or (λ next. 1 + steps_from next ts) (step at t.kind) 0

-- the stage at which it stops
abbrev pub stop_from : Stage → List Token → Stage
stop_from at [] = at
stop_from at (t ∷ ts) = option_map_or (λ next. stop_from next ts) (step at t.kind) at

-- the table reads all tokens and stops at an end
pub record IsReadByTable (tokens : List Token) : Type 0 where
  pub all : steps_from start tokens ≡ length tokens
  pub at_end : is_end (stop_from start tokens) ≡ true
