-- Laws of the grammar, the table of steps and what a line reads as.
use Rattle.std.specs.Prelude.{◌≡◌, ℕ, List}
use Rattle.tb_base.specs.OneAnswer.{HasOneAnswer}
use Rattle.tb_model.specs.Schemas.{SchemaValue}
use Rattle.tb_model.specs.Queries.{QueryValue}
use Rattle.tb_query.specs.declared.fault.QueryFault.TheVariants as faults
use Rattle.tb_query.specs.Faults.{Reads, IsRefused}
use Rattle.tb_query.specs.Canonical.{canonical_text}
use Rattle.tb_query.specs.Tokens.{Token}
use Rattle.tb_query.specs.Grammar.{NamedQuery, IsQuery}
use Rattle.tb_query.specs.Steps.{IsReadByTable}

-- the tokens are a query exactly where the table reads all of them and stops at an end
pub record TableIsGrammar : Type 0 where
  pub reads_queries :
      (tokens : List Token) (q : NamedQuery) → IsQuery tokens q → IsReadByTable tokens
  pub reads_only_queries :
      (tokens : List Token) → IsReadByTable tokens → (q : NamedQuery) × IsQuery tokens q

-- the tokens are at most one query
abbrev pub OneQuery : Type 0
OneQuery = (tokens : List Token) (p q : NamedQuery) → IsQuery tokens p → IsQuery tokens q → p ≡ q

-- a line reads as exactly one query, or is refused by exactly one fault
abbrev pub OneAnswer : Type 0
OneAnswer =
    (schema : SchemaValue) (line : List ℕ)
    → HasOneAnswer faults.Memory (Reads schema line) (IsRefused schema line)

-- a query's canonical text reads as the same query, over the schema over which it was read
abbrev pub ReadsAgain : Type 0
ReadsAgain =
    (schema : SchemaValue) (line : List ℕ) (query : QueryValue)
    → Reads schema line query → Reads schema (canonical_text schema query) query
