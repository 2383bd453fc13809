-- What the names and codes of a query stand for over a schema.
use Rattle.std.specs.Prelude.{ℕ, Option, map, unwrap_or}
use Rattle.tb_model.specs.declared.names.NameOf.{NameOf}
use Rattle.tb_model.specs.declared.names.NameOf.TheVariants as name_of
use Rattle.tb_model.specs.declared.names.Filter.{Filter}
use Rattle.tb_model.specs.Schemas.{SchemaValue}
use Rattle.tb_model.specs.Queries.{QueryValue}
use Rattle.tb_schema.specs.Names.{name_in, code_in}
use Rattle.tb_query.specs.Tokens.{Token}
use Rattle.tb_query.specs.Grammar.{NamedFilter, NamedQuery}

-- the variable or recode that a token names, if there is one
unfoldable pub name_of_token : SchemaValue → Token → Option NameOf
name_of_token schema t = name_in schema t.text

-- the number of the category or group whose code a token is under a name, if there is one
unfoldable pub code_of_token : SchemaValue → NameOf → Token → Option ℕ
code_of_token schema of t = code_in schema of t.text

-- what a token stands for as a name, where it is one
abbrev pub name_meant : SchemaValue → Token → NameOf
name_meant schema t = unwrap_or (name_of_token schema t) (name_of.Variable 0)

-- what a token stands for as a code under a name, where it is one
abbrev pub code_meant : SchemaValue → NameOf → Token → ℕ
code_meant schema of t = unwrap_or (code_of_token schema of t) 0

abbrev pub filter_meant : SchemaValue → NamedFilter → Filter
filter_meant schema f =
    let of = name_meant schema f.name in
    record { of = of; negated = f.negated; codes = map (code_meant schema of) f.codes }

-- the query that the tokens stand for, where each name and code is there
abbrev pub query_meant : SchemaValue → NamedQuery → QueryValue
query_meant schema q =
    record {
      dimensions = map (name_meant schema) q.dimensions;
      filters = map (filter_meant schema) q.filters;
      totals = q.totals;
      labels = q.labels;
    }
