-- What the code holds as the definitions see it, without where its texts lie.
use Rattle.std.specs.Prelude.{ℕ, List, map}
use Rattle.std.specs.Borrow.{Bor}
use Rattle.tb_query.specs.declared.tokens.Token.{Token as TokenOfLine}
use Rattle.tb_query.specs.declared.parse.tree.FilterTokens.{FilterTokens}
use Rattle.tb_query.specs.declared.parse.tree.QueryTokens.{QueryTokens}
use Rattle.tb_query.specs.Tokens.{Token}
use Rattle.tb_query.specs.Grammar.{NamedFilter, NamedQuery}

abbrev pub token_view : TokenOfLine → Token
token_view t = record { number = t.number; kind = t.kind; text = t.text.now }

abbrev pub token_views : List TokenOfLine → List Token
token_views ts = map token_view ts

abbrev pub filter_view : FilterTokens → NamedFilter
filter_view f =
    record { name = token_view f.name; negated = f.negated; codes = token_views f.codes.items }

abbrev pub filter_views : List FilterTokens → List NamedFilter
filter_views fs = map filter_view fs

abbrev pub query_view : QueryTokens → NamedQuery
query_view q =
    record {
      dimensions = token_views q.dimensions.items;
      filters = filter_views q.filters.items;
      totals = q.totals;
      labels = q.labels;
    }

-- the texts that references lead to
abbrev pub text_views : List (Bor (List ℕ)) → List (List ℕ)
text_views texts = map (λ t. t.now) texts
