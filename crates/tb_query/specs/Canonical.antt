-- The canonical text of a query: its tokens one blank apart, but none after `(` and none before
-- `,` or `)`.
use Rattle.std.specs.Prelude.{ℕ, ◌||◌, if◌then◌else◌, List, [], ◌∷◌, ◌++◌, map, bytes_eq, codes}
use Rattle.std.specs.Prelude.{slice_index_or}
use Rattle.tb_model.specs.declared.names.NameOf.{NameOf}
use Rattle.tb_model.specs.declared.names.Filter.{Filter}
use Rattle.tb_model.specs.Schemas.{SchemaValue, name_text, codes_of}
use Rattle.tb_model.specs.Queries.{QueryValue}
use Rattle.tb_query.specs.declared.tokens.Kind.{Kind}
use Rattle.tb_query.specs.declared.tokens.Kind.TheVariants as kind
use Rattle.tb_query.specs.Tokens.{Token, kind_of}
use Rattle.tb_query.specs.Grammar.{NamedFilter, NamedQuery, Piece, OfKind, NamePiece, CodePiece}
use Rattle.tb_query.specs.Grammar.{query_pieces}

-- the text of a kind of token that has only one
abbrev pub word_text : Kind → List ℕ
word_text kind.Table = codes "table"
word_text kind.By = codes "by"
word_text kind.Where = codes "where"
word_text kind.And = codes "and"
word_text kind.Not = codes "not"
word_text kind.In = codes "in"
word_text kind.With = codes "with"
word_text kind.Totals = codes "totals"
word_text kind.Labels = codes "labels"
word_text kind.Open = codes "("
word_text kind.Comma = codes ","
word_text kind.Close = codes ")"
word_text _ = []

abbrev pub piece_text : Piece → List ℕ
piece_text (OfKind k) = word_text k
piece_text (NamePiece t) = t.text
piece_text (CodePiece t) = t.text

-- a token of this text, wherever it stands
abbrev pub token_of : List ℕ → Token
token_of text = record { number = 0; kind = kind_of text; text = text }

-- a code, or group, under a name by its number
abbrev pub code_text : SchemaValue → NameOf → ℕ → List ℕ
code_text schema of number = slice_index_or (codes_of schema of) number []

abbrev pub name_token : SchemaValue → NameOf → Token
name_token schema of = token_of (name_text schema of)

abbrev pub code_token : SchemaValue → NameOf → ℕ → Token
code_token schema of number = token_of (code_text schema of number)

-- a filter and a query by their names and codes
abbrev pub named_filter : SchemaValue → Filter → NamedFilter
named_filter schema f =
    record {
      name = name_token schema f.of;
      negated = f.negated;
      codes = map (code_token schema f.of) f.codes;
    }

abbrev pub named_query : SchemaValue → QueryValue → NamedQuery
named_query schema q =
    record {
      dimensions = map (name_token schema) q.dimensions;
      filters = map (named_filter schema) q.filters;
      totals = q.totals;
      labels = q.labels;
    }

-- what stands between two tokens
abbrev pub gap : List ℕ → List ℕ → List ℕ
gap before after =
    if bytes_eq before (codes "(") || bytes_eq after (codes ",") || bytes_eq after (codes ")")
    then [] else 32 ∷ []

-- the texts of tokens in one line, after a token
abbrev pub join_after : List ℕ → List (List ℕ) → List ℕ
join_after before [] = []
join_after before (text ∷ texts) = gap before text ++ text ++ join_after text texts

-- the texts of tokens in one line
abbrev pub join : List (List ℕ) → List ℕ
join [] = []
join (text ∷ texts) = text ++ join_after text texts

abbrev pub texts_of : List Piece → List (List ℕ)
texts_of pieces = map piece_text pieces

-- the canonical text
abbrev pub canonical_text : SchemaValue → QueryValue → List ℕ
canonical_text schema query = join (texts_of (query_pieces (named_query schema query)))
