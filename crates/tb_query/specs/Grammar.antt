-- The grammar: what the tokens of a query are, as a relation between all tokens of a line and the
-- query that they spell. Braces mean any number of times, brackets once or not at all.
--   query  = "table" N { "by" N } [ "where" filter { "and" filter } ]
--            [ "with" "totals" ] [ "with" "labels" ]
--   filter = N [ "not" ] "in" "(" C { "," C } ")"
-- N is a name, which is a word other than the nine above, and C is any word.
use Rattle.std.specs.Prelude.{◌≡◌, Bool, true, false, if◌then◌else◌, List, [], ◌∷◌, ◌++◌, map}
use Rattle.std.specs.List.{flat_map, AllByRecursion}
use Rattle.tb_query.specs.declared.tokens.Kind.{Kind}
use Rattle.tb_query.specs.declared.tokens.Kind.TheVariants as kind
use Rattle.tb_query.specs.Tokens.{Token}

-- a filter by the tokens of its name and its codes
pub record NamedFilter : Type 0 where
  pub name : Token
  pub negated : Bool
  pub codes : List Token

-- a query by the tokens of its names and its codes
pub record NamedQuery : Type 0 where
  pub dimensions : List Token
  pub filters : List NamedFilter
  pub totals : Bool
  pub labels : Bool

-- what the grammar asks of one token: to be of this kind, or to be this name or this code
pub data Piece : Type 0 where
  OfKind : Kind → Piece
  NamePiece : Token → Piece
  CodePiece : Token → Piece

-- whether a token of this kind is a word
abbrev pub is_word : Kind → Bool
is_word kind.Open = false
is_word kind.Comma = false
is_word kind.Close = false
is_word kind.Other = false
is_word _ = true

-- the token is what the piece asks for
abbrev pub IsPiece : Piece → Token → Type 0
IsPiece (OfKind k) t = t.kind ≡ k
IsPiece (NamePiece n) t = (t ≡ n) × (t.kind ≡ kind.Name)
IsPiece (CodePiece c) t = (t ≡ c) × (is_word t.kind ≡ true)

-- the tokens are what the pieces ask for, one by one, to the end of both
abbrev pub Spell : List Token → List Piece → Type 0
Spell [] [] = Unit {0}
Spell [] (p ∷ ps) = ⊥
Spell (t ∷ ts) [] = ⊥
Spell (t ∷ ts) (p ∷ ps) = IsPiece p t × Spell ts ps

-- x { separator x }
abbrev pub separated_by : Kind → List (List Piece) → List Piece
separated_by k [] = []
separated_by k (x ∷ xs) = x ++ flat_map (λ y. OfKind k ∷ y) xs

abbrev pub name_pieces : List Token → List (List Piece)
name_pieces names = map (λ n. NamePiece n ∷ []) names

abbrev pub code_pieces : List Token → List (List Piece)
code_pieces codes = map (λ c. CodePiece c ∷ []) codes

-- N [ "not" ] "in" "(" C { "," C } ")"
abbrev pub filter_pieces : NamedFilter → List Piece
filter_pieces f =
    NamePiece f.name ∷ ((if f.negated then OfKind kind.Not ∷ [] else [])
    ++ OfKind kind.In ∷ OfKind kind.Open
    ∷ (separated_by kind.Comma (code_pieces f.codes) ++ OfKind kind.Close ∷ []))

-- [ "where" filter { "and" filter } ]
abbrev pub where_pieces : List NamedFilter → List Piece
where_pieces [] = []
where_pieces (f ∷ fs) =
    OfKind kind.Where ∷ separated_by kind.And (map filter_pieces (f ∷ fs))

-- [ "with" word ]
abbrev pub with_pieces : Kind → Bool → List Piece
with_pieces k asked = if asked then OfKind kind.With ∷ OfKind k ∷ [] else []

-- the pieces of a whole query
abbrev pub query_pieces : NamedQuery → List Piece
query_pieces q =
    OfKind kind.Table ∷ (separated_by kind.By (name_pieces q.dimensions)
    ++ (where_pieces q.filters
    ++ (with_pieces kind.Totals q.totals ++ with_pieces kind.Labels q.labels)))

-- at least one
abbrev pub HasSome : List Token → Type 0
HasSome [] = ⊥
HasSome (t ∷ ts) = Unit {0}

-- each filter has a code
abbrev pub HaveCodes : List NamedFilter → Type 0
HaveCodes filters = AllByRecursion (λ f. HasSome f.codes) filters

-- the tokens of a line are this query
pub record IsQuery (tokens : List Token) (q : NamedQuery) : Type 0 where
  pub spelled : Spell tokens (query_pieces q)
  pub some_dimension : HasSome q.dimensions
  pub some_codes : HaveCodes q.filters
