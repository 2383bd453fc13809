-- The tokens of a line.
use Rattle.std.specs.Prelude.{ℕ, ◌+◌, ◌==◌, ◌&&◌, Bool, false, if◌then◌else◌, List, [], ◌∷◌}
use Rattle.std.specs.Prelude.{bytes_eq, codes}
use Rattle.tb_base.specs.Bytes.{is_blank}
use Rattle.tb_query.specs.Bytes.{is_word_byte}
use Rattle.tb_query.specs.declared.tokens.Kind.{Kind}
use Rattle.tb_query.specs.declared.tokens.Kind.TheVariants as kind

-- what a word is to the grammar
unfoldable pub word_kind : List ℕ → Kind
word_kind text =
    if bytes_eq text (codes "table") then kind.Table
    else (if bytes_eq text (codes "by") then kind.By
    else (if bytes_eq text (codes "where") then kind.Where
    else (if bytes_eq text (codes "and") then kind.And
    else (if bytes_eq text (codes "not") then kind.Not
    else (if bytes_eq text (codes "in") then kind.In
    else (if bytes_eq text (codes "with") then kind.With
    else (if bytes_eq text (codes "totals") then kind.Totals
    else (if bytes_eq text (codes "labels") then kind.Labels
    else kind.Name))))))))

-- what any other byte is
unfoldable pub mark_kind : ℕ → Kind
mark_kind b =
    if b == 40 then kind.Open
    else (if b == 44 then kind.Comma
    else (if b == 41 then kind.Close
    else kind.Other))

-- what a token of this text is
abbrev pub kind_of : List ℕ → Kind
kind_of [] = kind.Other
kind_of (b ∷ bs) = if is_word_byte b then word_kind (b ∷ bs) else mark_kind b

-- whether the next byte belongs to a word
abbrev pub begins_word : List ℕ → Bool
begins_word [] = false
begins_word (b ∷ bs) = is_word_byte b

-- the byte before the first text
abbrev pub with_first : ℕ → List (List ℕ) → List (List ℕ)
with_first b [] = (b ∷ []) ∷ []
with_first b (text ∷ texts) = (b ∷ text) ∷ texts

-- the texts of a line's tokens: blanks only separate, a word's bytes stay together, and each other
-- byte stands by itself
unfoldable pub cut : List ℕ → List (List ℕ)
cut [] = []
cut (b ∷ bs) =
    if is_blank b then cut bs
    else (if is_word_byte b && begins_word bs then with_first b (cut bs)
    else (b ∷ []) ∷ cut bs)

-- a token: its number, its kind and its text
pub record Token : Type 0 where
  pub number : ℕ
  pub kind : Kind
  pub text : List ℕ

abbrev pub token_number : Token → ℕ
token_number t = t.number

-- tokens of these texts, numbered from n on
abbrev pub tokens_from : ℕ → List (List ℕ) → List Token
tokens_from n [] = []
tokens_from n (text ∷ texts) =
    record { number = n; kind = kind_of text; text = text } ∷ tokens_from (n + 1) texts

-- the tokens of a line, numbered from 1
abbrev pub tokens_of : List ℕ → List Token
tokens_of line = tokens_from 1 (cut line)
