-- A list put together from its parts.
use Rattle.std.proofs.Common.{◌≡◌, ◌∙◌, ◌++◌, ◌∷◌, ℕ, List, ap, sym, append_assoc}
use Rattle.std.specs.Prelude.{codes}
use Rattle.std.proofs.lemmas.Grind.{flat_map-append}
use Rattle.csv.specs.Writing.{default_writer, row_text}
use Rattle.tb_describe.specs.Lists.{list_text, records_text}
use Rattle.tb_model.specs.Texts.{line_text}

-- records behind others
pub joined : (first second : List (List (List ℕ))) (old middle new : List ℕ) → middle ≡ old ++ records_text first → new ≡ middle ++ records_text second → new ≡ old ++ records_text (first ++ second)
joined first second old middle new one two =
    two
    ∙ ap (λ t. t ++ records_text second) one
    ∙ append_assoc old (records_text first) (records_text second)
    ∙ ap (λ t. old ++ t) (sym (flat_map-append (row_text default_writer) first second))

-- the line that asks, the columns, the records and the last line
pub whole : (line : List ℕ) (columns : List (List ℕ)) (records : List (List (List ℕ))) (asked named all : List ℕ) → asked ≡ line_text line → named ≡ asked ++ row_text default_writer columns
    → all ≡ named ++ records_text records → all ++ line_text (codes ".") ≡ list_text line columns records
whole line columns records asked named all a n r =
    let row = row_text default_writer columns in
    let last = line_text (codes ".") in
    ap (λ t. t ++ last) (r ∙ ap (λ t. t ++ records_text records) (n ∙ ap (λ t. t ++ row) a) ∙ append_assoc (line_text line) row (records_text records))
