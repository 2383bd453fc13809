-- Laws of the grammar and of what a line reads as.
use Rattle.std.specs.Prelude.{◌≡◌, ◌↔◌, ◌||◌, ◌==◌, not, nat_lt, ℕ, Bool, true}
use Rattle.std.specs.Prelude.{if◌then◌else◌, List, [], ◌∷◌, length, drop, bytes_eq, codes}
use Rattle.std.specs.List.{list_any}
use Rattle.tb_base.specs.OneAnswer.{HasOneAnswer}
use Rattle.tb_model.specs.Schemas.{SchemaValue, shape_of}
use Rattle.tb_release.specs.Laws.{EditFits}
use Rattle.tb_release.specs.declared.edits.Edit.{Edit}
use Rattle.tb_revise.specs.declared.fault.EditTextFault.TheVariants as faults
use Rattle.tb_revise.specs.Faults.{Reads, IsRefused}
use Rattle.tb_revise.specs.Grammar.{NamedEdit, IsEdit, is_equals}

-- the words are at most one edit
abbrev pub OneEdit : Type 0
OneEdit = (words : List (List ℕ)) (p q : NamedEdit) → IsEdit words p → IsEdit words q → p ≡ q

-- a word is no setting
abbrev pub lacks_equals : List ℕ → Bool
lacks_equals word = not (list_any is_equals word)

-- fewer words than two stand there, or one after the first n is no setting
abbrev pub lacks_words : ℕ → List (List ℕ) → Bool
lacks_words n words = nat_lt (length words) 2 || list_any lacks_equals (drop n words)

-- a rule of the syntax is broken: the first word isn't there or is no word of an edit, or a word is
-- missing or too many, or a setting has no `=`
abbrev pub has_syntax_fault : List (List ℕ) → Bool
has_syntax_fault [] = true
has_syntax_fault (first ∷ words) =
    if bytes_eq first (codes "add") then lacks_words 2 words
    else if bytes_eq first (codes "drop") then not (length words == 1)
    else if bytes_eq first (codes "amend") then lacks_words 1 words
    else if bytes_eq first (codes "pvalue") then not (length words == 3)
    else if bytes_eq first (codes "threshold") then not (length words == 1)
    else if bytes_eq first (codes "oldest") then not (length words == 1)
    else true

-- words are no edit exactly where a rule of the syntax is broken
abbrev pub SyntaxByRules : Type 0
SyntaxByRules =
    (words : List (List ℕ))
    → ((edit : NamedEdit) → ¬ IsEdit words edit) ↔ (has_syntax_fault words ≡ true)

-- a line reads as exactly one edit, or is refused by exactly one fault
abbrev pub OneAnswer : Type 0
OneAnswer =
    (schema : SchemaValue) (line : List ℕ)
    → HasOneAnswer faults.Memory (Reads schema line) (IsRefused schema line)

-- an edit that a line reads as fits the classification's shape, or is one of the rules in range
abbrev pub ReadEditsFit : Type 0
ReadEditsFit =
    (schema : SchemaValue) (line : List ℕ) (edit : Edit)
    → Reads schema line edit → EditFits (shape_of schema) edit
