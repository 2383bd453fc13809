-- The grammar: what the words of an edit are, as a relation between all words of a line and the
-- edit that they spell.
--   add PERSON KEY VAR=CODE ..
--   amend PERSON VAR=CODE ..
--   drop PERSON
--   pvalue PCV CKEY P
--   threshold T
--   oldest N
-- An amend has a setting or more, and an add may have none: whether it sets every variable is asked
-- of what it means.
use Rattle.std.specs.Prelude.{◌≡◌, ◌==◌, ◌||◌, ℕ, Bool, true, false, List, [], ◌∷◌, ◌++◌, map}
use Rattle.std.specs.Prelude.{bytes_eq, codes}
use Rattle.std.specs.List.{AllByRecursion, list_all, list_any}
use Rattle.tb_base.specs.Bytes.{is_text_byte}
use Rattle.tb_base.specs.Words.{words_of}

-- a setting by the text of its variable's name and of its code
pub record NamedSetting : Type 0 where
  pub name : List ℕ
  pub code : List ℕ

-- an edit by its words: those of its person, its key and its settings, or of what it sets of the
-- rules
pub data NamedEdit : Type 0 where
  NamedAdd : (person key : List ℕ) (settings : List NamedSetting) → NamedEdit
  NamedDrop : (person : List ℕ) → NamedEdit
  NamedAmend : (person : List ℕ) (settings : List NamedSetting) → NamedEdit
  NamedPvalue : (row key pvalue : List ℕ) → NamedEdit
  NamedThreshold : (value : List ℕ) → NamedEdit
  NamedOldest : (release : List ℕ) → NamedEdit

abbrev pub settings_of : NamedEdit → List NamedSetting
settings_of (NamedAdd person key settings) = settings
settings_of (NamedDrop person) = []
settings_of (NamedAmend person settings) = settings
settings_of (NamedPvalue row key pvalue) = []
settings_of (NamedThreshold value) = []
settings_of (NamedOldest release) = []

-- VAR=CODE; the byte between is `=`
abbrev pub setting_word : NamedSetting → List ℕ
setting_word s = s.name ++ 61 ∷ s.code

-- the words of an edit
abbrev pub edit_words : NamedEdit → List (List ℕ)
edit_words (NamedAdd person key settings) =
    codes "add" ∷ person ∷ key ∷ map setting_word settings
edit_words (NamedDrop person) = codes "drop" ∷ person ∷ []
edit_words (NamedAmend person settings) = codes "amend" ∷ person ∷ map setting_word settings
edit_words (NamedPvalue row key pvalue) = codes "pvalue" ∷ row ∷ key ∷ pvalue ∷ []
edit_words (NamedThreshold value) = codes "threshold" ∷ value ∷ []
edit_words (NamedOldest release) = codes "oldest" ∷ release ∷ []

-- whether a word is one with which an edit begins
abbrev pub begins_edit : List ℕ → Bool
begins_edit word =
    bytes_eq word (codes "add") || bytes_eq word (codes "drop")
    || bytes_eq word (codes "amend") || bytes_eq word (codes "pvalue")
    || bytes_eq word (codes "threshold") || bytes_eq word (codes "oldest")

-- a name ends at the first `=` of its setting
abbrev pub is_equals : ℕ → Bool
is_equals b = b == 61

abbrev pub EndsAtEquals : NamedSetting → Type 0
EndsAtEquals s = list_any is_equals s.name ≡ false

-- at least one
abbrev pub HasSome : List NamedSetting → Type 0
HasSome [] = ⊥
HasSome (s ∷ ss) = Unit {0}

-- an amend has a setting
abbrev pub HasEnough : NamedEdit → Type 0
HasEnough (NamedAdd person key settings) = Unit {0}
HasEnough (NamedDrop person) = Unit {0}
HasEnough (NamedAmend person settings) = HasSome settings
HasEnough (NamedPvalue row key pvalue) = Unit {0}
HasEnough (NamedThreshold value) = Unit {0}
HasEnough (NamedOldest release) = Unit {0}

-- the words of a line are this edit
pub record IsEdit (words : List (List ℕ)) (edit : NamedEdit) : Type 0 where
  pub spelled : words ≡ edit_words edit
  pub names : AllByRecursion EndsAtEquals (settings_of edit)
  pub enough : HasEnough edit

-- the line spells this edit: its bytes are text, and its words are the edit
pub record Spells (line : List ℕ) (edit : NamedEdit) : Type 0 where
  pub text : list_all is_text_byte line ≡ true
  pub grammar : IsEdit (words_of line) edit
