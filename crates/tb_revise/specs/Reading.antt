-- What words are when they are read from the left, for the contracts of the parser's functions.
use Rattle.std.specs.Prelude.{◌≡◌, ℕ, ◌+◌, if◌then◌else◌, List, [], ◌∷◌, codes, drop, take, map}
use Rattle.std.specs.Prelude.{Option, Some, None, bytes_eq, position}
use Rattle.std.specs.Option.{option_map}
use Rattle.tb_base.specs.Lists.{all_some}
use Rattle.tb_revise.specs.declared.fault.EditTextFault.{EditTextFault}
use Rattle.tb_revise.specs.declared.fault.EditTextFault.TheVariants as faults
use Rattle.tb_revise.specs.Grammar.{NamedSetting, NamedEdit, NamedAdd, NamedDrop, NamedAmend}
use Rattle.tb_revise.specs.Grammar.{NamedOldest, NamedPvalue, NamedThreshold, IsEdit, is_equals}

-- a word as a setting, if it has an `=`
unfoldable pub read_setting : List ℕ → Option NamedSetting
read_setting word =
    option_map (λ i. record { name = take i word; code = drop (i + 1) word })
    (position is_equals word)

abbrev pub read_settings : List (List ℕ) → Option (List NamedSetting)
read_settings words = all_some (map read_setting words)

-- the words after `add`
unfoldable pub read_add : List (List ℕ) → Option NamedEdit
read_add [] = None
read_add (person ∷ []) = None
read_add (person ∷ key ∷ words) = option_map (NamedAdd person key) (read_settings words)

-- the words after `drop`
unfoldable pub read_drop : List (List ℕ) → Option NamedEdit
read_drop [] = None
read_drop (person ∷ []) = Some (NamedDrop person)
read_drop (person ∷ word ∷ words) = None

-- the words after `amend`
unfoldable pub read_amend : List (List ℕ) → Option NamedEdit
read_amend [] = None
read_amend (person ∷ []) = None
read_amend (person ∷ word ∷ words) =
    option_map (NamedAmend person) (read_settings (word ∷ words))

-- the words after `pvalue`
unfoldable pub read_pvalue : List (List ℕ) → Option NamedEdit
read_pvalue [] = None
read_pvalue (row ∷ []) = None
read_pvalue (row ∷ key ∷ []) = None
read_pvalue (row ∷ key ∷ pvalue ∷ []) = Some (NamedPvalue row key pvalue)
read_pvalue (row ∷ key ∷ pvalue ∷ word ∷ words) = None

-- the words after `threshold`
unfoldable pub read_threshold : List (List ℕ) → Option NamedEdit
read_threshold [] = None
read_threshold (value ∷ []) = Some (NamedThreshold value)
read_threshold (value ∷ word ∷ words) = None

-- the words after `oldest`
unfoldable pub read_oldest : List (List ℕ) → Option NamedEdit
read_oldest [] = None
read_oldest (release ∷ []) = Some (NamedOldest release)
read_oldest (release ∷ word ∷ words) = None

-- all words of a line
unfoldable pub read_words : List (List ℕ) → Option NamedEdit
read_words [] = None
read_words (first ∷ words) =
    if bytes_eq first (codes "add") then read_add words
    else if bytes_eq first (codes "drop") then read_drop words
    else if bytes_eq first (codes "amend") then read_amend words
    else if bytes_eq first (codes "pvalue") then read_pvalue words
    else if bytes_eq first (codes "threshold") then read_threshold words
    else if bytes_eq first (codes "oldest") then read_oldest words
    else None

-- why nothing was read, unless for want of memory
abbrev pub StopsBy : {A : Type 0} → Option A → EditTextFault → Type 0
StopsBy read faults.Syntax = read ≡ None
StopsBy read faults.Memory = Unit {0}
StopsBy read fault = ⊥

-- why no edit was parsed, unless for want of memory
abbrev pub ParsesNone : List (List ℕ) → EditTextFault → Type 0
ParsesNone words faults.Syntax = (edit : NamedEdit) → ¬ IsEdit words edit
ParsesNone words faults.Memory = Unit {0}
ParsesNone words fault = ⊥
