-- Words are no edit exactly where a rule of the syntax is broken.
use Rattle.std.proofs.Common.{◌≡◌, ℕ, suc, ◌==◌, Bool, true, false, not, List, [], ◌∷◌, length, Option, Some, None, sym, refl, ◌∙◌, arith}
use Rattle.std.specs.Prelude.{bytes_eq, codes, is_none, nat_lt}
use Rattle.std.specs.List.{list_any, position_or_len}
use Rattle.std.specs.Option.{option_map}
use Rattle.std.proofs.lemmas.Bool.Decides.{nat_tests}
use Rattle.tb_revise.specs.Grammar.{NamedSetting, NamedEdit, NamedAdd, NamedAmend, IsEdit, is_equals}
use Rattle.tb_revise.specs.Laws.{SyntaxByRules, has_syntax_fault, lacks_equals, lacks_words}
use Rattle.tb_revise.specs.Reading.{read_setting, read_settings, read_add, read_drop, read_amend, read_pvalue, read_threshold, read_oldest, read_words}
use Rattle.tb_revise.proofs.Spelled.{is-edit, no-edit}

none-mapped : {A B : Type 0} (f : A → B) (o : Option A) → is_none (option_map f o) ≡ is_none o
none-mapped f None = refl
none-mapped f (Some x) = refl

-- an `=` is found exactly where there is one
found-of : (b : ℕ) (bs : List ℕ) (v : Bool) → is_equals b ≡ v → nat_lt (position_or_len is_equals bs) (length bs) ≡ list_any is_equals bs → nat_lt (position_or_len is_equals (b ∷ bs)) (length (b ∷ bs)) ≡ list_any is_equals (b ∷ bs)
found-of b bs true e h = rw e (grind (arith, nat_tests))
found-of b bs false e h = rw (e, ← h) (grind (arith, nat_tests))

found : (word : List ℕ) → nat_lt (position_or_len is_equals word) (length word) ≡ list_any is_equals word
found [] = refl
found (b ∷ bs) = found-of b bs (is_equals b) refl (found bs)

no-setting-of : (word : List ℕ) (v : Bool) → nat_lt (position_or_len is_equals word) (length word) ≡ v → is_none (read_setting word) ≡ lacks_equals word
unfolding read_setting
no-setting-of word true e = rw (← found word, e) refl
no-setting-of word false e = rw (← found word, e) refl

no-setting : (word : List ℕ) → is_none (read_setting word) ≡ lacks_equals word
no-setting word = no-setting-of word (nat_lt (position_or_len is_equals word) (length word)) refl

no-settings-of : (word : List ℕ) (words : List (List ℕ)) (o : Option NamedSetting) → read_setting word ≡ o → is_none (read_settings words) ≡ list_any lacks_equals words → is_none (read_settings (word ∷ words)) ≡ list_any lacks_equals (word ∷ words)
no-settings-of word words None e h = rw (← no-setting word, e) refl
no-settings-of word words (Some s) e h = rw (← no-setting word, e) (none-mapped (λ ss. s ∷ ss) (read_settings words) ∙ h)

no-settings : (words : List (List ℕ)) → is_none (read_settings words) ≡ list_any lacks_equals words
no-settings [] = refl
no-settings (word ∷ words) = no-settings-of word words (read_setting word) refl (no-settings words)

enough : (n : ℕ) → nat_lt (suc (suc n)) 2 ≡ false
enough n = grind (arith, nat_tests)

no-add : (words : List (List ℕ)) → is_none (read_add words) ≡ lacks_words 2 words
unfolding read_add
no-add [] = refl
no-add (person ∷ []) = refl
no-add (person ∷ key ∷ words) = rw (enough (length words)) (none-mapped (NamedAdd person key) (read_settings words) ∙ no-settings words)

not-one : (n : ℕ) → not (suc (suc n) == 1) ≡ true
not-one n = grind (arith, nat_tests)

no-drop : (words : List (List ℕ)) → is_none (read_drop words) ≡ not (length words == 1)
unfolding read_drop
no-drop [] = refl
no-drop (person ∷ []) = refl
no-drop (person ∷ word ∷ words) = sym (not-one (length words))

no-amend : (words : List (List ℕ)) → is_none (read_amend words) ≡ lacks_words 1 words
unfolding read_amend
no-amend [] = refl
no-amend (person ∷ []) = refl
no-amend (person ∷ word ∷ words) = rw (enough (length words)) (none-mapped (NamedAmend person) (read_settings (word ∷ words)) ∙ no-settings (word ∷ words))

not-three : (n : ℕ) → not (suc (suc (suc (suc n))) == 3) ≡ true
not-three n = grind (arith, nat_tests)

no-pvalue : (words : List (List ℕ)) → is_none (read_pvalue words) ≡ not (length words == 3)
unfolding read_pvalue
no-pvalue [] = refl
no-pvalue (row ∷ []) = refl
no-pvalue (row ∷ key ∷ []) = refl
no-pvalue (row ∷ key ∷ pvalue ∷ []) = refl
no-pvalue (row ∷ key ∷ pvalue ∷ word ∷ words) = sym (not-three (length words))

no-threshold : (words : List (List ℕ)) → is_none (read_threshold words) ≡ not (length words == 1)
unfolding read_threshold
no-threshold [] = refl
no-threshold (value ∷ []) = refl
no-threshold (value ∷ word ∷ words) = sym (not-one (length words))

no-oldest : (words : List (List ℕ)) → is_none (read_oldest words) ≡ not (length words == 1)
unfolding read_oldest
no-oldest [] = refl
no-oldest (release ∷ []) = refl
no-oldest (release ∷ word ∷ words) = sym (not-one (length words))

rules-of : (first : List ℕ) (words : List (List ℕ)) (a d m p t o : Bool) → bytes_eq first (codes "add") ≡ a → bytes_eq first (codes "drop") ≡ d → bytes_eq first (codes "amend") ≡ m
    → bytes_eq first (codes "pvalue") ≡ p → bytes_eq first (codes "threshold") ≡ t → bytes_eq first (codes "oldest") ≡ o → is_none (read_words (first ∷ words)) ≡ has_syntax_fault (first ∷ words)
unfolding read_words
rules-of first words true d m p t o ea ed em ep et eo = rw ea (no-add words)
rules-of first words false true m p t o ea ed em ep et eo = rw (ea, ed) (no-drop words)
rules-of first words false false true p t o ea ed em ep et eo = rw (ea, ed, em) (no-amend words)
rules-of first words false false false true t o ea ed em ep et eo = rw (ea, ed, em, ep) (no-pvalue words)
rules-of first words false false false false true o ea ed em ep et eo = rw (ea, ed, em, ep, et) (no-threshold words)
rules-of first words false false false false false true ea ed em ep et eo = rw (ea, ed, em, ep, et, eo) (no-oldest words)
rules-of first words false false false false false false ea ed em ep et eo = rw (ea, ed, em, ep, et, eo) refl

rules : (words : List (List ℕ)) → is_none (read_words words) ≡ has_syntax_fault words
unfolding read_words
rules [] = refl
rules (first ∷ words) = rules-of first words (bytes_eq first (codes "add")) (bytes_eq first (codes "drop")) (bytes_eq first (codes "amend")) (bytes_eq first (codes "pvalue")) (bytes_eq first (codes "threshold")) (bytes_eq first (codes "oldest")) refl refl refl refl refl refl

none-read : (words : List (List ℕ)) (o : Option NamedEdit) → read_words words ≡ o → ((e : NamedEdit) → ¬ IsEdit words e) → is_none (read_words words) ≡ true
none-read words None e none = rw e refl
none-read words (Some edit) e none = absurd (none edit (is-edit words edit e))

nothing : {A : Type 0} (o : Option A) → is_none o ≡ true → o ≡ None
nothing None h = refl
nothing (Some x) h = absurd (cc)

pub syntax_by_rules : SyntaxByRules
syntax_by_rules words = (
  λ none. sym (rules words) ∙ none-read words (read_words words) refl none,
  λ broken. no-edit words (nothing (read_words words) (rules words ∙ broken)),
)
