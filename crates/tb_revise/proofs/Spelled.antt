-- Words are read as an edit exactly where they are it.
use Rattle.std.proofs.Common.{◌≡◌, ℕ, suc, ◌+◌, ◌<◌, Bool, true, false, List, [], ◌∷◌, ◌++◌, length, take, drop, map, Option, Some, None, Result, Ok, Err, sym, refl, ap, subst, ◌∙◌, arith, length-append, inl, inr}
use Rattle.std.specs.Prelude.{MatchResult, bytes_eq, codes, nat_lt}
use Rattle.std.specs.List.{AllByRecursion, list_any, position_or_len}
use Rattle.std.specs.Option.{option_map}
use Rattle.std.proofs.lemmas.Bool.{cases_Bool}
use Rattle.std.proofs.lemmas.Bool.Decides.{nat_tests}
use Rattle.tb_base.proofs.AllThere.{first-some}
use Rattle.tb_base.proofs.Texts.{same_text}
use Rattle.tb_revise.specs.declared.fault.EditTextFault.{EditTextFault}
use Rattle.tb_revise.specs.declared.fault.EditTextFault.TheVariants as faults
use Rattle.tb_revise.specs.Grammar.{NamedSetting, NamedEdit, NamedAdd, NamedDrop, NamedAmend, NamedPvalue, NamedThreshold, NamedOldest, IsEdit, EndsAtEquals, HasEnough, HasSome, edit_words, is_equals, setting_word, settings_of}
use Rattle.tb_revise.specs.Reading.{ParsesNone, StopsBy, read_setting, read_settings, read_add, read_drop, read_amend, read_pvalue, read_threshold, read_oldest, read_words}
use Rattle.tb_revise.specs.Laws.{OneEdit}

-- how many bytes stand before the first `=`
abbrev at : List ℕ → ℕ
at word = position_or_len is_equals word

one_more : (n : ℕ) → 1 + n ≡ suc n
one_more n = omega arith

after_one : (n : ℕ) → suc n + 1 ≡ suc (n + 1)
after_one n = omega arith

-- a setting is cut at its first `=`
is-61 : (b : ℕ) → is_equals b ≡ true → b ≡ 61
is-61 b h = grind (arith, nat_tests)

joined-more : (b : ℕ) (bs : List ℕ) (n m : ℕ) → m ≡ suc n → bs ≡ take n bs ++ 61 ∷ drop (n + 1) bs → b ∷ bs ≡ take m (b ∷ bs) ++ 61 ∷ drop (m + 1) (b ∷ bs)
joined-more b bs n m e h = rw (e, after_one n) (ap (λ x. b ∷ x) h)

joined-of : (b : ℕ) (bs : List ℕ) (v : Bool) → is_equals b ≡ v → at (b ∷ bs) < length (b ∷ bs)
    → (at bs < length bs → bs ≡ take (at bs) bs ++ 61 ∷ drop (at bs + 1) bs)
    → b ∷ bs ≡ take (at (b ∷ bs)) (b ∷ bs) ++ 61 ∷ drop (at (b ∷ bs) + 1) (b ∷ bs)
joined-of b bs true e h rest = let n : at (b ∷ bs) ≡ 0 = rw e refl in rw n (ap (λ x. x ∷ bs) (is-61 b e))
joined-of b bs false e h rest =
    let n : at (b ∷ bs) ≡ suc (at bs) = rw e (one_more (at bs)) in
    joined-more b bs (at bs) (at (b ∷ bs)) n (rest (omega (arith, n, h)))

joined : (word : List ℕ) → at word < length word → word ≡ take (at word) word ++ 61 ∷ drop (at word + 1) word
joined [] h = absurd (omega arith)
joined (b ∷ bs) h = joined-of b bs (is_equals b) refl h (joined bs)

none-more : (b : ℕ) (bs : List ℕ) (n m : ℕ) → m ≡ suc n → is_equals b ≡ false → list_any is_equals (take n bs) ≡ false → list_any is_equals (take m (b ∷ bs)) ≡ false
none-more b bs n m e f h = rw (e, f) h

none-before-of : (b : ℕ) (bs : List ℕ) (v : Bool) → is_equals b ≡ v → list_any is_equals (take (at bs) bs) ≡ false → list_any is_equals (take (at (b ∷ bs)) (b ∷ bs)) ≡ false
none-before-of b bs true e rest = let n : at (b ∷ bs) ≡ 0 = rw e refl in rw n refl
none-before-of b bs false e rest =
    let n : at (b ∷ bs) ≡ suc (at bs) = rw e (one_more (at bs)) in
    none-more b bs (at bs) (at (b ∷ bs)) n e rest

none-before : (word : List ℕ) → list_any is_equals (take (at word) word) ≡ false
none-before [] = refl
none-before (b ∷ bs) = none-before-of b bs (is_equals b) refl (none-before bs)

-- a word that is read as a setting is that setting
is-setting : (word : List ℕ) (s : NamedSetting) (v : Bool) → nat_lt (at word) (length word) ≡ v → read_setting word ≡ Some s → (word ≡ setting_word s) × EndsAtEquals s
unfolding read_setting
is-setting word s true e h =
    let g = rw e at h in
    let same : record { name = take (at word) word; code = drop (at word + 1) word } ≡ s = cc in
    let some : at word < length word = grind (arith, nat_tests) in
    rw (← same) (joined word some, none-before word)
is-setting word s false e h = let g = rw e at h in absurd (cc)

-- the place of the first `=` after a name without one
at-name : (name code : List ℕ) → list_any is_equals name ≡ false → at (name ++ 61 ∷ code) ≡ length name
at-name [] code h = refl
at-name (b ∷ name) code h = elim (cases_Bool (is_equals b)) [
  | inl t ↦ let g = rw t at h in absurd (cc)
  | inr t ↦ let g = rw t at h in rw t (one_more (at (name ++ 61 ∷ code)) ∙ ap (λ n. suc n) (at-name name code g))
]

take-name : (name code : List ℕ) → take (length name) (name ++ 61 ∷ code) ≡ name
take-name [] code = refl
take-name (b ∷ name) code = ap (λ x. b ∷ x) (take-name name code)

drop-name : (name code : List ℕ) → drop (length name + 1) (name ++ 61 ∷ code) ≡ code
drop-name [] code = refl
drop-name (b ∷ name) code = rw (after_one (length name)) (drop-name name code)

setting-at : (name code word : List ℕ) (n : ℕ) → word ≡ name ++ 61 ∷ code → n ≡ length name → (take n word ≡ name) × (drop (n + 1) word ≡ code)
setting-at name code word n e h = rw (e, h) (take-name name code, drop-name name code)

read-setting : (s : NamedSetting) → EndsAtEquals s → read_setting (setting_word s) ≡ Some s
unfolding read_setting
read-setting s h =
    let n : at (setting_word s) ≡ length s.name = at-name s.name s.code h in
    let within : nat_lt (at (setting_word s)) (length (setting_word s)) ≡ true = (let long = length-append s.name (61 ∷ s.code) in grind (arith, nat_tests)) in
    let parts = setting-at s.name s.code (setting_word s) (at (setting_word s)) refl n in
    rw (within, parts.0, parts.1) refl

-- the settings of words
are-settings : (words : List (List ℕ)) (ss : List NamedSetting) → read_settings words ≡ Some ss → (words ≡ map setting_word ss) × AllByRecursion EndsAtEquals ss
are-settings [] [] h = (refl, tt)
are-settings [] (s ∷ ss) h = absurd (cc)
are-settings (word ∷ words) ss h =
    let (s, more, one, others, same) = first-some (read_setting word) (map read_setting words) ss h in
    let first = is-setting word s (nat_lt (at word) (length word)) refl one in
    let rest = are-settings words more others in
    rw same (ap (λ w. w ∷ words) first.0 ∙ ap (λ ws. setting_word s ∷ ws) rest.0, (first.1, rest.1))

read-settings : (ss : List NamedSetting) → AllByRecursion EndsAtEquals ss → read_settings (map setting_word ss) ≡ Some ss
read-settings [] h = refl
read-settings (s ∷ ss) h = rw (read-setting s h.0, read-settings ss h.1) refl

-- what stands behind a first word
mapped : {A B : Type 0} (f : A → B) (o : Option A) (y : B) → option_map f o ≡ Some y → (x : A) × (o ≡ Some x) × (f x ≡ y)
mapped f None y h = absurd (cc)
mapped f (Some x) y h = (x, refl, cc)

is-add : (words : List (List ℕ)) (e : NamedEdit) → read_add words ≡ Some e → IsEdit (codes "add" ∷ words) e
unfolding read_add
is-add [] e h = absurd (cc)
is-add (person ∷ []) e h = absurd (cc)
is-add (person ∷ key ∷ words) e h =
    let (ss, read, same) = mapped (NamedAdd person key) (read_settings words) e h in
    let (spelled, names) = are-settings words ss read in
    subst (IsEdit (codes "add" ∷ person ∷ key ∷ words)) same
    (record { spelled = ap (λ ws. codes "add" ∷ person ∷ key ∷ ws) spelled; names = names; enough = tt })

is-drop : (words : List (List ℕ)) (e : NamedEdit) → read_drop words ≡ Some e → IsEdit (codes "drop" ∷ words) e
unfolding read_drop
is-drop [] e h = absurd (cc)
is-drop (person ∷ []) e h =
    let same : NamedDrop person ≡ e = cc in
    subst (IsEdit (codes "drop" ∷ person ∷ [])) same (record { spelled = refl; names = tt; enough = tt })
is-drop (person ∷ word ∷ words) e h = absurd (cc)

some-left : (word : List ℕ) (words : List (List ℕ)) (ss : List NamedSetting) → word ∷ words ≡ map setting_word ss → HasSome ss
some-left word words [] h = absurd (cc)
some-left word words (s ∷ ss) h = tt

is-amend : (words : List (List ℕ)) (e : NamedEdit) → read_amend words ≡ Some e → IsEdit (codes "amend" ∷ words) e
unfolding read_amend
is-amend [] e h = absurd (cc)
is-amend (person ∷ []) e h = absurd (cc)
is-amend (person ∷ word ∷ words) e h =
    let (ss, read, same) = mapped (NamedAmend person) (read_settings (word ∷ words)) e h in
    let (spelled, names) = are-settings (word ∷ words) ss read in
    subst (IsEdit (codes "amend" ∷ person ∷ word ∷ words)) same
    (record { spelled = ap (λ ws. codes "amend" ∷ person ∷ ws) spelled; names = names; enough = some-left word words ss spelled })

is-pvalue : (words : List (List ℕ)) (e : NamedEdit) → read_pvalue words ≡ Some e → IsEdit (codes "pvalue" ∷ words) e
unfolding read_pvalue
is-pvalue [] e h = absurd (cc)
is-pvalue (row ∷ []) e h = absurd (cc)
is-pvalue (row ∷ key ∷ []) e h = absurd (cc)
is-pvalue (row ∷ key ∷ pvalue ∷ []) e h =
    let same : NamedPvalue row key pvalue ≡ e = cc in
    subst (IsEdit (codes "pvalue" ∷ row ∷ key ∷ pvalue ∷ [])) same (record { spelled = refl; names = tt; enough = tt })
is-pvalue (row ∷ key ∷ pvalue ∷ word ∷ words) e h = absurd (cc)

is-threshold : (words : List (List ℕ)) (e : NamedEdit) → read_threshold words ≡ Some e → IsEdit (codes "threshold" ∷ words) e
unfolding read_threshold
is-threshold [] e h = absurd (cc)
is-threshold (value ∷ []) e h =
    let same : NamedThreshold value ≡ e = cc in
    subst (IsEdit (codes "threshold" ∷ value ∷ [])) same (record { spelled = refl; names = tt; enough = tt })
is-threshold (value ∷ word ∷ words) e h = absurd (cc)

is-oldest : (words : List (List ℕ)) (e : NamedEdit) → read_oldest words ≡ Some e → IsEdit (codes "oldest" ∷ words) e
unfolding read_oldest
is-oldest [] e h = absurd (cc)
is-oldest (release ∷ []) e h =
    let same : NamedOldest release ≡ e = cc in
    subst (IsEdit (codes "oldest" ∷ release ∷ [])) same (record { spelled = refl; names = tt; enough = tt })
is-oldest (release ∷ word ∷ words) e h = absurd (cc)

-- an edit by its first word, where there is one: each is tried in turn
is-edit-by : (first : List ℕ) (words : List (List ℕ)) (e : NamedEdit) (a d m p t o : Bool) → bytes_eq first (codes "add") ≡ a → bytes_eq first (codes "drop") ≡ d → bytes_eq first (codes "amend") ≡ m
    → bytes_eq first (codes "pvalue") ≡ p → bytes_eq first (codes "threshold") ≡ t → bytes_eq first (codes "oldest") ≡ o → read_words (first ∷ words) ≡ Some e → IsEdit (first ∷ words) e
unfolding read_words
is-edit-by first words e true d m p t o ea ed em ep et eo h = subst (λ w. IsEdit (w ∷ words) e) (sym (same_text first (codes "add") ea)) (is-add words e (rw ea at h))
is-edit-by first words e false true m p t o ea ed em ep et eo h = subst (λ w. IsEdit (w ∷ words) e) (sym (same_text first (codes "drop") ed)) (is-drop words e (rw (ea, ed) at h))
is-edit-by first words e false false true p t o ea ed em ep et eo h = subst (λ w. IsEdit (w ∷ words) e) (sym (same_text first (codes "amend") em)) (is-amend words e (rw (ea, ed, em) at h))
is-edit-by first words e false false false true t o ea ed em ep et eo h = subst (λ w. IsEdit (w ∷ words) e) (sym (same_text first (codes "pvalue") ep)) (is-pvalue words e (rw (ea, ed, em, ep) at h))
is-edit-by first words e false false false false true o ea ed em ep et eo h =
    subst (λ w. IsEdit (w ∷ words) e) (sym (same_text first (codes "threshold") et)) (is-threshold words e (rw (ea, ed, em, ep, et) at h))
is-edit-by first words e false false false false false true ea ed em ep et eo h =
    subst (λ w. IsEdit (w ∷ words) e) (sym (same_text first (codes "oldest") eo)) (is-oldest words e (rw (ea, ed, em, ep, et, eo) at h))
is-edit-by first words e false false false false false false ea ed em ep et eo h = let g = rw (ea, ed, em, ep, et, eo) at h in absurd (cc)

-- what is read is an edit
pub is-edit : (words : List (List ℕ)) (e : NamedEdit) → read_words words ≡ Some e → IsEdit words e
unfolding read_words
is-edit [] e h = absurd (cc)
is-edit (first ∷ words) e h = is-edit-by first words e (bytes_eq first (codes "add")) (bytes_eq first (codes "drop")) (bytes_eq first (codes "amend")) (bytes_eq first (codes "pvalue")) (bytes_eq first (codes "threshold")) (bytes_eq first (codes "oldest")) refl refl refl refl refl refl h

read-amend : (person : List ℕ) (ss : List NamedSetting) → AllByRecursion EndsAtEquals ss → HasSome ss → read_amend (person ∷ map setting_word ss) ≡ Some (NamedAmend person ss)
unfolding read_amend
read-amend person [] names enough = absurd enough
read-amend person (s ∷ ss) names enough = ap (option_map (NamedAmend person)) (read-settings (s ∷ ss) names)

read-of : (e : NamedEdit) → AllByRecursion EndsAtEquals (settings_of e) → HasEnough e → read_words (edit_words e) ≡ Some e
unfolding read_words read_add read_drop read_pvalue read_threshold read_oldest
read-of (NamedAdd person key ss) names enough = ap (option_map (NamedAdd person key)) (read-settings ss names)
read-of (NamedDrop person) names enough = refl
read-of (NamedAmend person ss) names enough = read-amend person ss names enough
read-of (NamedPvalue row key pvalue) names enough = refl
read-of (NamedThreshold value) names enough = refl
read-of (NamedOldest release) names enough = refl

-- and an edit is read
pub read-edit : (words : List (List ℕ)) (e : NamedEdit) → IsEdit words e → read_words words ≡ Some e
read-edit words e h = ap read_words h.spelled ∙ read-of e h.names h.enough

pub one_edit : OneEdit
one_edit words p q hp hq = let same : Some p ≡ Some q = sym (read-edit words p hp) ∙ read-edit words q hq in cc

pub no-edit : (words : List (List ℕ)) → read_words words ≡ None → (e : NamedEdit) → ¬ IsEdit words e
no-edit words h e is = let none : None ≡ Some e = sym h ∙ read-edit words e is in absurd (cc)

-- why nothing was parsed
parses-none : (words : List (List ℕ)) (f : EditTextFault) → StopsBy (read_words words) f → ParsesNone words f
parses-none words faults.Syntax h = no-edit words h
parses-none words faults.BadNumber h = absurd h
parses-none words faults.UnknownName h = absurd h
parses-none words faults.UnknownCode h = absurd h
parses-none words faults.Repeated h = absurd h
parses-none words faults.Missing h = absurd h
parses-none words faults.Memory h = tt

pub parsed : {W : Type 0} (view : W → NamedEdit) (words : List (List ℕ)) (r : Result W EditTextFault) → MatchResult r (λ e. read_words words ≡ Some (view e)) (StopsBy (read_words words))
    → MatchResult r (λ e. IsEdit words (view e)) (ParsesNone words)
parsed view words (Ok e) h = is-edit words (view e) h
parsed view words (Err f) h = parses-none words f h
