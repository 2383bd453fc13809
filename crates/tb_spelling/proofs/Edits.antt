-- Edits are read as they are spelled.
use Rattle.std.proofs.Common.{◌≡◌, ◌≢◌, ◌⊎◌, ℕ, ℤ, suc, ◌<◌, ◌≤◌, Bool, true, false, cond, eqb, List, [], ◌∷◌, ◌++◌, length, Option, Some, None, refl, sym, ap, subst, ◌∙◌, arith, inl, inr}
use Rattle.std.specs.Prelude.{FitsSigned, nat_eq, nat_le, nat_lt, not, ◌&&◌, ◌||◌, Result, Ok, Err}
use Rattle.std.specs.List.{list_any, AllByRecursion, IsDistinct}
use Rattle.std.specs.Int.{w16, w32, to_be_bytes}
use Rattle.std.proofs.lemmas.Bool.{cases_eq, ne_eqb, ltb-true, lt-ltb, leb-true, le-leb}
use Rattle.std.proofs.lemmas.List.Elements.{All-from_recursion, recursion_from_All}
use Rattle.tb_release.specs.declared.edits.Edit.{Edit}
use Rattle.tb_release.specs.declared.edits.Edit.TheVariants.{Add, Drop, Amend, Pvalue, Threshold, Oldest}
use Rattle.tb_release.specs.declared.limits.TheConstants.{MOST_EDITS}
use Rattle.tb_spelling.specs.declared.fault.PayloadFault.{PayloadFault}
use Rattle.tb_spelling.specs.declared.fault.PayloadFault.TheVariants.{Bad, Memory}
use Rattle.tb_spelling.specs.Spelling.{counted, setting, signed, edit_spelled, spelled}
use Rattle.tb_spelling.specs.Payloads.{variables_set, SetsEachOnce, InTwoBytes, InFourBytes, IsSetting, IsInFormat, IsRead}
use Rattle.tb_spelling.specs.Fields.{Reader, number_at, pair_at, signed_at, counted_at, tested_at, Gives}
use Rattle.tb_spelling.specs.Reading.{are_distinct, codes_at, sets_at, add_at, drop_at, amend_at, oldest_at, pvalue_at, threshold_at, edit_at, is_count, edits_in}
use Rattle.tb_spelling.specs.Laws.{AreBytes, ReadIsSpelled, SpelledIsRead, OneSpelling}
use Rattle.tb_spelling.proofs.Formats.{Takes, IsFormat, some_is, made_takes, made_again, u16_format, u32_format, signed_format, pair_format, counted_format, tested_format, whole_takes, whole_again}

-- ---- settings

both-true : (a b : Bool) → a && b ≡ true → (a ≡ true) × (b ≡ true)
both-true true true e = (refl, refl)
both-true true false e = absurd cc
both-true false b e = absurd cc

not-true : (a : Bool) → not a ≡ true → a ≡ false
not-true true e = absurd cc
not-true false e = refl

both-false : (a b : Bool) → a || b ≡ false → (a ≡ false) × (b ≡ false)
both-false false false e = (refl, refl)
both-false false true e = absurd cc
both-false true b e = absurd cc

none-equal : (n : ℕ) (xs : List ℕ) → list_any (nat_eq n) xs ≡ false → AllByRecursion (λ m. nat_eq n m ≡ false) xs
none-equal n [] e = tt
none-equal n (x ∷ xs) e = let both = both-false (nat_eq n x) (list_any (nat_eq n) xs) e in (both.0, none-equal n xs both.1)

any-equal : (n : ℕ) (xs : List ℕ) → AllByRecursion (λ m. nat_eq n m ≡ false) xs → list_any (nat_eq n) xs ≡ false
any-equal n [] h = refl
any-equal n (x ∷ xs) h = rw h.0 (any-equal n xs h.1)

distinct-told : (xs : List ℕ) → are_distinct xs ≡ true → IsDistinct nat_eq xs
unfolding IsDistinct
distinct-told [] e = tt
distinct-told (x ∷ xs) e =
    let both = both-true (not (list_any (nat_eq x) xs)) (are_distinct xs) e in
    (none-equal x xs (not-true _ both.0), distinct-told xs both.1)

distinct-test : (xs : List ℕ) → IsDistinct nat_eq xs → are_distinct xs ≡ true
unfolding IsDistinct
distinct-test [] h = refl
distinct-test (x ∷ xs) h =
    rw (any-equal x xs h.0) (distinct-test xs h.1)

-- ---- the formats of the parts

codes_format : IsFormat codes_at (counted w16 (to_be_bytes w16)) (λ xs. InTwoBytes (length xs) × AllByRecursion InTwoBytes xs)
codes_format = counted_format (number_at w16) (to_be_bytes w16) InTwoBytes u16_format w16 (number_at w16) InTwoBytes u16_format

abbrev some_settings : ℕ → Bool
some_settings n = nat_lt 0 n

abbrev test_settings : List (ℕ × ℕ) → Bool
test_settings sets = are_distinct (variables_set sets)

abbrev GoodSettings : List (ℕ × ℕ) → Type 0
GoodSettings xs = ((InTwoBytes (length xs) × (some_settings (length xs) ≡ true)) × AllByRecursion IsSetting xs) × (test_settings xs ≡ true)

setting_format : IsFormat (pair_at (number_at w16) (number_at w16)) setting IsSetting
setting_format = pair_format _ _ _ u16_format _ _ _ u16_format

sets_format : IsFormat sets_at (counted w16 setting) GoodSettings
sets_format =
    tested_format (counted_at (tested_at some_settings (number_at w16)) (pair_at (number_at w16) (number_at w16))) (counted w16 setting) _
    (counted_format (pair_at (number_at w16) (number_at w16)) setting IsSetting setting_format w16 (tested_at some_settings (number_at w16)) (λ n. InTwoBytes n × (some_settings n ≡ true))
    (tested_format (number_at w16) (to_be_bytes w16) InTwoBytes u16_format some_settings)) test_settings

abbrev add_parts : Reader (ℕ × (ℕ × List ℕ))
add_parts = pair_at (number_at w32) (pair_at (number_at w16) codes_at)

abbrev add_text : ℕ × (ℕ × List ℕ) → List ℕ
add_text x = to_be_bytes w32 x.0 ++ (to_be_bytes w16 x.1.0 ++ counted w16 (to_be_bytes w16) x.1.1)

abbrev GoodAdd : ℕ × (ℕ × List ℕ) → Type 0
GoodAdd x = InFourBytes x.0 × (InTwoBytes x.1.0 × (InTwoBytes (length x.1.1) × AllByRecursion InTwoBytes x.1.1))

add_format : IsFormat add_parts add_text GoodAdd
add_format = pair_format _ _ _ u32_format _ _ _ (pair_format _ _ _ u16_format _ _ _ codes_format)

abbrev amend_parts : Reader (ℕ × List (ℕ × ℕ))
amend_parts = pair_at (number_at w32) sets_at

abbrev amend_text : ℕ × List (ℕ × ℕ) → List ℕ
amend_text x = to_be_bytes w32 x.0 ++ counted w16 setting x.1

abbrev GoodAmend : ℕ × List (ℕ × ℕ) → Type 0
GoodAmend x = InFourBytes x.0 × GoodSettings x.1

amend_format : IsFormat amend_parts amend_text GoodAmend
amend_format = pair_format _ _ _ u32_format _ _ _ sets_format

abbrev pvalue_parts : Reader (ℕ × (ℕ × ℤ))
pvalue_parts = pair_at (number_at w16) (pair_at (number_at w16) signed_at)

abbrev pvalue_text : ℕ × (ℕ × ℤ) → List ℕ
pvalue_text x = to_be_bytes w16 x.0 ++ (to_be_bytes w16 x.1.0 ++ signed x.1.1)

abbrev GoodPvalue : ℕ × (ℕ × ℤ) → Type 0
GoodPvalue x = InTwoBytes x.0 × (InTwoBytes x.1.0 × FitsSigned w16 x.1.1)

pvalue_format : IsFormat pvalue_parts pvalue_text GoodPvalue
pvalue_format = pair_format _ _ _ u16_format _ _ _ (pair_format _ _ _ u16_format _ _ _ signed_format)

-- ---- an edit behind its kind's byte

AreBytes-rest : (b : ℕ) (bytes : List ℕ) → AreBytes (b ∷ bytes) → AreBytes bytes
AreBytes-rest b bytes h i = h (suc i)

abbrev Read : List ℕ → Edit → List ℕ → Type 0
Read bytes e rest = Takes bytes (edit_spelled e) rest × IsInFormat e

kind-then : (kind : ℕ) (more text rest : List ℕ) → Takes more text rest → Takes (kind ∷ more) (kind ∷ text) rest
kind-then kind more text rest takes = record { parts = ap (λ (l : List ℕ). kind ∷ l) takes.parts; rest_fits = takes.rest_fits }

sets_told : (sets : List (ℕ × ℕ)) → GoodSettings sets → SetsEachOnce sets
sets_told sets good = record { some = ltb-true 0 (length sets) good.0.0.1; once = distinct-told (variables_set sets) good.1 }

sets_test : (sets : List (ℕ × ℕ)) → InTwoBytes (length sets) → AllByRecursion IsSetting sets → SetsEachOnce sets → GoodSettings sets
sets_test sets few fit once = (((few, lt-ltb 0 (length sets) once.some), fit), distinct-test (variables_set sets) once.once)

add_takes : (more : List ℕ) (e : Edit) (rest : List ℕ) → AreBytes more → add_at more ≡ Some (e, rest) → Read (1 ∷ more) e rest
add_takes more e rest fits h =
    let m = made_takes add_parts add_text GoodAdd add_format (λ x. Add x.0 x.1.0 x.1.1) more e rest fits h in
    subst (λ (y : Edit). Read (1 ∷ more) y rest) m.1
    (kind-then 1 more (add_text m.0) rest m.2, (m.3.0, m.3.1.0, m.3.1.1.0, All-from_recursion InTwoBytes m.0.1.1 m.3.1.1.1))

drop_takes : (more : List ℕ) (e : Edit) (rest : List ℕ) → AreBytes more → drop_at more ≡ Some (e, rest) → Read (2 ∷ more) e rest
drop_takes more e rest fits h =
    let m = made_takes (number_at w32) (to_be_bytes w32) InFourBytes u32_format (λ person. Drop person) more e rest fits h in
    subst (λ (y : Edit). Read (2 ∷ more) y rest) m.1 (kind-then 2 more (to_be_bytes w32 m.0) rest m.2, m.3)

amend_takes : (more : List ℕ) (e : Edit) (rest : List ℕ) → AreBytes more → amend_at more ≡ Some (e, rest) → Read (3 ∷ more) e rest
amend_takes more e rest fits h =
    let m = made_takes amend_parts amend_text GoodAmend amend_format (λ x. Amend x.0 x.1) more e rest fits h in
    subst (λ (y : Edit). Read (3 ∷ more) y rest) m.1
    (kind-then 3 more (amend_text m.0) rest m.2, (m.3.0, m.3.1.0.0.0, All-from_recursion IsSetting m.0.1 m.3.1.0.1, sets_told m.0.1 m.3.1))

pvalue_takes : (more : List ℕ) (e : Edit) (rest : List ℕ) → AreBytes more → pvalue_at more ≡ Some (e, rest) → Read (4 ∷ more) e rest
pvalue_takes more e rest fits h =
    let m = made_takes pvalue_parts pvalue_text GoodPvalue pvalue_format (λ x. Pvalue x.0 x.1.0 x.1.1) more e rest fits h in
    subst (λ (y : Edit). Read (4 ∷ more) y rest) m.1
    (kind-then 4 more (pvalue_text m.0) rest m.2, (m.3.0, m.3.1.0, m.3.1.1))

threshold_takes : (more : List ℕ) (e : Edit) (rest : List ℕ) → AreBytes more → threshold_at more ≡ Some (e, rest) → Read (5 ∷ more) e rest
threshold_takes more e rest fits h =
    let m = made_takes (number_at w32) (to_be_bytes w32) InFourBytes u32_format (λ value. Threshold value) more e rest fits h in
    subst (λ (y : Edit). Read (5 ∷ more) y rest) m.1 (kind-then 5 more (to_be_bytes w32 m.0) rest m.2, m.3)

oldest_takes : (more : List ℕ) (e : Edit) (rest : List ℕ) → AreBytes more → oldest_at more ≡ Some (e, rest) → Read (6 ∷ more) e rest
oldest_takes more e rest fits h =
    let m = made_takes (number_at w32) (to_be_bytes w32) InFourBytes u32_format (λ oldest. Oldest oldest) more e rest fits h in
    subst (λ (y : Edit). Read (6 ∷ more) y rest) m.1 (kind-then 6 more (to_be_bytes w32 m.0) rest m.2, m.3)

abbrev by_kind : Option (Edit × List ℕ) → Option (Edit × List ℕ) → Option (Edit × List ℕ) → Option (Edit × List ℕ) → Option (Edit × List ℕ) → Option (Edit × List ℕ) → Bool → Bool → Bool → Bool → Bool → Bool → Option (Edit × List ℕ)
by_kind add drop amend pvalue threshold oldest a b c d e f =
    cond a add (cond b drop (cond c amend (cond d pvalue (cond e threshold (cond f oldest None)))))

none_read : {A : Type 0} {x : A} → None ≡ Some x → ⊥
none_read e = cc

edit_takes : (bytes : List ℕ) (e : Edit) (rest : List ℕ) → AreBytes bytes → edit_at bytes ≡ Some (e, rest) → Read bytes e rest
edit_takes [] e rest fits h = absurd cc
edit_takes (kind ∷ more) e rest fits h = by_first (cases_eq kind 1)
  where
    fine : AreBytes more
    fine = AreBytes-rest kind more fits

    at : (n : ℕ) → kind ≡ n → (edit_at (n ∷ more) ≡ Some (e, rest) → Read (n ∷ more) e rest) → Read (kind ∷ more) e rest
    at n is read = subst (λ (k : ℕ). Read (k ∷ more) e rest) (sym is) (read (subst (λ (k : ℕ). edit_at (k ∷ more) ≡ Some (e, rest)) is h))

    no_kind : kind ≢ 1 → kind ≢ 2 → kind ≢ 3 → kind ≢ 4 → kind ≢ 5 → kind ≢ 6 → edit_at (kind ∷ more) ≡ None
    no_kind one two three four five six =
        ap (λ (b : Bool). by_kind (add_at more) (drop_at more) (amend_at more) (pvalue_at more) (threshold_at more) (oldest_at more) b (eqb kind 2) (eqb kind 3) (eqb kind 4) (eqb kind 5) (eqb kind 6)) (ne_eqb kind 1 one)
        ∙ ap (λ (b : Bool). by_kind (add_at more) (drop_at more) (amend_at more) (pvalue_at more) (threshold_at more) (oldest_at more) false b (eqb kind 3) (eqb kind 4) (eqb kind 5) (eqb kind 6)) (ne_eqb kind 2 two)
        ∙ ap (λ (b : Bool). by_kind (add_at more) (drop_at more) (amend_at more) (pvalue_at more) (threshold_at more) (oldest_at more) false false b (eqb kind 4) (eqb kind 5) (eqb kind 6)) (ne_eqb kind 3 three)
        ∙ ap (λ (b : Bool). by_kind (add_at more) (drop_at more) (amend_at more) (pvalue_at more) (threshold_at more) (oldest_at more) false false false b (eqb kind 5) (eqb kind 6)) (ne_eqb kind 4 four)
        ∙ ap (λ (b : Bool). by_kind (add_at more) (drop_at more) (amend_at more) (pvalue_at more) (threshold_at more) (oldest_at more) false false false false b (eqb kind 6)) (ne_eqb kind 5 five)
        ∙ ap (λ (b : Bool). by_kind (add_at more) (drop_at more) (amend_at more) (pvalue_at more) (threshold_at more) (oldest_at more) false false false false false b) (ne_eqb kind 6 six)

    by_sixth : kind ≢ 1 → kind ≢ 2 → kind ≢ 3 → kind ≢ 4 → kind ≢ 5 → (kind ≡ 6) ⊎ (kind ≢ 6) → Read (kind ∷ more) e rest
    by_sixth one two three four five (inl is) = at 6 is (oldest_takes more e rest fine)
    by_sixth one two three four five (inr six) = absurd (none_read (sym (no_kind one two three four five six) ∙ h))

    by_fifth : kind ≢ 1 → kind ≢ 2 → kind ≢ 3 → kind ≢ 4 → (kind ≡ 5) ⊎ (kind ≢ 5) → Read (kind ∷ more) e rest
    by_fifth one two three four (inl is) = at 5 is (threshold_takes more e rest fine)
    by_fifth one two three four (inr five) = by_sixth one two three four five (cases_eq kind 6)

    by_fourth : kind ≢ 1 → kind ≢ 2 → kind ≢ 3 → (kind ≡ 4) ⊎ (kind ≢ 4) → Read (kind ∷ more) e rest
    by_fourth one two three (inl is) = at 4 is (pvalue_takes more e rest fine)
    by_fourth one two three (inr four) = by_fifth one two three four (cases_eq kind 5)

    by_third : kind ≢ 1 → kind ≢ 2 → (kind ≡ 3) ⊎ (kind ≢ 3) → Read (kind ∷ more) e rest
    by_third one two (inl is) = at 3 is (amend_takes more e rest fine)
    by_third one two (inr three) = by_fourth one two three (cases_eq kind 4)

    by_second : kind ≢ 1 → (kind ≡ 2) ⊎ (kind ≢ 2) → Read (kind ∷ more) e rest
    by_second one (inl is) = at 2 is (drop_takes more e rest fine)
    by_second one (inr two) = by_third one two (cases_eq kind 3)

    by_first : (kind ≡ 1) ⊎ (kind ≢ 1) → Read (kind ∷ more) e rest
    by_first (inl is) = at 1 is (add_takes more e rest fine)
    by_first (inr one) = by_second one (cases_eq kind 2)

edit_again : (e : Edit) (rest : List ℕ) → IsInFormat e → edit_at (edit_spelled e ++ rest) ≡ Some (e, rest)
edit_again (Add person key codes) rest good =
    made_again add_parts add_text GoodAdd add_format (λ x. Add x.0 x.1.0 x.1.1) (person, (key, codes)) rest (good.0, (good.1, (good.2, recursion_from_All InTwoBytes codes good.3)))
edit_again (Drop person) rest good =
    made_again (number_at w32) (to_be_bytes w32) InFourBytes u32_format (λ p. Drop p) person rest good
edit_again (Amend person sets) rest good =
    made_again amend_parts amend_text GoodAmend amend_format (λ x. Amend x.0 x.1) (person, sets) rest (good.0, sets_test sets good.1 (recursion_from_All IsSetting sets good.2) good.3)
edit_again (Pvalue row key pvalue) rest good =
    made_again pvalue_parts pvalue_text GoodPvalue pvalue_format (λ x. Pvalue x.0 x.1.0 x.1.1) (row, (key, pvalue)) rest (good.0, (good.1, good.2))
edit_again (Threshold value) rest good =
    made_again (number_at w32) (to_be_bytes w32) InFourBytes u32_format (λ v. Threshold v) value rest good
edit_again (Oldest oldest) rest good =
    made_again (number_at w32) (to_be_bytes w32) InFourBytes u32_format (λ v. Oldest v) oldest rest good

edit_format : IsFormat edit_at edit_spelled IsInFormat
edit_format = record { takes = edit_takes; again = edit_again }

-- ---- payloads

abbrev GoodCount : ℕ → Type 0
GoodCount n = InFourBytes n × (is_count n ≡ true)

abbrev GoodEdits : List Edit → Type 0
GoodEdits es = GoodCount (length es) × AllByRecursion IsInFormat es

abbrev edits_at : Reader (List Edit)
edits_at = counted_at (tested_at is_count (number_at w32)) edit_at

edits_format : IsFormat edits_at spelled GoodEdits
edits_format =
    counted_format edit_at edit_spelled IsInFormat edit_format w32 (tested_at is_count (number_at w32)) GoodCount
    (tested_format (number_at w32) (to_be_bytes w32) InFourBytes u32_format is_count)

count_test : (n : ℕ) → 0 < n → n ≤ MOST_EDITS → is_count n ≡ true
count_test n some few = rw (lt-ltb 0 n some, le-leb n MOST_EDITS few) refl

pub read_spelled : ReadIsSpelled
read_spelled bytes es fits e =
    let w = whole_takes edits_at spelled GoodEdits edits_format bytes es fits e in
    let count = both-true (nat_lt 0 (length es)) (nat_le (length es) MOST_EDITS) w.1.0.1 in
    record { some = ltb-true 0 (length es) count.0; few = leb-true (length es) MOST_EDITS count.1; in_format = All-from_recursion IsInFormat es w.1.1; is_spelled = w.0 }

pub spelled_read : SpelledIsRead
spelled_read bytes es payload =
    ap edits_in payload.is_spelled
    ∙ whole_again edits_at spelled GoodEdits edits_format es ((omega (arith, payload.few), count_test (length es) payload.some payload.few), recursion_from_All IsInFormat es payload.in_format)

pub one_only : OneSpelling
one_only bytes some others first second =
    some_is some others (sym (spelled_read bytes some first) ∙ spelled_read bytes others second)

-- what a call returned that reads by the definition
pub is_read : (bytes : List ℕ) (result : Result (List Edit) PayloadFault) → AreBytes bytes → Gives (λ x. x) result (edits_in bytes) → IsRead bytes result
is_read bytes (Ok edits) fits gives = read_spelled bytes edits fits gives
is_read bytes (Err Bad) fits gives = λ edits payload. none_read (sym gives ∙ spelled_read bytes edits payload)
is_read bytes (Err Memory) fits gives = tt
