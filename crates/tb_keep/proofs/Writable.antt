-- An edit that a line reads as can be written.
use Rattle.std.proofs.Common.{◌≡◌, sym, refl, subst, ℕ, ◌==◌, ◌<◌, ◌≤◌, Bool, true, false, eqb, List, [], ◌∷◌, length, Option, Some, None, arith}
use Rattle.std.specs.Prelude.{◌||◌, if◌then◌else◌, nat_eq, slice_index}
use Rattle.std.specs.List.{AllByRecursion, IsDistinct, list_any}
use Rattle.std.specs.Option.{is_some}
use Rattle.std.proofs.lemmas.Bool.Decides.{nat_tests}
use Rattle.std.proofs.lemmas.List.{length-map}
use Rattle.std.proofs.lemmas.Map.Steps.{length-le_from_distinct_below}
use Rattle.tb_base.proofs.Options.{none_both}
use Rattle.tb_model.specs.Schemas.{SchemaValue, VariableValue, shape_of}
use Rattle.tb_release.specs.Laws.{EditFits}
use Rattle.tb_release.specs.declared.edits.Edit.{Edit}
use Rattle.tb_revise.specs.declared.fault.EditTextFault.{EditTextFault}
use Rattle.tb_revise.specs.declared.fault.EditTextFault.TheVariants as faults
use Rattle.tb_revise.specs.Faults.{Reads, has_bad_number, has_unknown_code, has_unknown_name, refusal, sets_twice, settings_refusal}
use Rattle.tb_revise.specs.Grammar.{HasEnough, HasSome, NamedSetting, NamedEdit, NamedAdd, NamedDrop, NamedAmend, NamedPvalue, NamedThreshold, NamedOldest}
use Rattle.tb_revise.specs.Meanings.{category_set, edit_meant, sets_meant}
use Rattle.tb_revise.proofs.Fitting.{read_edits_fit}
use Rattle.tb_spelling.specs.declared.limits.TheConstants.{MOST_PARTS}
use Rattle.tb_spelling.specs.Payloads.{CanBeWritten, variables_set}

both-false : (a b : Bool) → a || b ≡ false → (a ≡ false) × (b ≡ false)
both-false false false e = (refl, refl)
both-false false true e = absurd cc
both-false true b e = absurd cc

-- ---- settings of which none is repeated

not-first : (v : ℕ) (s : ℕ × ℕ) (sets : List (ℕ × ℕ)) (b : Bool) → (s.0 == v) ≡ b → is_some (category_set (s ∷ sets) v) ≡ false → (nat_eq v s.0 ≡ false) × (is_some (category_set sets v) ≡ false)
not-first v s sets true e h = let g = rw e at h in absurd (cc)
not-first v s sets false e h = (grind (arith, nat_tests), rw e at h)

-- a variable that isn't set differs from those that are
apart : (v : ℕ) (sets : List (ℕ × ℕ)) → is_some (category_set sets v) ≡ false → AllByRecursion (λ u. nat_eq v u ≡ false) (variables_set sets)
apart v [] h = tt
apart v (s ∷ sets) h = let both = not-first v s sets (s.0 == v) refl h in (both.0, apart v sets both.1)

once : (sets : List (ℕ × ℕ)) → sets_twice sets ≡ false → IsDistinct nat_eq (variables_set sets)
unfolding IsDistinct
once [] h = tt
once (s ∷ sets) h = let both = both-false (is_some (category_set sets s.0)) (sets_twice sets) h in (apart s.0 sets both.0, once sets both.1)

-- so they are no more than there are variables
is-below : (n q x : ℕ) (xs : List ℕ) (b : Bool) → eqb q x ≡ b → x < n → (list_any (eqb q) xs ≡ true → q < n) → list_any (eqb q) (x ∷ xs) ≡ true → q < n
is-below n q x xs true e h rest any = let same : q ≡ x = grind (arith, nat_tests) in omega (arith, same, h)
is-below n q x xs false e h rest any = rest (rw e at any)

below : (shape : List ℕ) (sets : List (ℕ × ℕ)) → AllByRecursion (λ s. (s.0 < length shape) × (s.1 < slice_index shape s.0)) sets → (q : ℕ) → list_any (eqb q) (variables_set sets) ≡ true → q < length shape
below shape [] h q any = absurd (cc)
below shape (s ∷ sets) h q any = is-below (length shape) q s.0 (variables_set sets) (eqb q s.0) refl h.0.0 (below shape sets h.1 q) any

few-set : (shape : List ℕ) (sets : List (ℕ × ℕ)) → AllByRecursion (λ s. (s.0 < length shape) × (s.1 < slice_index shape s.0)) sets → IsDistinct nat_eq (variables_set sets) → length sets ≤ length shape
few-set shape sets h distinct =
    let few = length-le_from_distinct_below (variables_set sets) (length shape) distinct (below shape sets h) in
    omega (arith, few, length-map sets (λ (s : ℕ × ℕ). s.0))

-- ---- what no fault means

none-of : (b : Bool) (f : EditTextFault) (o : Option EditTextFault) → (if b then Some f else o) ≡ None → (b ≡ false) × (o ≡ None)
none-of true f o h = absurd (cc)
none-of false f o h = (refl, h)

not-twice : (schema : SchemaValue) (ss : List NamedSetting) → settings_refusal schema ss ≡ None → sets_twice (sets_meant schema ss) ≡ false
not-twice schema ss h =
    let (names, rest) = none-of (has_unknown_name schema ss) faults.UnknownName _ h in
    let (codes, more) = none-of (has_unknown_code schema ss) faults.UnknownCode _ rest in
    (none-of (sets_twice (sets_meant schema ss)) faults.Repeated None more).0

some-set : (schema : SchemaValue) (ss : List NamedSetting) → HasSome ss → 0 < length (sets_meant schema ss)
some-set schema [] h = absurd h
some-set schema (s ∷ ss) h = omega arith

meant-writable : (schema : SchemaValue) (named : NamedEdit) → length schema.variables ≤ MOST_PARTS → refusal schema named ≡ None → HasEnough named → EditFits (shape_of schema) (edit_meant schema named) → CanBeWritten (edit_meant schema named)
meant-writable schema (NamedAdd person key ss) few h enough fits =
    omega (arith, few, fits.long, length-map schema.variables (λ (v : VariableValue). length v.categories))
meant-writable schema (NamedDrop person) few h enough fits = tt
meant-writable schema (NamedAmend person ss) few h enough fits =
    let (numbers, rest) = none-of (has_bad_number schema.keys (NamedAmend person ss)) faults.BadNumber _ h in
    let (known, all) = none_both (settings_refusal schema ss) _ rest in
    let distinct = once (sets_meant schema ss) (not-twice schema ss known) in
    let as_many = few-set (shape_of schema) (sets_meant schema ss) fits distinct in (
      omega (arith, few, as_many, length-map schema.variables (λ (v : VariableValue). length v.categories)),
      record { some = some-set schema ss enough; once = distinct },
    )
meant-writable schema (NamedPvalue row key pvalue) few h enough fits = tt
meant-writable schema (NamedThreshold value) few h enough fits = tt
meant-writable schema (NamedOldest release) few h enough fits = tt

pub can_be_written : (schema : SchemaValue) (line : List ℕ) (edit : Edit) → length schema.variables ≤ MOST_PARTS → Reads schema line edit → CanBeWritten edit
can_be_written schema line edit few h =
    subst CanBeWritten h.means (meant-writable schema h.named few h.no_fault h.spelled.grammar.enough (subst (EditFits (shape_of schema)) (sym h.means) (read_edits_fit schema line edit h)))
