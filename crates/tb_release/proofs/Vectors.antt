-- Worked batches over the small setup's records.
use Rattle.std.proofs.Common.{◌≡◌, ℕ, List, [], ◌∷◌, refl}
use Rattle.std.specs.Prelude.{Some, None, pos, negsuc}
use Rattle.std.specs.FinMap.{get-insert, get-from_entries}
use Rattle.std.specs.Cmp.{nat_cmp_total}
use Rattle.tb_model.specs.Releases.{ReleaseValue, first_release}
use Rattle.tb_model.proofs.SmallSetup.{records, person}
use Rattle.tb_release.specs.declared.edits.Edit.{Edit}
use Rattle.tb_release.specs.declared.edits.Edit.TheVariants.{Add, Drop, Amend, Pvalue, Threshold, Oldest}
use Rattle.tb_release.specs.declared.fault.EditFaultKind.TheVariants as kind
use Rattle.tb_release.specs.Edits.{edited_all}
use Rattle.tb_release.specs.Batches.{batch_of, batch_refusal, changes_of, next_release}

-- a person comes, is amended and goes
abbrev comes_and_goes : List Edit
comes_and_goes = Add 200 9 (0 ∷ 2 ∷ 0 ∷ []) ∷ Amend 200 ((1, 0) ∷ []) ∷ Drop 200 ∷ []

returning_person_before : (t : ℕ) → batch_refusal (first_release 1000000 t records) comes_and_goes ≡ None
returning_person_before t = simp (get-from_entries {X = ℕ} nat_cmp_total)

returning_person_gone : (t : ℕ) → (next_release (first_release 1000000 t records) comes_and_goes).records ≡ records
returning_person_gone t = refl

returning_person : (t : ℕ) → batch_refusal (next_release (first_release 1000000 t records) comes_and_goes) (Add 200 10 (0 ∷ 2 ∷ 0 ∷ []) ∷ []) ≡ Some (kind.KeyChanged, 1)
returning_person t = simp (get-insert {X = ℕ} nat_cmp_total)

returning_person_changes : (t : ℕ) → changes_of (first_release 1000000 t records) comes_and_goes
    ≡ record { person = 200; before = None; after = Some (person 200 9 (0 ∷ 2 ∷ 0 ∷ [])) }
    ∷ record { person = 200; before = Some (person 200 9 (0 ∷ 2 ∷ 0 ∷ [])); after = Some (person 200 9 (0 ∷ 0 ∷ 0 ∷ [])) }
    ∷ record { person = 200; before = Some (person 200 9 (0 ∷ 0 ∷ 0 ∷ [])); after = None }
    ∷ []
returning_person_changes t = refl

-- the third of three drops is of nobody, and no edits make no batch
refused_batch : (t : ℕ) → batch_refusal (first_release 1000000 t records) (Drop 101 ∷ Drop 102 ∷ Drop 999 ∷ []) ≡ Some (kind.NoSuchPerson, 3)
refused_batch t = refl

no_edits : (t : ℕ) → batch_refusal (first_release 1000000 t records) [] ≡ Some (kind.Nothing, 0)
no_edits t = refl

-- of two settings on one variable the later one stands
later_setting_stands : (t : ℕ) → (edited_all (first_release 1000000 t records) (Amend 101 ((1, 2) ∷ (1, 1) ∷ []) ∷ Drop 102 ∷ Drop 103 ∷ Drop 104 ∷ [])).records ≡ person 101 200 (0 ∷ 1 ∷ 0 ∷ []) ∷ []
later_setting_stands t = refl

-- there may be 10,000 releases after the first, and 1,000,000 edits in all, of records and of rules
abbrev far : ℕ → ℕ → ℕ → ReleaseValue
far t number edits = record (first_release 1000000 t records) { number = number; edits = edits }

last_release : (t : ℕ) → batch_refusal (far t 9999 0) (Drop 101 ∷ []) ≡ None
last_release t = refl

no_further_release : (t : ℕ) → batch_refusal (far t 10000 0) (Drop 101 ∷ []) ≡ Some (kind.TooMany, 0)
no_further_release t = refl

last_changes : (t : ℕ) → batch_refusal (far t 1 999998) (Drop 101 ∷ Drop 102 ∷ []) ≡ None
last_changes t = refl

no_further_change : (t : ℕ) → batch_refusal (far t 1 999999) (Drop 101 ∷ Drop 102 ∷ []) ≡ Some (kind.TooMany, 0)
no_further_change t = refl

last_rule_edits : (t : ℕ) → batch_refusal (far t 1 999998) (Drop 101 ∷ Threshold 3 ∷ []) ≡ None
last_rule_edits t = refl

no_further_rule_edit : (t : ℕ) → batch_refusal (far t 1 999999) (Drop 101 ∷ Threshold 3 ∷ []) ≡ Some (kind.TooMany, 0)
no_further_rule_edit t = refl

no_edits_first : (t : ℕ) → batch_refusal (far t 10000 0) [] ≡ Some (kind.Nothing, 0)
no_edits_first t = refl

person_there : (t : ℕ) → batch_refusal (first_release 1000000 t records) (Amend 102 ((0, 1) ∷ []) ∷ Add 102 100 (0 ∷ 2 ∷ 0 ∷ []) ∷ []) ≡ Some (kind.PersonThere, 2)
person_there t = refl

-- a pvalue is set, a person leaves, the threshold is set, and that pvalue once more
abbrev of_both : List Edit
of_both = Pvalue 3 64 (pos 5) ∷ Drop 101 ∷ Threshold 3 ∷ Pvalue 3 64 (negsuc 2) ∷ []

both_can_follow : (t : ℕ) → batch_refusal (first_release 1000000 t records) of_both ≡ None
both_can_follow t = refl

rules_of_both : (t : ℕ) → (next_release (first_release 1000000 t records) of_both).rules ≡ record { threshold = 3; oldest = 0; pvalues = ((3, 64), negsuc 2) ∷ [] }
rules_of_both t = refl

batch_of_both : (t : ℕ) → batch_of (first_release 1000000 t records) of_both ≡ record {
  changes = record { person = 101; before = Some (person 101 200 (0 ∷ 0 ∷ 0 ∷ [])); after = None } ∷ [];
  rule_edits = Pvalue 3 64 (pos 5) ∷ Threshold 3 ∷ Pvalue 3 64 (negsuc 2) ∷ [];
}
batch_of_both t = refl

changes_of_both : (t : ℕ) → (next_release (first_release 1000000 t records) of_both).changes ≡ 1
changes_of_both t = refl

edits_of_both : (t : ℕ) → (next_release (first_release 1000000 t records) of_both).edits ≡ 4
edits_of_both t = refl

-- pvalues stand by row and then by cell key, whatever order they were set in
pvalues_in_order : (t : ℕ) → (next_release (first_release 1000000 t records) (Pvalue 4 7 (pos 1) ∷ Pvalue 3 64 (pos 5) ∷ Pvalue 3 9 (pos 2) ∷ [])).rules
    ≡ record { threshold = t; oldest = 0; pvalues = ((3, 9), pos 2) ∷ ((3, 64), pos 5) ∷ ((4, 7), pos 1) ∷ [] }
pvalues_in_order t = refl

-- an edit of the rules touches no record and no page
records_stay : (t : ℕ) → (next_release (first_release 1000000 t records) (Threshold 3 ∷ [])).records ≡ records
records_stay t = refl

pages_stay : (t : ℕ) → (next_release (first_release 1000000 t records) (Threshold 3 ∷ [])).pages ≡ (first_release 1000000 t records).pages
pages_stay t = refl

-- edits of the rules count where an edit is refused
refused_after_rules : (t : ℕ) → batch_refusal (first_release 1000000 t records) (Pvalue 3 64 (pos 5) ∷ Threshold 3 ∷ Drop 999 ∷ []) ≡ Some (kind.NoSuchPerson, 3)
refused_after_rules t = refl

-- four records are there, and no fifth may come; after a drop one may, and an add counts beside those
-- before it
abbrev full : ℕ → ReleaseValue
full t = first_release 4 t records

no_further_record : (t : ℕ) → batch_refusal (full t) (Add 105 1 (0 ∷ 2 ∷ 0 ∷ []) ∷ []) ≡ Some (kind.TooMany, 1)
no_further_record t = simp (get-from_entries {X = ℕ} nat_cmp_total)

record_after_drop : (t : ℕ) → batch_refusal (full t) (Drop 104 ∷ Add 105 1 (0 ∷ 2 ∷ 0 ∷ []) ∷ []) ≡ None
record_after_drop t = simp (get-from_entries {X = ℕ} nat_cmp_total)

limit_stays : (t : ℕ) → (next_release (full t) (Drop 104 ∷ Add 105 1 (0 ∷ 2 ∷ 0 ∷ []) ∷ [])).most ≡ 4
limit_stays t = refl

-- releases are taken back up to the next one, and none is shown again
take_back : (t : ℕ) → batch_refusal (first_release 1000000 t records) (Oldest 1 ∷ []) ≡ None
take_back t = refl

taken_back : (t : ℕ) → (next_release (first_release 1000000 t records) (Oldest 1 ∷ [])).rules ≡ record { threshold = t; oldest = 1; pvalues = [] }
taken_back t = refl

no_later_release : (t : ℕ) → batch_refusal (first_release 1000000 t records) (Oldest 2 ∷ []) ≡ Some (kind.BadRelease, 1)
no_later_release t = refl

not_shown_again : (t : ℕ) → batch_refusal (first_release 1000000 t records) (Threshold 3 ∷ Oldest 1 ∷ Oldest 0 ∷ []) ≡ Some (kind.BadRelease, 3)
not_shown_again t = refl
