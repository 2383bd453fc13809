-- Which edits fit a setup.
use Rattle.std.proofs.Common.{◌≡◌, true, List, ℕ, refl}
use Rattle.std.specs.Prelude.{All, nat_lt}
use Rattle.std.specs.List.{list_all}
use Rattle.std.proofs.lemmas.Bool.{and_from, and_parts, lt-ltb, ltb-true}
use Rattle.std.proofs.lemmas.List.Elements.{All-from_recursion, recursion_from_All}
use Rattle.tb_base.specs.declared.keys.Keys.{Keys}
use Rattle.tb_base.specs.Keys.{key_range}
use Rattle.tb_release.specs.declared.edits.Edit.{Edit}
use Rattle.tb_release.specs.declared.edits.Edit.TheVariants.{Add, Drop, Amend, Pvalue, Threshold, Oldest}
use Rattle.tb_release.specs.Fitting.{edits_fit}
use Rattle.tb_release.proofs.FitTests.{all_back, all_told, fit_is_told}
use Rattle.tb_journal.specs.Fitting.{FitsSetup, IsInRange, is_in_range}

range-told : (keys : Keys) (e : Edit) → is_in_range keys e ≡ true → IsInRange keys e
range-told keys (Add person key codes) h =
    let parts = and_parts (nat_lt 0 person) (nat_lt key (key_range keys)) h in
    (ltb-true 0 person parts.0, ltb-true key (key_range keys) parts.1)
range-told keys (Drop person) h = ltb-true 0 person h
range-told keys (Amend person sets) h = ltb-true 0 person h
range-told keys (Pvalue row key pvalue) h = ltb-true key (key_range keys) h
range-told keys (Threshold value) h = tt
range-told keys (Oldest oldest) h = tt

range-back : (keys : Keys) (e : Edit) → IsInRange keys e → is_in_range keys e ≡ true
range-back keys (Add person key codes) h = and_from (nat_lt 0 person) (nat_lt key (key_range keys)) (lt-ltb 0 person h.0) (lt-ltb key (key_range keys) h.1)
range-back keys (Drop person) h = lt-ltb 0 person h
range-back keys (Amend person sets) h = lt-ltb 0 person h
range-back keys (Pvalue row key pvalue) h = lt-ltb key (key_range keys) h
range-back keys (Threshold value) h = refl
range-back keys (Oldest oldest) h = refl

-- both tests of edits, and what they tell
pub fits-told : (shape : List ℕ) (keys : Keys) (edits : List Edit) → edits_fit shape edits ≡ true → list_all (is_in_range keys) edits ≡ true → All (FitsSetup shape keys) edits
fits-told shape keys edits fit range = λ k d within.
    ((fit_is_told shape edits).0 fit k d within, All-from_recursion (IsInRange keys) edits (all_told (is_in_range keys) (IsInRange keys) (range-told keys) edits range) k d within)

pub fits-shape : (shape : List ℕ) (keys : Keys) (edits : List Edit) → All (FitsSetup shape keys) edits → edits_fit shape edits ≡ true
fits-shape shape keys edits all = (fit_is_told shape edits).1 (λ k d within. (all k d within).0)

pub fits-range : (shape : List ℕ) (keys : Keys) (edits : List Edit) → All (FitsSetup shape keys) edits → list_all (is_in_range keys) edits ≡ true
fits-range shape keys edits all = all_back (is_in_range keys) (IsInRange keys) (range-back keys) edits (recursion_from_All (IsInRange keys) edits (λ k d within. (all k d within).1))
