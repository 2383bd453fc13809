-- The stamps of the pages of a chain's releases.
use Rattle.std.proofs.Common.{◌≡◌, ℕ, suc, ◌+◌, ◌<◌, ◌≤◌, List, [], ◌∷◌, ◌++◌, length, take, get_or, refl, sym, ap, ◌∙◌, subst, inl, inr, arith}
use Rattle.std.specs.Prelude.{fold}
use Rattle.std.proofs.lemmas.Bool.{cases_order}
use Rattle.std.proofs.lemmas.List.{length-take-le, take_all, take_more}
use Rattle.tb_model.specs.Pages.{PageValue}
use Rattle.tb_model.specs.Releases.{ReleaseValue, first_release}
use Rattle.tb_pages.specs.Pages.{no_page}
use Rattle.tb_pages.specs.Stamps.{KeepsPages}
use Rattle.tb_pages.proofs.StampLemmas.{keeps_changed, keeps_none, keeps_then}
use Rattle.tb_pages.proofs.StampLemmas.{stamps_tell as pages_tell}
use Rattle.tb_release.specs.declared.edits.Change.{Change}
use Rattle.tb_release.specs.Batches.{BatchValue}
use Rattle.tb_release.specs.Chains.{after_batch, changed, release_after}
use Rattle.tb_release.specs.Laws.{BatchesKeepPages, StampsTell}

-- ---- a batch
changes_keep : (release : ReleaseValue) (changes : List Change) → KeepsPages (release.number + 1) release.pages (fold changed release changes).pages
changes_keep release [] = keeps_none (release.number + 1) release.pages
changes_keep release (c ∷ cs) =
    keeps_then (release.number + 1) release.pages (changed release c).pages (fold changed (changed release c) cs).pages
    (keeps_changed (release.number + 1) release.pages c.person c.before c.after) (changes_keep (changed release c) cs)

pub batches_keep : BatchesKeepPages
batches_keep release batch = changes_keep release batch.changes

-- ---- a chain
after_more : (release : ReleaseValue) (chain : List BatchValue) (batch : BatchValue) → release_after release (chain ++ batch ∷ []) ≡ after_batch (release_after release chain) batch
after_more release [] batch = refl
after_more release (one ∷ chain) batch = after_more (after_batch release one) chain batch

number_after : (release : ReleaseValue) (chain : List BatchValue) → (release_after release chain).number ≡ release.number + length chain
number_after release [] = omega arith
number_after release (one ∷ chain) = let rest = number_after (after_batch release one) chain in omega arith

abbrev pages_at : ReleaseValue → List BatchValue → ℕ → List PageValue
pages_at base chain n = (release_after base (take n chain)).pages

further : (base : ReleaseValue) (chain : List BatchValue) (n : ℕ) → base.number ≡ 0 → n < length chain → KeepsPages (suc n) (pages_at base chain n) (pages_at base chain (suc n))
further base chain n start within =
    let none : BatchValue = record { changes = []; rule_edits = [] } in
    let batch = get_or chain n none in
    let more : take (n + 1) chain ≡ take n chain ++ batch ∷ [] = take_more chain n none within in
    let long : length (take n chain) ≡ n = length-take-le n chain (omega arith) in
    let stamp : (release_after base (take n chain)).number + 1 ≡ suc n = omega (arith, number_after base (take n chain), long, start) in
    let on : suc n ≡ n + 1 = omega arith in
    let pages : pages_at base chain (suc n) ≡ (after_batch (release_after base (take n chain)) batch).pages =
    ap (λ (m : ℕ). pages_at base chain m) on ∙ ap (λ (cs : List BatchValue). (release_after base cs).pages) more
    ∙ ap (λ (r : ReleaseValue). r.pages) (after_more base (take n chain) batch) in
    subst (λ (ps : List PageValue). KeepsPages (suc n) (pages_at base chain n) ps) (sym pages)
    (subst (λ (s : ℕ). KeepsPages s (pages_at base chain n) (after_batch (release_after base (take n chain)) batch).pages) stamp (batches_keep (release_after base (take n chain)) batch))

ended : (base : ReleaseValue) (chain : List BatchValue) (n : ℕ) → length chain ≤ n → KeepsPages (suc n) (pages_at base chain n) (pages_at base chain (suc n))
ended base chain n end =
    let same : pages_at base chain n ≡ pages_at base chain (suc n) =
    ap (λ (cs : List BatchValue). (release_after base cs).pages) (take_all n chain end ∙ sym (take_all (suc n) chain (omega arith))) in
    subst (λ (ps : List PageValue). KeepsPages (suc n) (pages_at base chain n) ps) same (keeps_none (suc n) (pages_at base chain n))

keeps : (base : ReleaseValue) (chain : List BatchValue) → base.number ≡ 0 → (n : ℕ) → KeepsPages (suc n) (pages_at base chain n) (pages_at base chain (suc n))
keeps base chain start n =
    elim (cases_order n (length chain)) [
      | inl same ↦ ended base chain n (omega arith)
      | inr apart ↦ elim apart [
        | inl below ↦ further base chain n start below
        | inr above ↦ ended base chain n (omega arith)
      ]
    ]

pub stamps_tell : StampsTell
stamps_tell most threshold people chain i within =
    let base = first_release most threshold people in
    let whole : take (length chain) chain ≡ chain = take_all (length chain) chain (omega arith) in
    let now : pages_at base chain (length chain) ≡ (release_after base chain).pages = ap (λ (cs : List BatchValue). (release_after base cs).pages) whole in
    subst (λ (ps : List PageValue). let stamp = (get_or ps i no_page).stamp in (stamp ≤ length chain) × (get_or ps i no_page ≡ get_or (pages_at base chain stamp) i no_page)) now
    (pages_tell people (pages_at base chain) refl (keeps base chain refl) (length chain) i (subst (λ (ps : List PageValue). i < length ps) (sym now) within))
