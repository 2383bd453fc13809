-- A cube on its way back through a batch.
use Rattle.std.proofs.Common.{◌≡◌, ℕ, zero, suc, ◌+◌, ◌-◌, ◌<◌, ◌≤◌, false, List, [], ◌∷◌, length, take, get_or, refl, sym, ap, subst, ◌∙◌, add-one, take_all, arith}
use Rattle.std.specs.Prelude.{All, fold}
use Rattle.tb_base.specs.Rules.{RulesValue}
use Rattle.tb_base.specs.declared.records.Record.{Record}
use Rattle.tb_cube.specs.Cubes.{cube_over, CubeValue, Holds}
use Rattle.tb_delta.specs.Advancing.{with_change, CanAdvance, CanMake}
use Rattle.tb_delta.proofs.Spots.{spot, Spot}
use Rattle.tb_delta.proofs.Making.{makes, of-held, Makes}
use Rattle.tb_model.specs.Releases.{ReleaseValue}
use Rattle.tb_release.specs.declared.edits.Change.{Change}
use Rattle.tb_release.specs.declared.edits.Edit.{Edit}
use Rattle.tb_release.specs.declared.edits.Edit.TheVariants.{Add, Drop, Amend, Pvalue, Threshold, Oldest}
use Rattle.tb_release.specs.Releases.{IsSound}
use Rattle.tb_release.specs.Edits.{edited, edited_rules, is_of_rules}
use Rattle.tb_release.specs.Possible.{ArePossible}
use Rattle.tb_release.specs.Batches.{BatchValue, change_of, changes_of}
use Rattle.tb_release.specs.Chains.{after_batch, changed}
use Rattle.tb_release.specs.Results.{ChangeFits}
use Rattle.tb_release.proofs.Chained.{changes_of-record, with_rules}
use Rattle.tb_release.proofs.Edited.{changed-change_of, sound_after}
use Rattle.tb_past.specs.Retreating.{undone, CanRetreat}

-- the records after the first k changes
abbrev pub part_way : ReleaseValue → List Change → ℕ → List Record
part_way release changes k = (fold changed release (take k changes)).records

none_taken : {X : Type 0} (xs : List X) → take 0 xs ≡ []
none_taken [] = refl
none_taken (x ∷ xs) = refl

none_made : (release : ReleaseValue) (changes : List Change) → part_way release changes 0 ≡ release.records
none_made release changes = ap (λ cs. (fold changed release cs).records) (none_taken changes)

-- ---- where each change of a batch stands
abbrev pub HaveSpots : ReleaseValue → List Change → Type 0
HaveSpots release changes =
    (k : ℕ) → k < length changes → (d : Change) → Spot (part_way release changes k) (part_way release changes (suc k)) (get_or changes k d)

spots_cons : (release next : ReleaseValue) (change : Change) (changes : List Change) → changed release change ≡ next → Spot release.records next.records change → HaveSpots next changes
    → HaveSpots release (change ∷ changes)
spots_cons release next change changes leads here more zero below d =
    subst (λ rs. Spot release.records rs change) (ap (λ (r : ReleaseValue). r.records) (sym leads) ∙ sym (none_made (changed release change) changes)) here
spots_cons release next change changes leads here more (suc k) below d =
    subst (λ (r : ReleaseValue). Spot (part_way r changes k) (part_way r changes (suc k)) (get_or changes k d)) (sym leads) (more k (omega arith) d)

-- an edit of a record has its own
spots_record : (release : ReleaseValue) (edit : Edit) (edits : List Edit) → is_of_rules edit ≡ false → IsSound release → ArePossible release (edit ∷ edits)
    → HaveSpots (edited release edit) (changes_of (edited release edit) edits) → HaveSpots release (changes_of release (edit ∷ edits))
spots_record release edit edits of sound possible more =
    subst (HaveSpots release) (sym (changes_of-record release edit edits of))
    (spots_cons release (edited release edit) (change_of release edit) (changes_of (edited release edit) edits) (changed-change_of release edit of sound.distinct possible.0) (spot release edit of sound possible.0) more)

-- one of the rules makes no difference to the records
spots_rule : (release : ReleaseValue) (rules : RulesValue) (changes : List Change) → HaveSpots (record release { rules = rules }) changes → HaveSpots release changes
spots_rule release rules changes more k below d =
    let same : (n : ℕ) → part_way (record release { rules = rules }) changes n ≡ part_way release changes n =
    λ n. ap (λ (r : ReleaseValue). r.records) (with_rules release rules (take n changes)) in
    subst (λ rs. Spot rs (part_way release changes (suc k)) (get_or changes k d)) (same k)
    (subst (λ rs. Spot (part_way (record release { rules = rules }) changes k) rs (get_or changes k d)) (same (suc k)) (more k below d))

have_spots : (release : ReleaseValue) (edits : List Edit) → IsSound release → ArePossible release edits → HaveSpots release (changes_of release edits)
have_spots release [] sound possible = none_stands
  where
    none_stands : HaveSpots release []
    none_stands k below d = absurd (omega arith)
have_spots release (Add person key codes ∷ edits) sound possible =
    let edit : Edit = Add person key codes in
    spots_record release edit edits refl sound possible (have_spots (edited release edit) edits (sound_after release edit possible.0 sound) possible.1)
have_spots release (Drop person ∷ edits) sound possible =
    let edit : Edit = Drop person in
    spots_record release edit edits refl sound possible (have_spots (edited release edit) edits (sound_after release edit possible.0 sound) possible.1)
have_spots release (Amend person sets ∷ edits) sound possible =
    let edit : Edit = Amend person sets in
    spots_record release edit edits refl sound possible (have_spots (edited release edit) edits (sound_after release edit possible.0 sound) possible.1)
have_spots release (Pvalue row key pvalue ∷ edits) sound possible =
    let edit : Edit = Pvalue row key pvalue in
    spots_rule release (edited_rules release.rules edit) (changes_of (edited release edit) edits) (have_spots (edited release edit) edits (sound_after release edit possible.0 sound) possible.1)
have_spots release (Threshold value ∷ edits) sound possible =
    let edit : Edit = Threshold value in
    spots_rule release (edited_rules release.rules edit) (changes_of (edited release edit) edits) (have_spots (edited release edit) edits (sound_after release edit possible.0 sound) possible.1)
have_spots release (Oldest oldest ∷ edits) sound possible =
    let edit : Edit = Oldest oldest in
    spots_rule release (edited_rules release.rules edit) (changes_of (edited release edit) edits) (have_spots (edited release edit) edits (sound_after release edit possible.0 sound) possible.1)

-- a change stands in its place the other way round too
pub back : (old new : List Record) (change : Change) → Spot old new change → Spot new old (undone change)
back old new change s = record { first = s.first; rest = s.rest; before = s.after; after = s.before; few = s.few }

-- ---- the way back
-- a cube that has only the first k of a batch's changes
abbrev pub IsBackAt : CubeValue → ReleaseValue → List Change → ℕ → CubeValue → Type 0
IsBackAt start release changes k cube = cube ≡ cube_over start.shape start.vars (part_way release changes k)

-- at first it has all
pub begins : (start : CubeValue) (batch : BatchValue) (release : ReleaseValue) → CanRetreat start batch release → (k : ℕ) → k ≡ length batch.changes → IsBackAt start release batch.changes k start
begins start batch release can k all =
    let whole : take k batch.changes ≡ batch.changes = take_all k batch.changes (omega arith) in
    of-held start (after_batch release batch).records can.dense can.holds
    ∙ ap (λ cs. cube_over start.shape start.vars (fold changed release cs).records) (sym whole)

-- the change at a place of the batch can be undone, and then one fewer is left
pub record Undoes (start : CubeValue) (release : ReleaseValue) (changes : List Change) (k : ℕ) (change : Change) (cube : CubeValue) : Type 0 where
  pub can : CanMake cube (undone change)
  pub goes : (new : CubeValue) → new ≡ with_change cube (undone change) → IsBackAt start release changes k new

spots_in : (batch : BatchValue) (release : ReleaseValue) (start : CubeValue) → CanRetreat start batch release → HaveSpots release batch.changes
spots_in batch release start can =
    subst (HaveSpots release) (sym (ap (λ (b : BatchValue). b.changes) can.follows.theirs)) (have_spots release can.follows.edits can.sound can.follows.can.possible)

pub undoes : (start : CubeValue) (batch : BatchValue) (release : ReleaseValue) → CanRetreat start batch release → (list : List Change) (k : ℕ) (change : Change) (cube : CubeValue)
    → All (λ v. v < length start.shape) start.vars → All (ChangeFits start.shape) batch.changes → list ≡ batch.changes → k < length list → change ≡ get_or list k change
    → IsBackAt start release batch.changes (k + 1) cube → Undoes start release batch.changes k change cube
undoes start batch release can list k change cube there fit same below is at =
    let within : k < length batch.changes = subst (λ (cs : List Change). k < length cs) same below in
    let here : change ≡ get_or batch.changes k change = subst (λ (cs : List Change). change ≡ get_or cs k change) same is in
    let fits : ChangeFits start.shape change = subst (ChangeFits start.shape) (sym here) (fit k change within) in
    let old = part_way release batch.changes k in
    let new = part_way release batch.changes (suc k) in
    let place : Spot old new change = subst (Spot old new) (sym here) (spots_in batch release start can k within change) in
    let now : CubeValue = cube_over start.shape start.vars new in
    let is_now : cube ≡ now = at ∙ ap (λ n. cube_over start.shape start.vars (part_way release batch.changes n)) (add-one k) in
    let made : Makes now (undone change) old = makes now (undone change) new old (back old new change place) there (fits.1, fits.0) refl refl in record {
      can = subst (λ (c : CubeValue). CanMake c (undone change)) (sym is_now) made.can;
      goes = λ cube' is'. is' ∙ ap (λ (c : CubeValue). with_change c (undone change)) is_now ∙ made.leads;
    }

-- the last change that is left, where so many were undone
pub record UndoesLast (start : CubeValue) (batch : BatchValue) (release : ReleaseValue) (i : ℕ) (change : Change) (cube : CubeValue) : Type 0 where
  pub can : CanMake cube (undone change)
  pub goes : (new : CubeValue) → new ≡ with_change cube (undone change) → (k : ℕ) → k + (i + 1) ≡ length batch.changes → IsBackAt start release batch.changes k new

pub undoes_last : (start : CubeValue) (batch : BatchValue) (release : ReleaseValue) (can : CanRetreat start batch release) (list : List Change) (i : ℕ) (change : Change) (cube : CubeValue)
    → All (λ v. v < length start.shape) start.vars → All (ChangeFits start.shape) batch.changes → list ≡ batch.changes → i < length list → change ≡ get_or list (length list - 1 - i) change
    → ((k : ℕ) → k + i ≡ length batch.changes → IsBackAt start release batch.changes k cube) → UndoesLast start batch release i change cube
undoes_last start batch release can list i change cube there fit same below is at =
    let long : length list ≡ length batch.changes = ap length same in
    let last : ℕ = length list - 1 - i in
    let one = undoes start batch release can list last change cube there fit same (omega arith) is (at (last + 1) (omega arith)) in record {
      can = one.can;
      goes = λ new made k left.
          let here : last ≡ k = omega arith in
          subst (λ n. IsBackAt start release batch.changes n new) here (one.goes new made);
    }

-- none is left
pub ends : (start : CubeValue) (batch : BatchValue) (release : ReleaseValue) (can : CanRetreat start batch release) (list : List Change) (i : ℕ) (cube : CubeValue) → list ≡ batch.changes
    → i ≤ length list → length list ≤ i → ((k : ℕ) → k + i ≡ length batch.changes → IsBackAt start release batch.changes k cube) → cube ≡ cube_over start.shape start.vars release.records
ends start batch release can list i cube same low high at =
    let long : length list ≡ length batch.changes = ap length same in at 0 (omega arith) ∙ ap (cube_over start.shape start.vars) (none_made release batch.changes)

-- a cube that was led on can go back, to where it was
pub may_return : (cube there : CubeValue) (batch : BatchValue) (release : ReleaseValue) → CanAdvance cube batch release → there ≡ cube_over cube.shape cube.vars (after_batch release batch).records
    → CanRetreat there batch release
may_return cube there batch release can is = record {
  sound = can.sound;
  dense = ap (λ (c : CubeValue). c.dense) is;
  holds = subst (λ (c : CubeValue). Holds c (after_batch release batch).records) (sym is) refl;
  follows = can.follows;
}

pub returned : (cube there last : CubeValue) (batch : BatchValue) (release : ReleaseValue) → CanAdvance cube batch release → there ≡ cube_over cube.shape cube.vars (after_batch release batch).records
    → last ≡ cube_over there.shape there.vars release.records → last ≡ cube
returned cube there last batch release can is back_at =
    back_at ∙ ap (λ (c : CubeValue). cube_over c.shape c.vars release.records) is ∙ sym (of-held cube release.records can.dense can.holds)
