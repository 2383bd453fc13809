-- What the cells of a cube add at a number.
use Rattle.std.proofs.Common.{◌≡◌, ℕ, zero, suc, ◌+◌, ◌*◌, ◌<◌, ◌≤◌, Bool, true, false, cond, List, [], ◌∷◌, length, drop, get_or, refl, ap, sym, subst, ◌∙◌, arith}
use Rattle.std.specs.Prelude.{◌==◌, slice_index}
use Rattle.std.specs.List.{sum_by, range_with_len, list_any}
use Rattle.std.proofs.lemmas.Bool.{or_parts}
use Rattle.std.proofs.lemmas.List.{drop_more}
use Rattle.tb_model.proofs.SumLemmas.{sum_by-ext, sum_by-none}
use Rattle.tb_grid.proofs.Factors.{at-least}
use Rattle.tb_plan.specs.Plans.{PlanValue, DimensionValue, ConditionValue, uses, place_count}
use Rattle.tb_plan.specs.Steps.{dimension_step, filter_step, step_at}
use Rattle.tb_cube.specs.Cubes.{cell_count}
use Rattle.tb_cube.specs.Walks.{count_of as count_by}
use Rattle.tb_cube.proofs.Walks.{inside-row, room-row, second-factor, spread-end, spread-more as one-fork, spread-none as none-none, spread-past as past-none, sum-rows}
use Rattle.tb_rollup.specs.Rolling.{forks_of, spread, AreUnused}

-- how many cells a cube over some variables has
abbrev pub count_of : PlanValue → List ℕ → ℕ
count_of plan vars = cell_count plan.shape vars

-- a variable that isn't used has no steps
no-dimension : (totals : Bool) (ds : List DimensionValue) (v c : ℕ) → list_any (λ d. d.variable == v) ds ≡ false → dimension_step totals ds v c ≡ 0
no-dimension totals [] v c h = refl
no-dimension totals (d ∷ ds) v c h =
    let both = or_parts (d.variable == v) (list_any (λ x. x.variable == v) ds) h in
    rw (both.0, no-dimension totals ds v c both.1) (omega arith)

no-filter : (places : ℕ) (fs : List ConditionValue) (v c : ℕ) → list_any (λ f. f.variable == v) fs ≡ false → filter_step places fs v c ≡ 0
no-filter places [] v c h = refl
no-filter places (f ∷ fs) v c h =
    let both = or_parts (f.variable == v) (list_any (λ x. x.variable == v) fs) h in
    rw (both.0, no-filter places fs v c both.1) (omega arith)

pub no-step : (plan : PlanValue) (v c : ℕ) → uses plan v ≡ false → step_at plan v c ≡ 0
no-step plan v c h =
    let both = or_parts (list_any (λ d. d.variable == v) plan.dimensions) (list_any (λ f. f.variable == v) plan.filters) h in
    rw (no-dimension plan.totals plan.dimensions v c both.0, no-filter (place_count plan) plan.filters v c both.1) (omega arith)

-- there are as many lists of categories as cells
pub count-of-forks : (plan : PlanValue) (vars : List ℕ) → count_by (forks_of plan vars) ≡ count_of plan vars
count-of-forks plan [] = refl
count-of-forks plan (v ∷ vs) = ap (λ n. slice_index plan.shape v * n) (count-of-forks plan vs)

pub spread-more : (plan : PlanValue) (v : ℕ) (vs : List ℕ) (f : ℕ → ℕ) (k base i : ℕ)
    → spread plan (v ∷ vs) f k base i ≡ sum_by (λ c. spread plan vs f (k * slice_index plan.shape v + c) (base + step_at plan v c) i) (range_with_len 0 (slice_index plan.shape v))
spread-more plan v vs f k base i = one-fork (record { count = slice_index plan.shape v; step = step_at plan v }) (forks_of plan vs) f k base i

-- a number past a place adds nothing there
pub spread-past : (plan : PlanValue) (vs : List ℕ) (f : ℕ → ℕ) (k base i : ℕ) → i < base → spread plan vs f k base i ≡ 0
spread-past plan vs f k base i past = past-none (forks_of plan vs) f k base i past

-- variables that aren't used make one run
pub spread-unused : (plan : PlanValue) (vs : List ℕ) (f : ℕ → ℕ) (k base i : ℕ) → AreUnused plan vs
    → spread plan vs f k base i ≡ cond (base == i) (sum_by (λ r. f (k * count_of plan vs + r)) (range_with_len 0 (count_of plan vs))) 0
spread-unused plan [] f k base i unused =
    let e : k * 1 + 0 ≡ k = omega arith in
    spread-end f k base i ∙ rw e (ap (λ x. cond (base == i) x 0) (omega arith))
spread-unused plan (v ∷ vs) f k base i unused =
    let n : ℕ = slice_index plan.shape v in
    let m : ℕ = count_of plan vs in
    let row : (c : ℕ) → spread plan vs f (k * n + c) (base + step_at plan v c) i ≡ cond (base == i) (sum_by (λ r. f (k * (n * m) + (c * m + r))) (range_with_len 0 m)) 0 = λ c.
    let same : base + step_at plan v c ≡ base = rw (no-step plan v c unused.0) (omega arith) in
    rw same (spread-unused plan vs f (k * n + c) base i unused.1
    ∙ ap (λ x. cond (base == i) x 0) (sum_by-ext (λ r. f ((k * n + c) * m + r)) (λ r. f (k * (n * m) + (c * m + r))) (range_with_len 0 m) (λ r. let flat : (k * n + c) * m + r ≡ k * (n * m) + (c * m + r) = omega arith in ap f flat))) in
    spread-more plan v vs f k base i ∙ sum_by-ext _ _ (range_with_len 0 n) row
    ∙ elim (base == i) as (λ b. sum_by (λ c. cond b (sum_by (λ r. f (k * (n * m) + (c * m + r))) (range_with_len 0 m)) 0) (range_with_len 0 n) ≡ cond b (sum_by (λ r. f (k * (n * m) + r)) (range_with_len 0 (n * m))) 0) [
      | true ↦ sym (sum-rows (λ r. f (k * (n * m) + r)) n m)
      | false ↦ sum_by-none (range_with_len 0 n)
    ]

-- a cube with no cells adds nothing
pub spread-none : (plan : PlanValue) (vs : List ℕ) (f : ℕ → ℕ) (k base i : ℕ) → count_of plan vs ≡ 0 → spread plan vs f k base i ≡ 0
spread-none plan vs f k base i none = none-none (forks_of plan vs) f k base i (count-of-forks plan vs ∙ none)

-- where a roll-up stands at a variable v with n categories
pub record Level (plan : PlanValue) (vars : List ℕ) (j k long v n : ℕ) : Type 0 where
  pub is : drop j vars ≡ v ∷ drop (j + 1) vars
  pub size : n ≡ slice_index plan.shape v
  pub rest : 0 < count_of plan (drop (j + 1) vars)
  pub inside : (c : ℕ) → c < n → (k * n + c + 1) * count_of plan (drop (j + 1) vars) ≤ long
  pub room : (c : ℕ) → c < n → k * n + c < long

level : (plan : PlanValue) (vars : List ℕ) (j k long : ℕ) → j < length vars → 0 < count_of plan (drop j vars) → (k + 1) * count_of plan (drop j vars) ≤ long
    → Level plan vars j k long (get_or vars j 0) (slice_index plan.shape (get_or vars j 0))
level plan vars j k long below some whole =
    let n : ℕ = slice_index plan.shape (get_or vars j 0) in
    let m : ℕ = count_of plan (drop (j + 1) vars) in
    let is = drop_more vars j 0 below in
    let count : count_of plan (drop j vars) ≡ n * m = ap (count_of plan) is in
    let rest : 0 < m = second-factor n m (omega (arith, some, count)) in
    let whole' : (k + 1) * (n * m) ≤ long = rw (← count) whole in
    record {
      is = is;
      size = refl;
      rest = rest;
      inside = λ c h. inside-row n m k c long whole' rest h;
      room = λ c h. room-row n m k c long whole' rest h;
    }

pub level-at : (plan : PlanValue) (vars : List ℕ) (j k long v n : ℕ) → j < length vars → 0 < count_of plan (drop j vars) → (k + 1) * count_of plan (drop j vars) ≤ long
    → v ≡ get_or vars j 0 → n ≡ slice_index plan.shape v → Level plan vars j k long v n
level-at plan vars j k long v n below some whole e count =
    subst (λ (s : ℕ). Level plan vars j k long v s) (sym count) (subst (λ (w : ℕ). Level plan vars j k long w (slice_index plan.shape w)) (sym e) (level plan vars j k long below some whole))

-- the last variables of a cube with cells make no more cells
pub suffix-some : (plan : PlanValue) (vars : List ℕ) (j : ℕ) → 0 < count_of plan vars → 0 < count_of plan (drop j vars)
suffix-some plan vars zero some = some
suffix-some plan [] (suc j) some = some
suffix-some plan (v ∷ vs) (suc j) some = suffix-some plan vs j (second-factor (slice_index plan.shape v) (count_of plan vs) some)

first-factor : (n m : ℕ) → 0 < n * m → 0 < n
first-factor zero m h = absurd (omega arith)
first-factor (suc n) m h = omega arith

pub suffix-le : (plan : PlanValue) (vars : List ℕ) (j : ℕ) → 0 < count_of plan vars → count_of plan (drop j vars) ≤ count_of plan vars
suffix-le plan vars zero some = omega arith
suffix-le plan [] (suc j) some = omega arith
suffix-le plan (v ∷ vs) (suc j) some =
    let n : ℕ = slice_index plan.shape v in
    let m : ℕ = count_of plan vs in
    omega (arith, suffix-le plan vs j (second-factor n m some), at-least n m (first-factor n m some))
