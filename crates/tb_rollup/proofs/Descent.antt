-- The loop over the categories of a variable of the cube, on the way down to the last that the plan uses.
use Rattle.std.proofs.Common.{◌≡◌, ℕ, ◌+◌, ◌*◌, ◌%◌, ◌<◌, ◌≤◌, List, length, drop, get_or, ap, sym, ◌∙◌, arith}
use Rattle.std.specs.Prelude.{slice_index, All}
use Rattle.std.specs.List.{sum_by, range_with_len}
use Rattle.tb_grid.specs.declared.products.TheConstants.{MOST_CELLS}
use Rattle.tb_query.specs.declared.limits.TheConstants.{MOST_PLACES}
use Rattle.tb_cube.specs.Cubes.{CubeValue, IsWhole}
use Rattle.tb_base.proofs.PartLemmas.{add-more, nothing}
use Rattle.tb_plan.specs.Plans.{PlanValue}
use Rattle.tb_plan.specs.Steps.{step_at}
use Rattle.tb_rollup.specs.Rolling.{spread, Stands}
use Rattle.tb_cube.proofs.Walks.{sum-next}
use Rattle.tb_rollup.proofs.Spread.{count_of, level-at, spread-more, spread-past, Level}

-- a variable of the cube is one of its shape
pub there-in : (cube : CubeValue) (vars : List ℕ) (j v : ℕ) → All (λ w. w < length cube.shape) cube.vars → vars ≡ cube.vars
    → v ≡ get_or vars j 0 → j < length cube.vars → v < length cube.shape
there-in cube vars j v there same at below = rw (at, same) (there j 0 below)

-- a roll-up begins before the first variable
pub stands-start : (cube : CubeValue) (plan : PlanValue) (cells : ℕ) → IsWhole cube → cube.shape ≡ plan.shape → 0 < length cube.cells → 0 < cells → cells ≤ MOST_PLACES
    → length cube.cells ≡ count_of plan cube.vars → Stands cube plan cells 0 0 0
stands-start cube plan cells whole shape full some few long = record {
  shape = shape;
  whole = omega (arith, long);
  some = omega (arith, long, full);
  small = whole.few;
  low = some;
  few = few;
}

-- the loop stands before the variable j of the cube, which is v and has n categories
pub record Descent (cube : CubeValue) (plan : PlanValue) (cells j k base v n : ℕ) : Type 0 where
  pub stands : Stands cube plan cells j k base
  pub level : Level plan cube.vars j k (length cube.cells) v n

pub descent : (cube : CubeValue) (plan : PlanValue) (cells j k base v n : ℕ) (vars shape : List ℕ) → j < length cube.vars
    → Stands cube plan cells j k base → vars ≡ cube.vars → shape ≡ cube.shape
    → v ≡ get_or vars j 0 → n ≡ slice_index shape v → Descent cube plan cells j k base v n
descent cube plan cells j k base v n vars shape below stands same same' at size =
    let variable : v ≡ get_or cube.vars j 0 = at ∙ ap (λ (vs : List ℕ). get_or vs j 0) same in
    let count : n ≡ slice_index plan.shape v = size ∙ ap (λ (s : List ℕ). slice_index s v) (same' ∙ stands.shape) in
    record { stands = stands; level = level-at plan cube.vars j k (length cube.cells) v n below stands.some stands.whole variable count }

module _ (cube : CubeValue) (plan : PlanValue) (cells j k base v n : ℕ) (d : Descent cube plan cells j k base v n) where
  pub low-category : (c : ℕ) → c < n → c < slice_index plan.shape v
  low-category c low = omega (arith, low, d.level.size)

  pub room-for : (c : ℕ) → c < n → k * n + c < MOST_CELLS
  room-for c low = omega (arith, d.level.room c low, d.stands.small)

  -- a category leads on to the next variable
  pub stands-next : (c to now : ℕ) → c < n → now ≡ cells → to < now → Stands cube plan now (j + 1) (k * n + c) to
  stands-next c to now low same below = record {
    shape = d.stands.shape;
    whole = d.level.inside c low;
    some = d.level.rest;
    small = d.stands.small;
    low = below;
    few = omega (arith, same, d.stands.few);
  }

  -- what the first c categories add, where one of them has the number to
  module _ (f : ℕ → ℕ) (m i old : ℕ) where
    abbrev rest : List ℕ
    rest = drop (j + 1) cube.vars

    abbrev pub so_far : ℕ → ℕ
    so_far c = sum_by (λ e. spread plan rest f (k * n + e) (base + step_at plan v e) i) (range_with_len 0 c)

    pub gone-down : (c to mid new : ℕ) → to ≡ base + step_at plan v c → mid % m ≡ (old + so_far c) % m
        → new % m ≡ (mid + spread plan rest f (k * n + c) to i) % m → new % m ≡ (old + so_far (c + 1)) % m
    gone-down c to mid new is h e =
        let g : ℕ → ℕ = λ e. spread plan rest f (k * n + e) (base + step_at plan v e) i in
        add-more m old mid new (so_far c) (g c) h (e ∙ ap (λ x. (mid + spread plan rest f (k * n + c) x i) % m) is) ∙ ap
        (λ s. (old + s) % m) (sym (sum-next g c))

    pub left-out : (c to mid : ℕ) → to ≡ base + step_at plan v c → i < to → mid % m ≡ (old + so_far c) % m
        → mid % m ≡ (old + so_far (c + 1)) % m
    left-out c to mid is past h = gone-down c to mid mid is h (nothing m mid _ (spread-past plan rest f (k * n + c) to i past))

    pub all-down : (c new : ℕ) → c ≡ n → new % m ≡ (old + so_far c) % m → new % m ≡ (old + spread plan (drop j cube.vars) f k base i) % m
    all-down c new done h =
        let whole : spread plan (drop j cube.vars) f k base i ≡ so_far c =
        ap (λ xs. spread plan xs f k base i) d.level.is ∙ spread-more plan v rest f k base i
        ∙ ap (λ x. sum_by (λ e. spread plan rest f (k * x + e) (base + step_at plan v e) i) (range_with_len 0 x)) (sym d.level.size)
        ∙ ap so_far (sym done) in
        h ∙ ap (λ s. (old + s) % m) (sym whole)
