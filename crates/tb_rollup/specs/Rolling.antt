-- What a roll-up adds at each place, variable by variable.
use Rattle.std.specs.Prelude.{◌≡◌, ◌+◌, ◌*◌, ◌%◌, ◌==◌, ◌<◌, ◌≤◌, ℕ, cond, false, nat_lt}
use Rattle.std.specs.Prelude.{if◌then◌else◌, List, [], ◌∷◌, length, drop, slice_index}
use Rattle.std.specs.List.{sum_by, range_with_len}
use Rattle.tb_cube.specs.Cubes.{cell_count, CubeValue}
use Rattle.tb_base.specs.declared.cells.Cell.{Cell}
use Rattle.tb_base.specs.Parts.{modulus, part_at, Part}
use Rattle.tb_cube.specs.declared.packing.KeptCell.{KeptCell}
use Rattle.tb_cube.specs.Walks.{kept_spread, led_to, spread as spread_by, Fork}
use Rattle.tb_grid.specs.declared.products.TheConstants.{MOST_CELLS}
use Rattle.tb_plan.specs.Plans.{PlanValue, uses}
use Rattle.tb_plan.specs.Steps.{step_at, steps_of}
use Rattle.tb_query.specs.declared.limits.TheConstants.{MOST_PLACES}

-- where the walk over a cube forks: each category leads on by its step in the plan
abbrev pub forks_of : PlanValue → List ℕ → List Fork
forks_of plan [] = []
forks_of plan (v ∷ vs) =
    record { count = slice_index plan.shape v; step = step_at plan v } ∷ forks_of plan vs

-- what the cells of a cube add at the number i: f gives a part of the cell at each place; the
-- categories of the variables before these lead to the place k among theirs, and to the number base
abbrev pub spread : PlanValue → List ℕ → (ℕ → ℕ) → ℕ → ℕ → ℕ → ℕ
spread plan vars f k base i = spread_by (forks_of plan vars) f k base i

-- what a run of cells adds, from a place on
abbrev pub run_sum : (ℕ → ℕ) → ℕ → ℕ → ℕ
run_sum f from run = sum_by (λ r. f (from + r)) (range_with_len 0 run)

-- what runs of cells add at the number i, one run for each step beyond base
abbrev pub runs_at : (ℕ → ℕ) → ℕ → List ℕ → ℕ → ℕ → ℕ → ℕ
runs_at f from steps run base i =
    sum_by (λ c. cond (base + slice_index steps c == i) (run_sum f (from + c * run) run) 0)
    (range_with_len 0 (length steps))

-- no dimension and no filter is over these variables
abbrev pub AreUnused : PlanValue → List ℕ → Type 0
AreUnused plan [] = Unit {0}
AreUnused plan (v ∷ vs) = (uses plan v ≡ false) × AreUnused plan vs

-- the last variable of a cube that the plan uses: its place among the cube's variables, the steps
-- of its categories, and how many cells each of them has
pub record IsLast (plan : PlanValue) (vars : List ℕ) (at : ℕ) (steps : List ℕ) (run : ℕ)
    : Type 0 where
  pub there : at < length vars
  pub steps_are : steps ≡ steps_of plan (slice_index vars at)
  pub rest : AreUnused plan (drop (at + 1) vars)
  pub run_is : run ≡ cell_count plan.shape (drop (at + 1) vars)

-- where a roll-up stands: before variable j of the cube, at the place k of the categories so far,
-- and at a number below those of the table's cells
pub record Stands (cube : CubeValue) (plan : PlanValue) (cells j k base : ℕ) : Type 0 where
  pub shape : cube.shape ≡ plan.shape
  pub whole : (k + 1) * cell_count plan.shape (drop j cube.vars) ≤ length cube.cells
  pub some : 0 < cell_count plan.shape (drop j cube.vars)
  pub small : length cube.cells ≤ MOST_CELLS
  pub low : base < cells
  pub few : cells ≤ MOST_PLACES

-- kept cells in order of place, from a first place on and below another
abbrev pub AreBetween : ℕ → ℕ → List KeptCell → Type 0
AreBetween from to [] = Unit {0}
AreBetween from to (k ∷ ks) = (from ≤ k.place) × (k.place < to) × AreBetween (k.place + 1) to ks

-- of kept cells in order those before a place, and those from it on
abbrev pub kept_before : ℕ → List KeptCell → List KeptCell
kept_before end [] = []
kept_before end (k ∷ ks) = if nat_lt k.place end then k ∷ kept_before end ks else []

abbrev pub kept_after : ℕ → List KeptCell → List KeptCell
kept_after end [] = []
kept_after end (k ∷ ks) = if nat_lt k.place end then kept_after end ks else k ∷ ks

-- kept cells were added to a table's cells, each at the number to which its place leads, up to some
-- that are left
abbrev pub AreAdded :
    PlanValue → List ℕ → List KeptCell → List Cell → List KeptCell → List Cell → Type 0
AreAdded plan vars kept old left new =
    (p : Part) (i : ℕ) → i < length old
    → (part_at p new i + kept_spread (forks_of plan vars) p left i) % modulus p
    ≡ (part_at p old i + kept_spread (forks_of plan vars) p kept i) % modulus p

-- where a roll-up of a packed cube stands: with these kept cells to come
pub record StandsBefore (cube : CubeValue) (plan : PlanValue) (cells j k base : ℕ)
    (kept : List KeptCell) : Type 0 where
  pub stands : Stands cube plan cells j k base
  pub leads :
      (r : ℕ) → r < cell_count plan.shape (drop j cube.vars)
      → led_to (forks_of plan cube.vars) (k * cell_count plan.shape (drop j cube.vars) + r)
      ≡ base + led_to (forks_of plan (drop j cube.vars)) r
  pub to_come :
      AreBetween (k * cell_count plan.shape (drop j cube.vars)) (length cube.cells) kept
