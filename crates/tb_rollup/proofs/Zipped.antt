-- What a cube adds, as one sum over its lists of categories with their cells.
use Rattle.std.proofs.Common.{◌≡◌, ℕ, cond, List, [], ◌∷◌, length, map, refl, ap, sym, ◌∙◌}
use Rattle.std.specs.Prelude.{◌==◌, slice_index}
use Rattle.std.specs.List.{sum_by, range_with_len, zip}
use Rattle.tb_base.specs.declared.cells.Cell.{Cell}
use Rattle.tb_base.specs.Parts.{Part, part, part_at}
use Rattle.tb_model.specs.RowMajor.{row_major}
use Rattle.tb_model.specs.Cubes.{category_lists}
use Rattle.tb_cube.specs.Walks.{Fork}
use Rattle.tb_cube.proofs.Walks.{lead as lead_by, lists_of, spread-zip as zip-by}
use Rattle.tb_plan.specs.Plans.{PlanValue}
use Rattle.tb_rollup.specs.Rolling.{forks_of, spread}
use Rattle.tb_rollup.proofs.Spread.{count_of, count-of-forks}

-- the number to which a list of categories leads
abbrev pub lead : PlanValue → List ℕ → List ℕ → ℕ
lead plan vars cs = lead_by (forks_of plan vars) cs

-- the forks are over the variables' lists of categories
same-sizes : (plan : PlanValue) (vars : List ℕ) → map (λ (t : Fork). range_with_len 0 t.count) (forks_of plan vars) ≡ map (λ v. range_with_len 0 (slice_index plan.shape v)) vars
same-sizes plan [] = refl
same-sizes plan (v ∷ vs) = ap (λ xs. range_with_len 0 (slice_index plan.shape v) ∷ xs) (same-sizes plan vs)

lists-of-forks : (plan : PlanValue) (vars : List ℕ) → lists_of (forks_of plan vars) ≡ category_lists plan.shape vars
lists-of-forks plan vars = ap row_major (same-sizes plan vars)

-- what a whole cube adds at a number
pub spread-zip : (plan : PlanValue) (vars : List ℕ) (p : Part) (cells : List Cell) (i : ℕ) → length cells ≡ count_of plan vars
    → spread plan vars (part_at p cells) 0 0 i ≡ sum_by (λ q. cond (lead plan vars q.0 == i) (part p q.1) 0) (zip (category_lists plan.shape vars) cells)
spread-zip plan vars p cells i long =
    zip-by (forks_of plan vars) p cells i (long ∙ sym (count-of-forks plan vars))
    ∙ ap (λ L. sum_by (λ q. cond (lead plan vars q.0 == i) (part p q.1) 0) (zip L cells)) (lists-of-forks plan vars)
