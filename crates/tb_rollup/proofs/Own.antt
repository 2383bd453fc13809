-- What a caller knows of a cube over a plan's own variables.
use Rattle.std.proofs.Common.{◌≡◌, ℕ, ◌<◌, ◌≤◌, Bool, true, false, cond, Some, None, List, [], ◌∷◌, ◌++◌, length, refl, subst, append_assoc, arith}
use Rattle.std.specs.Prelude.{All, nat_le}
use Rattle.std.specs.List.{list_all}
use Rattle.std.proofs.lemmas.Bool.{eq-eqb, leb-true, or_right}
use Rattle.std.proofs.lemmas.List.{get_or_default}
use Rattle.tb_base.specs.Sets.{is_in, includes_all}
use Rattle.tb_grid.specs.declared.products.TheConstants.{MOST_CELLS}
use Rattle.tb_cube.specs.Cubes.{cell_count}
use Rattle.tb_plan.specs.Plans.{PlanValue, cube_cells_of, uses, vars_of}
use Rattle.tb_plan.proofs.Sets.{filter-below}

is_in-at : (pre : List ℕ) (x : ℕ) (rest : List ℕ) → is_in (pre ++ x ∷ rest) x ≡ true
is_in-at [] x rest = rw (eq-eqb x x refl) refl
is_in-at (p ∷ pre) x rest = or_right _ _ (is_in-at pre x rest)

all-in : (pre xs : List ℕ) → list_all (is_in (pre ++ xs)) xs ≡ true
all-in pre [] = refl
all-in pre (x ∷ xs) =
    let rest : list_all (is_in (pre ++ x ∷ xs)) xs ≡ true = subst (λ (ys : List ℕ). list_all (is_in ys) xs ≡ true) (append_assoc pre (x ∷ []) xs) (all-in (pre ++ x ∷ []) xs) in
    rw (is_in-at pre x xs) rest

-- a set includes itself
pub includes-own : (xs : List ℕ) → includes_all xs xs ≡ true
includes-own xs = all-in [] xs

-- the variables are the shape's
pub there-own : (plan : PlanValue) → All (λ v. v < length plan.shape) (vars_of plan)
there-own plan k d below =
    rw (get_or_default (vars_of plan) k d 0 below) (omega (arith, filter-below (uses plan) 0 (length plan.shape) k below))

-- and their cube isn't too large where it has a number of cells
within : (most n m : ℕ) (b : Bool) → nat_le n most ≡ b → cond b (Some n) None ≡ Some m → n ≤ most
within most n m true h e = leb-true n most h
within most n m false h e = cc

pub few-own : (plan : PlanValue) (m : ℕ) → cube_cells_of plan ≡ Some m → cell_count plan.shape (vars_of plan) ≤ MOST_CELLS
few-own plan m e = within MOST_CELLS (cell_count plan.shape (vars_of plan)) m (nat_le (cell_count plan.shape (vars_of plan)) MOST_CELLS) refl e
