-- The number to which a list of categories leads is its place over the fewer variables.
use Rattle.std.proofs.Common.{◌≡◌, ℕ, ◌+◌, ◌*◌, ◌<◌, ◌≤◌, true, false, List, [], ◌∷◌, length, map, get_or, refl, ap, sym, subst, ◌∙◌, inl, inr, arith}
use Rattle.std.specs.Prelude.{◌==◌, bytes_eq, slice_index, All}
use Rattle.std.specs.List.{range_with_len, list_any, list_all, AllByRecursion}
use Rattle.std.proofs.lemmas.Bool.{eq-eqb, ne_eqb, and_parts}
use Rattle.std.proofs.lemmas.Bool.Decides.{eqb_tells}
use Rattle.std.proofs.lemmas.List.Elements.{recursion_from_All, All-from_recursion}
use Rattle.tb_base.specs.Sets.{is_in, includes_all}
use Rattle.tb_model.specs.RowMajor.{row_major}
use Rattle.tb_model.specs.Cubes.{category_lists, category_in}
use Rattle.tb_model.proofs.RollUp.{EachBelow}
use Rattle.tb_model.proofs.CubeLemmas.{Includes}
use Rattle.tb_grid.specs.Products.{cells_over}
use Rattle.tb_grid.specs.declared.products.TheConstants.{MOST_CELLS}
use Rattle.tb_grid.proofs.Sums.{eq-swap}
use Rattle.tb_grid.proofs.Factors.{at-least}
use Rattle.tb_cube.specs.Axes.{axes_of}
use Rattle.tb_cube.specs.Cubes.{cell_count, place_of}
use Rattle.tb_cube.specs.Narrowing.{forks_of, steps_of, stride_in, AreRuns}
use Rattle.tb_cube.specs.Walks.{count_of, Fork}
use Rattle.tb_cube.proofs.Grid.{list-test}
use Rattle.tb_cube.proofs.Lists.{Distinct, NotIn, FitsList, category-below}
use Rattle.tb_cube.proofs.Walks.{lead, lists_of, second-factor}

-- the forks of a walk over some variables among fewer
abbrev pub forks_to : List ℕ → List ℕ → List ℕ → List Fork
forks_to shape fewer vars = forks_of (steps_of shape (axes_of shape fewer) vars)

-- they are over the variables' lists of categories
same-sizes : (shape fewer vars : List ℕ) → map (λ (t : Fork). range_with_len 0 t.count) (forks_to shape fewer vars) ≡ map (λ v. range_with_len 0 (slice_index shape v)) vars
same-sizes shape fewer [] = refl
same-sizes shape fewer (v ∷ vs) = ap (λ xs. range_with_len 0 (slice_index shape v) ∷ xs) (same-sizes shape fewer vs)

pub lists-of-forks : (shape fewer vars : List ℕ) → lists_of (forks_to shape fewer vars) ≡ category_lists shape vars
lists-of-forks shape fewer vars = ap row_major (same-sizes shape fewer vars)

pub count-of-forks : (shape fewer vars : List ℕ) → count_of (forks_to shape fewer vars) ≡ cell_count shape vars
count-of-forks shape fewer [] = refl
count-of-forks shape fewer (v ∷ vs) = ap (λ n. slice_index shape v * n) (count-of-forks shape fewer vs)

-- each category of a variable has as many cells as the variables after it have lists
pub runs-of-steps : (shape fewer vars : List ℕ) → 0 < cell_count shape vars → cell_count shape vars ≤ MOST_CELLS → AreRuns (steps_of shape (axes_of shape fewer) vars)
runs-of-steps shape fewer [] some few = tt
runs-of-steps shape fewer (v ∷ vs) some few =
    let n : ℕ = slice_index shape v in
    let m : ℕ = cell_count shape vs in
    let swap : 0 < m * n = omega (arith, some) in
    let after : 0 < m = second-factor n m some in
    let less : m ≤ n * m = at-least n m (second-factor m n swap) in
    let whole : cells_over shape vs ≡ m = omega (arith, less, few) in
    (whole ∙ sym (count-of-forks shape fewer vs), omega (arith, whole, after), runs-of-steps shape fewer vs after (omega (arith, less, few)))

-- with no variable nothing leads on
lead-none : (shape vars cs : List ℕ) → lead (forks_to shape [] vars) cs ≡ 0
lead-none shape [] cs = refl
lead-none shape (v ∷ vs) [] = refl
lead-none shape (v ∷ vs) (c ∷ cs) = omega (arith, lead-none shape vs cs)

-- a variable that isn't there leads nowhere
stride-none : (shape us : List ℕ) (v : ℕ) → NotIn v us → stride_in (axes_of shape us) v ≡ 0
stride-none shape [] v apart = refl
stride-none shape (u ∷ us) v apart = rw (ne_eqb u v (λ e. apart.0 (sym e))) (stride-none shape us v apart.1)

lead-apart : (shape us : List ℕ) (u : ℕ) (vs cs : List ℕ) → NotIn u vs → lead (forks_to shape (u ∷ us) vs) cs ≡ lead (forks_to shape us vs) cs
lead-apart shape us u [] cs apart = refl
lead-apart shape us u (v ∷ vs) [] apart = refl
lead-apart shape us u (v ∷ vs) (c ∷ cs) apart = rw (ne_eqb u v apart.0, lead-apart shape us u vs cs apart.1) refl

-- the first of the fewer variables leads on by itself
lead-first : (shape us : List ℕ) (u : ℕ) (vs cs : List ℕ) → FitsList shape vs cs → Distinct vs → NotIn u us → is_in vs u ≡ true
    → lead (forks_to shape (u ∷ us) vs) cs ≡ category_in vs cs u * cells_over shape us + lead (forks_to shape us vs) cs
lead-first shape us u [] cs fits apart other among = cc
lead-first shape us u (v ∷ vs) [] fits apart other among = absurd fits
lead-first shape us u (v ∷ vs) (c ∷ cs) fits apart other among =
    elim (eqb_tells v u) [
      | inl h ↦
          let turn : (u == v) ≡ true = eq-eqb u v (sym h.1) in
          let none : stride_in (axes_of shape us) v ≡ 0 = stride-none shape us v (subst (λ (w : ℕ). NotIn w us) (sym h.1) other) in
          let away : NotIn u vs = subst (λ (w : ℕ). NotIn w vs) h.1 apart.0 in
          rw (h.0, turn, none, lead-apart shape us u vs cs away) (omega arith)
      | inr h ↦
          let turn : (u == v) ≡ false = ne_eqb u v (λ e. h.1 (sym e)) in
          let rest : is_in vs u ≡ true = rw h.0 at among in
          rw (h.0, turn, lead-first shape us u vs cs fits.1 apart.1 other rest) (omega arith)
    ]

pub lead-place : (shape vars cs fewer : List ℕ) → FitsList shape vars cs → Distinct vars → Distinct fewer → includes_all vars fewer ≡ true → cell_count shape fewer ≤ MOST_CELLS
    → lead (forks_to shape fewer vars) cs ≡ place_of shape fewer (category_in vars cs)
lead-place shape vars cs [] fits apart other among few = lead-none shape vars cs
lead-place shape vars cs (u ∷ us) fits apart other among few =
    let both = and_parts (is_in vars u) (list_all (is_in vars) us) among in
    let m : ℕ = cell_count shape us in
    let some : category_in vars cs u < slice_index shape u = category-below shape vars cs u fits both.0 in
    let less : m ≤ slice_index shape u * m = at-least (slice_index shape u) m (omega (arith, some)) in
    let whole : cells_over shape us ≡ m = omega (arith, few) in
    lead-first shape us u vars cs fits apart other.0 both.0
    ∙ rw (whole, lead-place shape vars cs us fits apart other.1 both.1 (omega (arith, few, less))) refl

-- the categories of the fewer variables are theirs
each-below : (shape vars cs fewer : List ℕ) → FitsList shape vars cs → includes_all vars fewer ≡ true → EachBelow (category_in vars cs) (slice_index shape) fewer
each-below shape vars cs [] fits among = tt
each-below shape vars cs (u ∷ us) fits among =
    let both = and_parts (is_in vars u) (list_all (is_in vars) us) among in
    (category-below shape vars cs u fits both.0, each-below shape vars cs us fits both.1)

-- so a list of categories leads to a place exactly where it agrees with the place's own
pub leads-to : (shape vars cs fewer : List ℕ) (i : ℕ) → FitsList shape vars cs → Distinct vars → Distinct fewer → includes_all vars fewer ≡ true → cell_count shape fewer ≤ MOST_CELLS → i < length (category_lists shape fewer)
    → (lead (forks_to shape fewer vars) cs == i) ≡ bytes_eq (map (category_in vars cs) fewer) (get_or (category_lists shape fewer) i [])
leads-to shape vars cs fewer i fits apart other among few inside =
    ap (λ x. x == i) (lead-place shape vars cs fewer fits apart other among few)
    ∙ eq-swap (place_of shape fewer (category_in vars cs)) i
    ∙ sym (list-test shape fewer (category_in vars cs) i [] (each-below shape vars cs fewer fits among) inside)

-- each of the fewer variables is among them
pub includes-each : (vars fewer : List ℕ) → includes_all vars fewer ≡ true → Includes vars fewer
includes-each vars [] among = tt
includes-each vars (u ∷ us) among =
    let both = and_parts (is_in vars u) (list_all (is_in vars) us) among in
    (both.0, includes-each vars us both.1)

-- and is one of the shape
is-below : (n v : ℕ) (vars : List ℕ) → AllByRecursion (λ w. w < n) vars → list_any (λ w. w == v) vars ≡ true → v < n
is-below n v [] there among = cc
is-below n v (w ∷ ws) there among =
    elim (eqb_tells w v) [
      | inl h ↦ omega (arith, there.0, h.1)
      | inr h ↦ is-below n v ws there.1 (rw h.0 at among)
    ]

all-fewer : (n : ℕ) (vars fewer : List ℕ) → AllByRecursion (λ w. w < n) vars → includes_all vars fewer ≡ true → AllByRecursion (λ w. w < n) fewer
all-fewer n vars [] there among = tt
all-fewer n vars (u ∷ us) there among =
    let both = and_parts (is_in vars u) (list_all (is_in vars) us) among in
    (is-below n u vars there both.0, all-fewer n vars us there both.1)

pub there-fewer : (n : ℕ) (vars fewer : List ℕ) → All (λ v. v < n) vars → includes_all vars fewer ≡ true → All (λ v. v < n) fewer
there-fewer n vars fewer there among = All-from_recursion (λ v. v < n) fewer (all-fewer n vars fewer (recursion_from_All (λ v. v < n) vars there) among)
