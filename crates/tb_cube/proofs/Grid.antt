-- The place of a record's cell in a cube, and its number by the axes.
use Rattle.std.proofs.Common.{◌≡◌, ℕ, zero, suc, ◌+◌, ◌*◌, ◌/◌, ◌%◌, ◌<◌, ◌≤◌, List, [], ◌∷◌, length, drop, map, get_or, refl, ap, sym, ◌∙◌, arith}
use Rattle.std.specs.Prelude.{◌==◌, bytes_eq, slice_index, All}
use Rattle.std.specs.List.{range_with_len, AllByRecursion}
use Rattle.std.proofs.lemmas.Nat.{mul-add-lt}
use Rattle.std.proofs.lemmas.List.Elements.{recursion_from_All, All-from_recursion}
use Rattle.std.proofs.lemmas.List.Sums.{sum_by-cons}
use Rattle.std.proofs.lemmas.List.FromFn.{length-range_with_len, get_or-range_with_len}
use Rattle.tb_base.specs.declared.records.Record.{Record}
use Rattle.tb_base.specs.Records.{category_at, Fits}
use Rattle.tb_model.specs.RowMajor.{product}
use Rattle.tb_model.specs.Cubes.{category_lists}
use Rattle.tb_model.proofs.RowMajorLemmas.{length-row_major, get_or-row_major, choice_at}
use Rattle.tb_model.proofs.RollUp.{EachBelow}
use Rattle.tb_model.proofs.CubeLemmas.{AllWithin, AllBelow, AllWithin-from_Fits}
use Rattle.tb_grid.specs.Products.{cells_over}
use Rattle.tb_grid.specs.declared.products.TheConstants.{MOST_CELLS}
use Rattle.tb_grid.proofs.Sums.{cut, eq-swap, same-place}
use Rattle.tb_grid.proofs.Factors.{at-least}
use Rattle.tb_cube.specs.declared.axes.Axis.{Axis}
use Rattle.tb_cube.specs.Cubes.{place_of, cell_count, CubeValue}
use Rattle.tb_cube.specs.Axes.{axes_of, number_by, LeadsBelow, IsCube}

-- the place of a record is within the cube
pub place-below : (shape vars : List ℕ) (at : ℕ → ℕ) → EachBelow at (slice_index shape) vars → place_of shape vars at < cell_count shape vars
place-below shape [] at below = omega arith
place-below shape (v ∷ vs) at below =
    omega (arith, mul-add-lt (at v) (cell_count shape vs) (place_of shape vs at) (slice_index shape v) below.0 (place-below shape vs at below.1))

-- its number by the axes is its place
pub number-place : (shape vars : List ℕ) (at : ℕ → ℕ) → EachBelow at (slice_index shape) vars → cell_count shape vars ≤ MOST_CELLS
    → number_by (axes_of shape vars) at ≡ place_of shape vars at
number-place shape [] at below few = refl
number-place shape (v ∷ vs) at below few =
    let m : ℕ = cell_count shape vs in
    let less : m ≤ slice_index shape v * m = at-least (slice_index shape v) m (omega (arith, below.0)) in
    let whole : cells_over shape vs ≡ m = omega arith in
    sum_by-cons (λ (a : Axis). at a.variable * a.stride) (record { variable = v; stride = cells_over shape vs }) (axes_of shape vs)
    ∙ rw (whole, number-place shape vs at below.1 (omega arith)) refl

-- the axis of each variable
pub length-axes : (shape vars : List ℕ) → length (axes_of shape vars) ≡ length vars
length-axes shape [] = refl
length-axes shape (v ∷ vs) = ap suc (length-axes shape vs)

pub stride-at : (shape vars : List ℕ) (j : ℕ) (d : Axis) → j < length vars → (get_or (axes_of shape vars) j d).stride ≡ cells_over shape (drop (j + 1) vars)
stride-at shape [] j d below = absurd (omega arith)
stride-at shape (v ∷ vs) zero d below = refl
stride-at shape (v ∷ vs) (suc j) d below =
    let next : suc j + 1 ≡ suc (j + 1) = omega arith in
    rw next (stride-at shape vs j d (omega arith))

lengths : (shape vars : List ℕ) → map length (map (λ v. range_with_len 0 (slice_index shape v)) vars) ≡ map (slice_index shape) vars
lengths shape [] = refl
lengths shape (v ∷ vs) = rw (length-range_with_len 0 (slice_index shape v), lengths shape vs) refl

pub length-lists : (shape vars : List ℕ) → length (category_lists shape vars) ≡ cell_count shape vars
length-lists shape vars = length-row_major (map (λ v. range_with_len 0 (slice_index shape v)) vars) ∙ ap product (lengths shape vars)

choice-test : (shape vars : List ℕ) (at : ℕ → ℕ) (k : ℕ) → EachBelow at (slice_index shape) vars → k < cell_count shape vars
    → bytes_eq (map at vars) (choice_at (map (λ v. range_with_len 0 (slice_index shape v)) vars) k 0) ≡ (k == place_of shape vars at)
choice-test shape [] at k below inside = let first : k ≡ 0 = omega arith in rw first refl
choice-test shape (v ∷ vs) at k below inside =
    let m : ℕ = cell_count shape vs in
    let c = cut (slice_index shape v) m k inside in
    rw (ap product (lengths shape vs), get_or-range_with_len 0 (slice_index shape v) (k / m) 0 c.row)
    (let first : 0 + k / m ≡ k / m = omega arith in
    rw (first, choice-test shape vs at (k % m) below.1 c.column, eq-swap (at v) (k / m))
    (sym (same-place m k (at v) (place_of shape vs at) (place-below shape vs at below.1))))

-- some categories are those of their place alone
pub list-test : (shape vars : List ℕ) (at : ℕ → ℕ) (k : ℕ) (e : List ℕ) → EachBelow at (slice_index shape) vars → k < length (category_lists shape vars)
    → bytes_eq (map at vars) (get_or (category_lists shape vars) k e) ≡ (k == place_of shape vars at)
list-test shape vars at k e below inside =
    let lists = map (λ v. range_with_len 0 (slice_index shape v)) vars in
    let within : k < product (map length lists) = omega (arith, inside, length-row_major lists) in
    let here : k < cell_count shape vars = omega (arith, inside, length-lists shape vars) in
    ap (bytes_eq (map at vars)) (get_or-row_major lists k 0 e within) ∙ choice-test shape vars at k below here

pub place-test : (shape vars : List ℕ) (r : Record) (k : ℕ) (e : List ℕ) → EachBelow (category_at r) (slice_index shape) vars → k < length (category_lists shape vars)
    → bytes_eq (map (category_at r) vars) (get_or (category_lists shape vars) k e) ≡ (k == place_of shape vars (category_at r))
place-test shape vars r k e below inside = list-test shape vars (category_at r) k e below inside

-- a record that fits the shape leads into the cube
below-all : (n : ℕ) (vars : List ℕ) → AllByRecursion (λ v. v < n) vars → AllBelow n vars
below-all n [] all = tt
below-all n (v ∷ vs) all = (all.0, below-all n vs all.1)

all-below : (n : ℕ) (vars : List ℕ) → All (λ v. v < n) vars → AllBelow n vars
all-below n vars all = below-all n vars (recursion_from_All (λ v. v < n) vars all)

pub there-at : (shape vars : List ℕ) → All (λ v. v < length shape) vars → (k : ℕ) → k < length vars → get_or vars k 0 < length shape
there-at shape vars there k below = there k 0 below

pub all-fit : (shape vars : List ℕ) (rs : List Record) → All (λ v. v < length shape) vars → All (Fits shape) rs → AllWithin shape vars rs
all-fit shape vars rs there fit = AllWithin-from_Fits shape vars rs (all-below (length shape) vars there) (recursion_from_All (Fits shape) rs fit)

pub one-fits : (shape vars : List ℕ) (r : Record) → All (λ v. v < length shape) vars → Fits shape r → EachBelow (category_at r) (slice_index shape) vars
one-fits shape vars r there fits = (AllWithin-from_Fits shape vars (r ∷ []) (all-below (length shape) vars there) (fits, tt)).0

axes-there : (shape vars : List ℕ) (r : Record) → AllBelow (length shape) vars → length r.codes ≡ length shape → AllByRecursion (λ (a : Axis). a.variable < length r.codes) (axes_of shape vars)
axes-there shape [] r there long = tt
axes-there shape (v ∷ vs) r there long = (omega (arith, there.0, long), axes-there shape vs r there.1 long)

pub leads : (shape vars : List ℕ) (r : Record) → All (λ v. v < length shape) vars → cell_count shape vars ≤ MOST_CELLS → Fits shape r → LeadsBelow (cell_count shape vars) (axes_of shape vars) r
leads shape vars r there few fits =
    let below = one-fits shape vars r there fits in
    record {
      there = All-from_recursion (λ (a : Axis). a.variable < length r.codes) (axes_of shape vars) (axes-there shape vars r (all-below (length shape) vars there) fits.long);
      low = omega (arith, number-place shape vars (category_at r) below few, place-below shape vars (category_at r) below);
    }

pub leads-wider : (low high : ℕ) (axes : List Axis) (r : Record) → low ≤ high → LeadsBelow low axes r → LeadsBelow high axes r
leads-wider low high axes r less lead = record { there = lead.there; low = omega (arith, lead.low, less) }

-- the number of a record's cell in a cube as it is kept
pub record Leads (cube : CubeValue) (axes : List Axis) (r : Record) : Type 0 where
  pub below : EachBelow (category_at r) (slice_index cube.shape) cube.vars
  pub lead : LeadsBelow (length cube.cells) axes r
  pub low : LeadsBelow MOST_CELLS axes r
  pub number : number_by axes (category_at r) ≡ place_of cube.shape cube.vars (category_at r)

pub leads-in : (cube : CubeValue) (axes : List Axis) (r : Record) → IsCube cube axes → Fits cube.shape r → Leads cube axes r
leads-in cube axes r is fits =
    let few : cell_count cube.shape cube.vars ≤ MOST_CELLS = omega (arith, is.whole.long, is.whole.few) in
    let below = one-fits cube.shape cube.vars r is.whole.there fits in
    let lead : LeadsBelow (length cube.cells) axes r = rw (is.axes_are, is.whole.long) (leads cube.shape cube.vars r is.whole.there few fits) in
    record {
      below = below;
      lead = lead;
      low = leads-wider (length cube.cells) MOST_CELLS axes r is.whole.few lead;
      number = rw is.axes_are (number-place cube.shape cube.vars (category_at r) below few);
    }
