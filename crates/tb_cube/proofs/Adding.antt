-- Records that are put in one after another are merged.
use Rattle.std.proofs.Common.{◌≡◌, ℕ, ◌+◌, ◌<◌, ◌≤◌, ◌-◌, ◌^◌, Bool, true, List, [], ◌∷◌, length, map, drop, get_or, set, refl, ap, sym, subst, ◌∙◌, inl, inr, arith}
use Rattle.std.specs.Prelude.{◌==◌, bytes_eq, replicate, All}
use Rattle.std.specs.List.{filter}
use Rattle.std.proofs.lemmas.Bool.Decides.{eqb_tells}
use Rattle.std.proofs.lemmas.List.{length-map, length-set, get_or-set_same, get_or-set_other, ext_get_or, drop_more}
use Rattle.tb_base.specs.declared.records.Record.{Record}
use Rattle.tb_base.specs.declared.cells.Cell.{Cell}
use Rattle.tb_base.specs.Cells.{empty_cell, with_key, merged, merged_all, cell_of, IsReduced}
use Rattle.tb_base.specs.Records.{category_at, Fits}
use Rattle.tb_base.proofs.CellLemmas.{merged-none}
use Rattle.tb_base.proofs.CellsBy.{first-record, get_or-cells_by, put-either, put_if, set_at}
use Rattle.tb_model.specs.Cubes.{category_lists, cube_of}
use Rattle.tb_model.proofs.CubeLemmas.{AllWithin}
use Rattle.tb_grid.specs.declared.products.TheConstants.{MOST_CELLS}
use Rattle.tb_grid.proofs.Merges.{length-merged_all, get_or-merged_all}
use Rattle.tb_cube.specs.declared.axes.Axis.{Axis}
use Rattle.tb_cube.specs.Cubes.{place_of, cell_count, CubeValue}
use Rattle.tb_cube.specs.Axes.{axes_of, number_by, with_all, LeadsBelow, IsCube}
use Rattle.tb_cube.proofs.Grid.{place-below, number-place, place-test, length-lists, all-fit, leads-in}
use Rattle.tb_cube.proofs.Reduced.{reduced-set, reduced-with_key}

pub get_or-cube_of : (shape vars : List ℕ) (rs : List Record) (k : ℕ) (e : List ℕ) → k < length (category_lists shape vars)
    → get_or (cube_of shape vars rs) k empty_cell ≡ cell_of (filter (λ r. bytes_eq (map (category_at r) vars) (get_or (category_lists shape vars) k e)) rs)
get_or-cube_of shape vars rs k e below = get_or-cells_by (λ c r. bytes_eq (map (category_at r) vars) c) (category_lists shape vars) rs k e empty_cell below

pub length-cube_of : (shape vars : List ℕ) (rs : List Record) → length (cube_of shape vars rs) ≡ length (category_lists shape vars)
length-cube_of shape vars rs = length-map (category_lists shape vars) (λ c. cell_of (filter (λ r. bytes_eq (map (category_at r) vars) c) rs))

pub with_all-cube_of : (shape vars : List ℕ) (cells : List Cell) (rs : List Record) → All IsReduced cells → length cells ≡ cell_count shape vars → cell_count shape vars ≤ MOST_CELLS → AllWithin shape vars rs
    → with_all (axes_of shape vars) cells rs ≡ merged_all cells (cube_of shape vars rs)
with_all-cube_of shape vars cells [] are long few fit =
    let same : length cells ≡ length (cube_of shape vars []) = long ∙ sym (length-cube_of shape vars [] ∙ length-lists shape vars) in
    ext_get_or empty_cell cells (merged_all cells (cube_of shape vars [])) (sym (length-merged_all cells (cube_of shape vars []) same)) (λ k below.
    let inside : k < length (category_lists shape vars) = omega (arith, below, long, length-lists shape vars) in
    sym (get_or-merged_all cells (cube_of shape vars []) k empty_cell same below ∙ ap (merged (get_or cells k empty_cell)) (get_or-cube_of shape vars [] k [] inside) ∙ merged-none (get_or cells k empty_cell) (are k empty_cell below)))
with_all-cube_of shape vars cells (r ∷ rs) are long few fit =
    let n : ℕ = place_of shape vars (category_at r) in
    let number : number_by (axes_of shape vars) (category_at r) ≡ n = number-place shape vars (category_at r) fit.0 few in
    let here : n < length cells = omega (arith, place-below shape vars (category_at r) fit.0, long) in
    let next : List Cell = set cells n (with_key (get_or cells n empty_cell) r.key) in
    let still : length next ≡ length cells = length-set cells n (with_key (get_or cells n empty_cell) r.key) in
    let rest : length cells ≡ length (cube_of shape vars rs) = long ∙ sym (length-cube_of shape vars rs ∙ length-lists shape vars) in
    let all : length cells ≡ length (cube_of shape vars (r ∷ rs)) = long ∙ sym (length-cube_of shape vars (r ∷ rs) ∙ length-lists shape vars) in
    ap (λ i. with_all (axes_of shape vars) (set cells i (with_key (get_or cells i empty_cell) r.key)) rs) number
    ∙ with_all-cube_of shape vars next rs (reduced-set cells n (with_key (get_or cells n empty_cell) r.key) are (reduced-with_key (get_or cells n empty_cell) r.key)) (still ∙ long) few fit.1
    ∙ ext_get_or empty_cell (merged_all next (cube_of shape vars rs)) (merged_all cells (cube_of shape vars (r ∷ rs)))
    (length-merged_all next (cube_of shape vars rs) (still ∙ rest) ∙ still ∙ sym (length-merged_all cells (cube_of shape vars (r ∷ rs)) all)) (λ k below.
    let within : k < length cells = omega (arith, below, length-merged_all next (cube_of shape vars rs) (still ∙ rest), still) in
    let inside : k < length (category_lists shape vars) = omega (arith, within, long, length-lists shape vars) in
    let p : Record → Bool = λ x. bytes_eq (map (category_at x) vars) (get_or (category_lists shape vars) k []) in
    let cell : Cell = get_or cells k empty_cell in
    get_or-merged_all next (cube_of shape vars rs) k empty_cell (still ∙ rest) (omega (arith, within, still))
    ∙ ap (λ x. merged x (get_or (cube_of shape vars rs) k empty_cell)) (set_at cells n k empty_cell r.key here)
    ∙ put-either (k == n) r.key cell (get_or (cube_of shape vars rs) k empty_cell)
    ∙ ap (λ y. merged cell (put_if (k == n) r.key y)) (get_or-cube_of shape vars rs k [] inside)
    ∙ ap (merged cell) (sym (get_or-cube_of shape vars (r ∷ rs) k [] inside ∙ first-record p r rs (k == n) (place-test shape vars r k [] fit.0 inside)))
    ∙ sym (get_or-merged_all cells (cube_of shape vars (r ∷ rs)) k empty_cell all within))

-- records put into a cube as it is kept
pub put-cube : (cube : CubeValue) (axes : List Axis) (rs : List Record) → IsCube cube axes → All (Fits cube.shape) rs
    → with_all axes cube.cells rs ≡ merged_all cube.cells (cube_of cube.shape cube.vars rs)
put-cube cube axes rs is fit =
    let few : cell_count cube.shape cube.vars ≤ MOST_CELLS = omega (arith, is.whole.long, is.whole.few) in
    ap (λ (xs : List Axis). with_all xs cube.cells rs) is.axes_are
    ∙ with_all-cube_of cube.shape cube.vars cube.cells rs is.whole.reduced is.whole.long few (all-fit cube.shape cube.vars rs is.whole.there fit)

pub all-lead : (cube : CubeValue) (axes : List Axis) (rs : List Record) → IsCube cube axes → All (Fits cube.shape) rs → All (LeadsBelow (length cube.cells) axes) rs
all-lead cube axes rs is fit = λ k d below. (leads-in cube axes (get_or rs k d) is (fit k d below)).lead

-- the cube of no records
map-same : {X Y : Type 0} (y : Y) (xs : List X) → replicate (length xs) y ≡ map (λ (_ : X). y) xs
map-same y [] = refl
map-same y (x ∷ xs) = ap (λ ys. y ∷ ys) (map-same y xs)

pub cube-empty : (shape vars : List ℕ) (n : ℕ) → n ≡ cell_count shape vars → replicate n empty_cell ≡ cube_of shape vars []
cube-empty shape vars n e = ap (λ k. replicate k empty_cell) (e ∙ sym (length-lists shape vars)) ∙ map-same empty_cell (category_lists shape vars)

pub made-cube : {shape shape' vars vars' : List ℕ} {cells cells' : List Cell} → shape ≡ shape' → vars ≡ vars' → cells ≡ cells'
    → ◌≡◌ {A = CubeValue} (record { shape = shape; vars = vars; cells = cells; dense = true }) (record { shape = shape'; vars = vars'; cells = cells'; dense = true })
made-cube s v c = rw (s, v, c) refl

-- what holds of each element holds of the one at a place
pub at-item : {X : Type 0} (P : X → Type 0) (xs : List X) (i : ℕ) (x : X) → All P xs → i < length xs → x ≡ get_or xs i x → P x
at-item P xs i x all below is = subst P (sym is) (all i x below)

-- the number of a record's cell, which is there
pub record Number (axes : List Axis) (cells : ℕ) (r : Record) (number : ℕ) : Type 0 where
  pub is : number ≡ number_by axes (category_at r)
  pub there : number < cells

-- of the record at a place of a piece
pub number-any : (axes : List Axis) (start cells : List Cell) (piece : List Record) (i : ℕ) (r : Record) → All (LeadsBelow (length start) axes) piece → i < length piece → r ≡ get_or piece i r
    → length cells ≡ length start → (n : ℕ) → n ≡ number_by axes (category_at r) → Number axes (length cells) r n
number-any axes start cells piece i r lead below at long n is = record {
  is = is;
  there = omega (arith, (at-item (LeadsBelow (length start) axes) piece i r lead below at).low, is, long);
}

-- one turn of a loop that puts records in: those that are left make the cells whole
pub rest-put : (axes : List Axis) (start cells : List Cell) (piece : List Record) (i number : ℕ) (r : Record) (new : Cell) → i < length piece → r ≡ get_or piece i r
    → number ≡ number_by axes (category_at r) → new ≡ with_key (get_or cells number empty_cell) r.key → with_all axes cells (drop i piece) ≡ with_all axes start piece
    → with_all axes (set cells number new) (drop (i + 1) piece) ≡ with_all axes start piece
rest-put axes start cells piece i number r new below is at made so_far =
    let split : drop i piece ≡ r ∷ drop (i + 1) piece = drop_more piece i r below ∙ ap (λ x. x ∷ drop (i + 1) piece) (sym is) in
    let put : ℕ → List Cell = λ n. set cells n (with_key (get_or cells n empty_cell) r.key) in
    ap (λ x. with_all axes (set cells number x) (drop (i + 1) piece)) made
    ∙ ap (λ n. with_all axes (put n) (drop (i + 1) piece)) at
    ∙ sym (ap (with_all axes cells) split) ∙ so_far

-- and there is room for them
pub room-left : (cells : List Cell) (number i long key : ℕ) (new : Cell) → number < length cells → i < long → All (λ (c : Cell). c.count + (long - i) < 2 ^ 32) cells
    → new ≡ with_key (get_or cells number empty_cell) key → All (λ (c : Cell). c.count + (long - (i + 1)) < 2 ^ 32) (set cells number new)
room-left cells number i long key new there below room made k d low =
    let here = room number empty_cell there in
    let was = room k d (omega (arith, low, length-set cells number new)) in
    elim (eqb_tells k number) [
      | inl h ↦ rw (h.1, get_or-set_same cells number new d there, made) (omega (arith, here, below))
      | inr h ↦ rw (get_or-set_other cells number k new d h.1) (omega (arith, was))
    ]

-- the cell with one record more, which there is room for
pub made-with : (cells : List Cell) (number i long key : ℕ) (new : Cell) → number < length cells → i < long → All (λ (c : Cell). c.count + (long - i) < 2 ^ 32) cells
    → ((get_or cells number empty_cell).count + 1 < 2 ^ 32 → new ≡ with_key (get_or cells number empty_cell) key) → new ≡ with_key (get_or cells number empty_cell) key
made-with cells number i long key new there below room exact = exact (omega (arith, room number empty_cell there, below))
