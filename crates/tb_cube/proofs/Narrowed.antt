-- The cells of a walk among fewer variables are the narrowed ones.
use Rattle.std.proofs.Common.{◌≡◌, ℕ, ◌+◌, ◌%◌, ◌<◌, ◌≤◌, Bool, true, cond, List, [], length, map, get_or, replicate, refl, ap, sym, ◌∙◌, arith}
use Rattle.std.specs.Prelude.{◌==◌, bytes_eq, All}
use Rattle.std.specs.List.{sum_by, zip}
use Rattle.std.specs.List.Sorted.{IsStrictlyIncreasing}
use Rattle.std.proofs.lemmas.List.{length-map, length-replicate, get_or-map, get_or-replicate, ext_get_or}
use Rattle.tb_base.specs.declared.cells.Cell.{Cell}
use Rattle.tb_base.specs.declared.people.TheConstants.{MOST_PERSONS}
use Rattle.tb_base.specs.declared.records.Record.{Record}
use Rattle.tb_base.specs.Cells.{empty_cell, IsReduced}
use Rattle.tb_base.specs.Records.{Fits}
use Rattle.tb_base.specs.Sets.{includes_all}
use Rattle.tb_base.specs.Parts.{Part, part, part_at, modulus}
use Rattle.tb_base.proofs.PartLemmas.{same-cell}
use Rattle.tb_model.specs.Cubes.{category_lists, category_in, merged_where, narrowed}
use Rattle.tb_model.proofs.CubeLemmas.{narrowed-cube_of}
use Rattle.tb_grid.specs.declared.products.TheConstants.{MOST_CELLS}
use Rattle.tb_cube.specs.declared.narrowing.Step.{Step}
use Rattle.tb_cube.specs.declared.axes.Axis.{Axis}
use Rattle.tb_cube.specs.Axes.{axes_of, IsCube}
use Rattle.tb_cube.specs.Cubes.{cell_count, cube_over, narrowed_to, CubeValue, Holds, IsWhole}
use Rattle.tb_cube.specs.Narrowing.{forks_of, steps_of}
use Rattle.tb_cube.specs.Walks.{count_of, spread}
use Rattle.tb_cube.proofs.Grid.{all-fit, length-lists}
use Rattle.tb_cube.proofs.Lists.{distinct, Distinct, FitsList, lists-fit, part-where, zip-ext}
use Rattle.tb_cube.proofs.Walks.{lead, spread-zip}
use Rattle.tb_cube.proofs.Leading.{count-of-forks, forks_to, includes-each, leads-to, lists-of-forks, there-fewer}

-- cells are narrowed, where each part is what the walk adds at its place
pub narrowed-by : (shape vars fewer : List ℕ) (cube cells : List Cell) → Distinct vars → Distinct fewer → includes_all vars fewer ≡ true → cell_count shape fewer ≤ MOST_CELLS
    → sum_by (λ c. c.count) cube ≤ MOST_PERSONS → length cube ≡ cell_count shape vars → length cells ≡ cell_count shape fewer
    → ((p : Part) (i : ℕ) → i < length cells → part_at p cells i ≡ spread (forks_to shape fewer vars) (part_at p cube) 0 0 i % modulus p)
    → cells ≡ narrowed shape vars fewer cube
narrowed-by shape vars fewer cube cells apart other among few total long size value =
    let cell_for : List ℕ → Cell = λ c. merged_where (λ at. bytes_eq (map at fewer) c) shape vars cube in
    let lists : List (List ℕ) = category_lists shape fewer in
    ext_get_or empty_cell cells (narrowed shape vars fewer cube) (size ∙ sym (length-map lists cell_for ∙ length-lists shape fewer)) (λ i below.
    let inside : i < length lists = omega (arith, below, size, length-lists shape fewer) in
    let test : (ℕ → ℕ) → Bool = λ at. bytes_eq (map at fewer) (get_or lists i []) in
    let here : get_or (narrowed shape vars fewer cube) i empty_cell ≡ cell_for (get_or lists i []) = get_or-map cell_for lists i [] empty_cell inside in
    same-cell (get_or cells i empty_cell) (get_or (narrowed shape vars fewer cube) i empty_cell) (λ p.
    value p i below
    ∙ ap (λ s. s % modulus p) (spread-zip (forks_to shape fewer vars) p cube i (long ∙ sym (count-of-forks shape fewer vars))
    ∙ ap (λ L. sum_by (λ q. cond (lead (forks_to shape fewer vars) q.0 == i) (part p q.1) 0) (zip L cube)) (lists-of-forks shape fewer vars)
    ∙ zip-ext (FitsList shape vars) (λ q. cond (lead (forks_to shape fewer vars) q.0 == i) (part p q.1) 0) (λ q. cond (test (category_in vars q.0)) (part p q.1) 0) (category_lists shape vars) cube (lists-fit shape vars)
    (λ x c fits. ap (λ b. cond b (part p c) 0) (leads-to shape vars x fewer i fits apart other among few inside)))
    ∙ sym (ap (part p) here ∙ part-where p test shape vars cube (omega (arith, total)))))

-- a part of a cell that was empty before something was added to it
pub from-empty : (m old mid new x : ℕ) → old ≡ 0 → mid % m ≡ (old + x) % m → new ≡ mid % m → new ≡ x % m
from-empty m old mid new x none made reduced =
    let drop-old : old + x ≡ x = omega arith in
    reduced ∙ made ∙ ap (λ y. y % m) drop-old

-- as many empty cells as there are places are all empty
pub all-empty : (cells : List Cell) (n : ℕ) → cells ≡ replicate n empty_cell → All (λ (c : Cell). c ≡ empty_cell) cells
all-empty cells n is k d below =
    let low : k < n = omega (arith, below, ap length is, length-replicate n empty_cell) in
    ap (λ (xs : List Cell). get_or xs k d) is ∙ get_or-replicate n k empty_cell d low

-- a cube narrowed by the steps of its variables
pub cube-narrowed : (cube : CubeValue) (fewer : List ℕ) (steps : List Step) (all cells : List Cell) → IsWhole cube → IsStrictlyIncreasing fewer → includes_all cube.vars fewer ≡ true
    → sum_by (λ c. c.count) cube.cells ≤ MOST_PERSONS → cell_count cube.shape fewer ≤ MOST_CELLS
    → steps ≡ steps_of cube.shape (axes_of cube.shape fewer) cube.vars → all ≡ cube.cells → length cells ≡ cell_count cube.shape fewer
    → ((p : Part) (i : ℕ) → i < length cells → part_at p cells i ≡ spread (forks_of steps) (part_at p all) 0 0 i % modulus p)
    → cells ≡ narrowed cube.shape cube.vars fewer cube.cells
cube-narrowed cube fewer steps all cells whole ascending among total few are from size value =
    narrowed-by cube.shape cube.vars fewer cube.cells cells (distinct cube.vars whole.ascending) (distinct fewer ascending) among few total whole.long size
    (λ p i below. value p i below
    ∙ ap (λ (ss : List Step). spread (forks_of ss) (part_at p all) 0 0 i % modulus p) are
    ∙ ap (λ (cs : List Cell). spread (forks_to cube.shape fewer cube.vars) (part_at p cs) 0 0 i % modulus p) from)

-- there is a cell for each list of categories of the steps
pub whole-steps : (cube : CubeValue) (fewer : List ℕ) (steps : List Step) (all : List Cell) → IsWhole cube
    → steps ≡ steps_of cube.shape (axes_of cube.shape fewer) cube.vars → all ≡ cube.cells → length all ≡ count_of (forks_of steps)
whole-steps cube fewer steps all whole are from =
    ap length from ∙ whole.long ∙ sym (ap (λ (ss : List Step). count_of (forks_of ss)) are ∙ count-of-forks cube.shape fewer cube.vars)

-- narrowed from the cube of some records: counted from scratch
pub narrowed-held : (cube : CubeValue) (fewer : List ℕ) (records : List Record) → IsWhole cube → includes_all cube.vars fewer ≡ true → All (Fits cube.shape) records → Holds cube records
    → narrowed_to fewer cube ≡ cube_over cube.shape fewer records
narrowed-held cube fewer records whole among fit held =
    ap (λ (cells : List Cell). record cube { vars = fewer; cells = cells; dense = true })
    (ap (narrowed cube.shape cube.vars fewer) held
    ∙ narrowed-cube_of cube.shape cube.vars fewer records (all-fit cube.shape cube.vars records whole.there fit) (includes-each cube.vars fewer among))

-- what is made of them is a cube
pub cube-made : (cube : CubeValue) (fewer shape vars : List ℕ) (cells : List Cell) (axes : List Axis) → IsWhole cube → IsStrictlyIncreasing fewer → includes_all cube.vars fewer ≡ true
    → shape ≡ cube.shape → vars ≡ fewer → axes ≡ axes_of cube.shape fewer → length cells ≡ cell_count cube.shape fewer → cell_count cube.shape fewer ≤ MOST_CELLS → All IsReduced cells
    → IsCube (record { shape = shape; vars = vars; cells = cells; dense = true }) axes
cube-made cube fewer shape vars cells axes whole ascending among same same' are size few reduced =
    rw (same, same', are) (record {
      whole = record {
        ascending = ascending;
        there = there-fewer (length cube.shape) cube.vars fewer whole.there among;
        long = size;
        few = omega (arith, size, few);
        reduced = reduced;
      };
      axes_are = refl;
    })
