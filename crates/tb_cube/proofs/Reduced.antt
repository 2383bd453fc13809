-- Key sums of cells stay below the largest key range.
use Rattle.std.proofs.Common.{◌≡◌, ℕ, ◌+◌, ◌%◌, ◌<◌, List, [], ◌∷◌, length, get_or, set, replicate, ap, sym, subst, ◌∙◌, inl, inr, arith}
use Rattle.std.specs.Prelude.{All}
use Rattle.std.specs.List.{AllByRecursion}
use Rattle.std.specs.Vec.{with_items}
use Rattle.std.specs.declared.alloc.Global.{Global}
use Rattle.std.specs.declared.vec.Vec.{Vec}
use Rattle.std.proofs.lemmas.Bool.Decides.{eqb_tells}
use Rattle.std.proofs.lemmas.List.{length-set, length-replicate, get_or-set_same, get_or-set_other, get_or-replicate, get_or_default, with_items_is}
use Rattle.std.proofs.lemmas.List.Elements.{All-from_recursion}
use Rattle.std.proofs.lemmas.Nat.{mod_below}
use Rattle.tb_base.specs.declared.records.Record.{Record}
use Rattle.tb_base.specs.declared.cells.Cell.{Cell}
use Rattle.tb_base.specs.declared.keys.TheConstants.{MOST_KEYS}
use Rattle.tb_base.specs.Cells.{empty_cell, merged, merged_all, with_key, without_key, IsReduced}
use Rattle.tb_base.specs.Parts.{modulus, part_at, Part}
use Rattle.tb_base.specs.Parts.Part.{keys}
use Rattle.tb_base.specs.Records.{category_at}
use Rattle.tb_cube.specs.declared.axes.Axis.{Axis}
use Rattle.tb_cube.specs.declared.packing.Form.{Form}
use Rattle.tb_cube.specs.declared.packing.Form.TheVariants.{Dense}
use Rattle.tb_cube.specs.Axes.{number_by, with_all, IsCube}
use Rattle.tb_cube.specs.Forms.{seen_as, IsKeptCube}

-- one cell is changed
pub reduced-set : (cells : List Cell) (i : ℕ) (new : Cell) → All IsReduced cells → IsReduced new → All IsReduced (set cells i new)
reduced-set cells i new are is k d below =
    let within : k < length cells = omega (arith, below, length-set cells i new) in
    elim (eqb_tells k i) [
      | inl h ↦ rw (h.1, get_or-set_same cells i new d (omega (arith, within, h.1))) is
      | inr h ↦ rw (get_or-set_other cells i k new d h.1) (are k d within)
    ]

pub reduced-with_key : (cell : Cell) (key : ℕ) → IsReduced (with_key cell key)
reduced-with_key cell key = mod_below (cell.key + key) MOST_KEYS (omega arith)

pub reduced-without_key : (cell : Cell) (key : ℕ) → IsReduced (without_key cell key)
reduced-without_key cell key = mod_below _ MOST_KEYS (omega arith)

pub reduced-merged : (a b : Cell) → IsReduced (merged a b)
reduced-merged a b = mod_below (a.key + b.key) MOST_KEYS (omega arith)

-- records are put in one after another
pub reduced-with_all : (axes : List Axis) (cells : List Cell) (rs : List Record) → All IsReduced cells → All IsReduced (with_all axes cells rs)
reduced-with_all axes cells [] are = are
reduced-with_all axes cells (r ∷ rs) are =
    let n : ℕ = number_by axes (category_at r) in
    let new : Cell = with_key (get_or cells n empty_cell) r.key in
    reduced-with_all axes (set cells n new) rs (reduced-set cells n new are (reduced-with_key (get_or cells n empty_cell) r.key))

-- cells are merged
pub reduced-merged_all : (xs ys : List Cell) → All IsReduced (merged_all xs ys)
reduced-merged_all xs ys = All-from_recursion IsReduced (merged_all xs ys) (each xs ys)
  where
    each : (xs ys : List Cell) → AllByRecursion IsReduced (merged_all xs ys)
    each [] ys = tt
    each (x ∷ xs) [] = tt
    each (x ∷ xs) (y ∷ ys) = (reduced-merged x y, each xs ys)

-- there is no record
pub reduced-empty : (n : ℕ) (cells : List Cell) → cells ≡ replicate n empty_cell → All IsReduced cells
reduced-empty n cells is k d below =
    let low : k < n = omega (arith, below, ap length is, length-replicate n empty_cell) in
    rw (is, get_or-replicate n k empty_cell d low) (omega arith)

-- each part is a sum modulo its modulus
pub reduced-sums : (cells : List Cell) (sums : Part → ℕ → ℕ) → ((p : Part) (i : ℕ) → i < length cells → part_at p cells i ≡ sums p i % modulus p) → All IsReduced cells
reduced-sums cells sums are i d below =
    rw (get_or_default cells i d empty_cell below, are keys i below) (mod_below (sums keys i) MOST_KEYS (omega arith))

-- a dense cube whose cells are changed
pub still-cube : (shape vars : List ℕ) (axes : List Axis) (form : Form) (old : Vec Cell Global) (new : List Cell) → IsKeptCube shape vars axes form → form ≡ Dense old → length new ≡ length old.items → All IsReduced new
    → IsKeptCube shape vars axes (Dense (with_items old new))
still-cube shape vars axes form old new is dense same reduced =
    let were : IsCube (seen_as shape vars (Dense old)) axes = subst (λ (f : Form). IsCube (seen_as shape vars f) axes) dense is.cube in
    let are : (with_items old new).items ≡ new = with_items_is old new (omega (arith, same)) in
    record {
      cube = record {
        whole = record {
          ascending = were.whole.ascending;
          there = were.whole.there;
          long = ap length are ∙ same ∙ were.whole.long;
          few = omega (arith, ap length are, same, were.whole.few);
          reduced = subst (All IsReduced) (sym are) reduced;
        };
        axes_are = were.axes_are;
      };
      kept = tt;
    }
