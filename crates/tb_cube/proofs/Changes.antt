-- A record that is put in, or taken out again.
use Rattle.std.proofs.Common.{◌≡◌, ℕ, zero, suc, ◌<◌, Bool, true, false, cond, Bor, Option, Some, None, List, [], ◌∷◌, ◌++◌, length, map, get_or, set, refl, ap, sym, subst, ◌∙◌, inl, inr, arith}
use Rattle.std.specs.Prelude.{◌==◌, bytes_eq, slice_index}
use Rattle.std.specs.Option.{ForSome, option_copied, option_to_list}
use Rattle.std.specs.List.{filter, zip, sum_by, AllByRecursion}
use Rattle.std.proofs.lemmas.Bool.Decides.{eqb_tells}
use Rattle.std.proofs.lemmas.List.{length-map, length-set, get_or-set_same, get_or-set_other, ext_get_or, get_or_read}
use Rattle.std.proofs.lemmas.Nat.{mod_below}
use Rattle.tb_base.specs.declared.records.Record.{Record}
use Rattle.tb_base.specs.declared.cells.Cell.{Cell}
use Rattle.tb_base.specs.declared.keys.TheConstants.{MOST_KEYS}
use Rattle.tb_base.specs.Cells.{empty_cell, without_key, merged_all}
use Rattle.tb_base.specs.Records.{category_at, Fits}
use Rattle.tb_base.proofs.CellLemmas.{without_key-with_key}
use Rattle.tb_base.proofs.CellsBy.{cells_by, cells_by-insert, put_if}
use Rattle.tb_model.specs.Cubes.{category_lists, cube_of}
use Rattle.tb_model.proofs.RollUp.{EachBelow}
use Rattle.tb_model.proofs.CubeLemmas.{cube_of-append}
use Rattle.tb_cube.specs.Cubes.{place_of, cell_count, changed_for, count_for, merged_with, put_in, taken_out, CubeValue, CanTakeOut, Holds, IsWhole}
use Rattle.tb_cube.proofs.Grid.{one-fits, place-below, place-test, length-lists}

length-map-zip : {X Y Z : Type 0} (f : X × Y → Z) (xs : List X) (ys : List Y) → length xs ≡ length ys → length (map f (zip xs ys)) ≡ length ys
length-map-zip f [] [] e = refl
length-map-zip f [] (y ∷ ys) e = absurd (omega (arith, e))
length-map-zip f (x ∷ xs) [] e = absurd (omega (arith, e))
length-map-zip f (x ∷ xs) (y ∷ ys) e = ap suc (length-map-zip f xs ys (omega (arith, e)))

get_or-map-zip : {X Y Z : Type 0} (f : X × Y → Z) (xs : List X) (ys : List Y) (k : ℕ) (x : X) (y : Y) (z : Z) → length xs ≡ length ys → k < length ys → get_or (map f (zip xs ys)) k z ≡ f (get_or xs k x, get_or ys k y)
get_or-map-zip f [] [] k x y z e below = absurd (omega arith)
get_or-map-zip f [] (b ∷ ys) k x y z e below = absurd (omega (arith, e))
get_or-map-zip f (a ∷ xs) [] k x y z e below = absurd (omega arith)
get_or-map-zip f (a ∷ xs) (b ∷ ys) zero x y z e below = refl
get_or-map-zip f (a ∷ xs) (b ∷ ys) (suc k) x y z e below = get_or-map-zip f xs ys k x y z (omega (arith, e)) (omega arith)

-- the cell at a record's place is that of its categories
pub set-changed : (change : Cell → Cell) (cube : CubeValue) (r : Record) → EachBelow (category_at r) (slice_index cube.shape) cube.vars → length cube.cells ≡ cell_count cube.shape cube.vars
    → set cube.cells (place_of cube.shape cube.vars (category_at r)) (change (get_or cube.cells (place_of cube.shape cube.vars (category_at r)) empty_cell)) ≡ (changed_for change r cube).cells
set-changed change cube r below long =
    let n : ℕ = place_of cube.shape cube.vars (category_at r) in
    let lists : List (List ℕ) = category_lists cube.shape cube.vars in
    let new : Cell = change (get_or cube.cells n empty_cell) in
    let f : List ℕ × Cell → Cell = λ p. cond (bytes_eq (map (category_at r) cube.vars) p.0) (change p.1) p.1 in
    let same : length lists ≡ length cube.cells = length-lists cube.shape cube.vars ∙ sym long in
    let here : n < length cube.cells = omega (arith, place-below cube.shape cube.vars (category_at r) below, long) in
    ext_get_or empty_cell (set cube.cells n new) (map f (zip lists cube.cells)) (length-set cube.cells n new ∙ sym (length-map-zip f lists cube.cells same)) (λ k low.
    let within : k < length cube.cells = omega (arith, low, length-set cube.cells n new) in
    let inside : k < length lists = omega (arith, within, same) in
    let test : bytes_eq (map (category_at r) cube.vars) (get_or lists k []) ≡ (k == n) = place-test cube.shape cube.vars r k [] below inside in
    let right : get_or (map f (zip lists cube.cells)) k empty_cell ≡ cond (k == n) (change (get_or cube.cells k empty_cell)) (get_or cube.cells k empty_cell) =
    get_or-map-zip f lists cube.cells k [] empty_cell empty_cell same within ∙ ap (λ b. cond b (change (get_or cube.cells k empty_cell)) (get_or cube.cells k empty_cell)) test in
    elim (eqb_tells k n) [
      | inl h ↦ sym (right ∙ rw (h.0, h.1, get_or-set_same cube.cells n new empty_cell here) refl)
      | inr h ↦ get_or-set_other cube.cells n k new empty_cell h.1 ∙ sym (right ∙ ap (λ b. cond b (change (get_or cube.cells k empty_cell)) (get_or cube.cells k empty_cell)) h.0)
    ])

-- the keys of counted cells are keys
keys-cells_by : {G : Type 0} (test : G → Record → Bool) (groups : List G) (rs : List Record) → AllByRecursion (λ (c : Cell). c.key < MOST_KEYS) (cells_by test groups rs)
keys-cells_by test [] rs = tt
keys-cells_by test (g ∷ groups) rs = (mod_below (sum_by (λ (r : Record). r.key) (filter (test g) rs)) MOST_KEYS (omega arith), keys-cells_by test groups rs)

-- a record that was put into its cell is taken out again
one-out : (b : Bool) (key : ℕ) (c : Cell) → c.key < MOST_KEYS → key < MOST_KEYS → cond b (without_key (put_if b key c) key) (put_if b key c) ≡ c
one-out true key c small below = without_key-with_key c key small below
one-out false key c small below = refl

all-out : {G : Type 0} (test : G → Bool) (key : ℕ) (groups : List G) (cells : List Cell) → length groups ≡ length cells → key < MOST_KEYS → AllByRecursion (λ (c : Cell). c.key < MOST_KEYS) cells
    → map (λ (p : G × Cell). cond (test p.0) (without_key p.1 key) p.1) (zip groups (map (λ (q : G × Cell). put_if (test q.0) key q.1) (zip groups cells))) ≡ cells
all-out test key [] [] e below small = refl
all-out test key [] (c ∷ cells) e below small = absurd (omega (arith, e))
all-out test key (g ∷ groups) [] e below small = absurd (omega (arith, e))
all-out test key (g ∷ groups) (c ∷ cells) e below small =
    rw (one-out (test g) key c small.0 below, all-out test key groups cells (omega (arith, e)) below small.1) refl

-- a cube that holds some records, with one put in, and with one of them taken out
pub held-put : (cube : CubeValue) (new : Option Record) (first rest : List Record) → Holds cube (first ++ rest) → Holds (put_in new cube) (first ++ (option_to_list new ++ rest))
held-put cube None first rest held = held
held-put cube (Some r) first rest held =
    let test : List ℕ → Record → Bool = λ c x. bytes_eq (map (category_at x) cube.vars) c in
    let lists : List (List ℕ) = category_lists cube.shape cube.vars in
    ap (λ cells. map (λ (q : List ℕ × Cell). put_if (test q.0 r) r.key q.1) (zip lists cells)) held
    ∙ sym (cells_by-insert test lists first rest r)

pub held-taken : (cube : CubeValue) (gone : Option Record) (first rest : List Record) → ForSome gone (CanTakeOut cube) → Holds cube (first ++ (option_to_list gone ++ rest)) → Holds (taken_out gone cube) (first ++ rest)
held-taken cube None first rest can held = held
held-taken cube (Some r) first rest can held =
    let test : List ℕ → Record → Bool = λ c x. bytes_eq (map (category_at x) cube.vars) c in
    let lists : List (List ℕ) = category_lists cube.shape cube.vars in
    let out : List Cell → List Cell = λ cells. map (λ (p : List ℕ × Cell). cond (test p.0 r) (without_key p.1 r.key) p.1) (zip lists cells) in
    ap out (held ∙ cells_by-insert test lists first rest r)
    ∙ all-out (λ c. test c r) r.key lists (cells_by test lists (first ++ rest)) (sym (length-map lists _)) (can r refl).fits.key (keys-cells_by test lists (first ++ rest))

pub held-applied : (old new : CubeValue) (before after : Option Record) (first rest : List Record) → new ≡ put_in after (taken_out before old) → ForSome before (CanTakeOut old)
    → Holds old (first ++ (option_to_list before ++ rest)) → Holds new (first ++ (option_to_list after ++ rest))
held-applied old new before after first rest is can held =
    subst (λ c. Holds c (first ++ (option_to_list after ++ rest))) (sym is) (held-put (taken_out before old) after first rest (held-taken old before first rest can held))

-- and with a piece put in, or another cube's cells merged
pub held-added : (old new : CubeValue) (before piece : List Record) → new ≡ merged_with old (cube_of old.shape old.vars piece) → Holds old before → Holds new (before ++ piece)
held-added old new before piece is held =
    subst (λ c. Holds c (before ++ piece)) (sym is) (ap (λ cells. merged_all cells (cube_of old.shape old.vars piece)) held ∙ sym (cube_of-append old.shape old.vars before piece))

pub held-merged : (old other new : CubeValue) (ours theirs : List Record) → new ≡ merged_with old other.cells → other.shape ≡ old.shape → other.vars ≡ old.vars → Holds old ours → Holds other theirs → Holds new (ours ++ theirs)
held-merged old other new ours theirs is shape vars held held' =
    let theirs-are : other.cells ≡ cube_of old.shape old.vars theirs = held' ∙ ap (λ s. cube_of s other.vars theirs) shape ∙ ap (λ vs. cube_of old.shape vs theirs) vars in
    held-added old new ours theirs (is ∙ ap (merged_with old) theirs-are) held

-- a cube stays dense
pub dense-taken : (gone : Option Record) (cube : CubeValue) → (taken_out gone cube).dense ≡ cube.dense
dense-taken None cube = refl
dense-taken (Some r) cube = refl

-- one cell of a cube as it is kept is changed, at the place of a record's categories
module _ (kept now : CubeValue) (view : kept ≡ now) (r : Record) (place : ℕ) (at : place ≡ place_of now.shape now.vars (category_at r))
    (within : place < length now.cells) (cell : Cell) (is : cell ≡ get_or kept.cells place cell) where
  read : cell ≡ get_or now.cells place empty_cell
  read = get_or_read now.cells place cell within (is ∙ ap (λ (v : CubeValue). get_or v.cells place cell) view) empty_cell

  pub count-at : cell.count ≡ count_for now r
  count-at = ap (λ (c : Cell). c.count) (read ∙ ap (λ n. get_or now.cells n empty_cell) at)

  pub change-at : (change : Cell → Cell) (new : Cell) → IsWhole now → Fits now.shape r → new ≡ change cell → ◌≡◌ {A = CubeValue}
      (record kept { cells = set kept.cells place new }) (changed_for change r now)
  change-at change new whole fits made =
      let put : ℕ → List Cell = λ n. set now.cells n (change (get_or now.cells n empty_cell)) in
      ap (λ (v : CubeValue). record v { cells = set v.cells place new }) view
      ∙ ap (λ (cells : List Cell). record now { cells = cells })
      (ap (set now.cells place) (made ∙ ap change read) ∙ ap put at ∙ set-changed change now r
      (one-fits now.shape now.vars r whole.there fits) whole.long)

-- what is asked of a record that is there
pub of-given : (P : Record → Type 0) (o : Option (Bor Record)) (one : Bor Record) → o ≡ Some one → ForSome (option_copied o) P → P one.now
of-given P o one is can = subst (λ (p : Option (Bor Record)). ForSome (option_copied p) P) is can one.now refl
