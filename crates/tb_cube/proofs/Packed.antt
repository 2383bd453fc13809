-- What is kept of cells gives them back.
use Rattle.std.proofs.Common.{◌≡◌, ℕ, zero, suc, ◌+◌, ◌-◌, ◌*◌, ◌/◌, ◌<◌, ◌≤◌, true, false, cond, not, List, [], ◌∷◌, length, map, get_or, set, replicate, refl, ap, sym, subst, ◌∙◌, inl, inr, arith}
use Rattle.std.specs.Prelude.{◌==◌, All}
use Rattle.std.specs.List.{range_with_len, AllByRecursion}
use Rattle.std.proofs.lemmas.Bool.{cases_lt, eq-eqb, ne_eqb, and_parts, le-leb}
use Rattle.std.proofs.lemmas.List.{ext_get_or, get_or_default, get_or-replicate, get_or-set_other, get_or-set_same, length-replicate, length-set}
use Rattle.std.proofs.lemmas.List.Elements.{All-from_recursion}
use Rattle.std.proofs.lemmas.List.Sums.{sum_by-cons}
use Rattle.std.proofs.lemmas.Bool.Decides.{eqb_tells}
use Rattle.std.proofs.lemmas.List.FromFn.{length-map-range_with_len, get_or-map-range_with_len}
use Rattle.tb_base.specs.declared.cells.Cell.{Cell}
use Rattle.tb_base.specs.Cells.{empty_cell}
use Rattle.tb_cube.specs.declared.packing.KeptCell.{KeptCell}
use Rattle.tb_cube.specs.declared.axes.Axis.{Axis}
use Rattle.tb_cube.specs.Axes.{IsCube}
use Rattle.tb_cube.specs.Cubes.{packed, CubeValue}
use Rattle.tb_cube.specs.Packing.{all_cells, cell_at, filled, is_empty, is_sparse, kept_from, put_at, InOrder}

eqb-true : (a b : ℕ) → (a == b) ≡ true → a ≡ b
eqb-true a b h = elim (eqb_tells a b) [ inl e ↦ e.1 | inr e ↦ absurd (let no : false ≡ true = sym e.0 ∙ h in cc) ]

-- an empty cell is the one of no record
pub empty-is : (c : Cell) → is_empty c ≡ true → c ≡ empty_cell
empty-is c h =
    let both = and_parts (c.count == 0) (c.key == 0) h in
    let made : ℕ → ℕ → Cell = λ n m. record { count = n; key = m } in
    ap (λ n. made n c.key) (eqb-true c.count 0 both.0) ∙ ap (λ m. made 0 m) (eqb-true c.key 0 both.1)

-- before the first place nothing is kept
early : (a : ℕ) (cs : List Cell) (i : ℕ) → i < a → cell_at (kept_from a cs) i ≡ empty_cell
early a [] i low = refl
early a (c ∷ cs) i low =
    elim (is_empty c) as (λ b. cell_at (cond b (kept_from (a + 1) cs) (record { place = a; cell = c } ∷ kept_from (a + 1) cs)) i ≡ empty_cell) [
      | true ↦ early (a + 1) cs i (omega arith)
      | false ↦ rw (ne_eqb a i (λ e. omega arith)) (early (a + 1) cs i (omega arith))
    ]

range-same : (f g : ℕ → Cell) (a n : ℕ) → ((i : ℕ) → a ≤ i → f i ≡ g i) → map f (range_with_len a n) ≡ map g (range_with_len a n)
range-same f g a zero same = refl
range-same f g a (suc n) same = rw (same a (omega arith), range-same f g (a + 1) n (λ i low. same i (omega arith))) refl

-- what is kept gives the cells back
back-from : (a : ℕ) (cs : List Cell) → map (cell_at (kept_from a cs)) (range_with_len a (length cs)) ≡ cs
back-from a [] = refl
back-from a (c ∷ cs) =
    (elim (is_empty c) as (λ b. is_empty c ≡ b → map (cell_at (cond b (kept_from (a + 1) cs) (record { place = a; cell = c } ∷ kept_from (a + 1) cs))) (a ∷ range_with_len (a + 1) (length cs)) ≡ c ∷ cs) [
      | true ↦ λ t. ap (λ x. x ∷ map (cell_at (kept_from (a + 1) cs)) (range_with_len (a + 1) (length cs))) (early (a + 1) cs a (omega arith) ∙ sym (empty-is c t)) ∙ ap (λ xs. c ∷ xs) (back-from (a + 1) cs)
      | false ↦ λ t.
          let kept : List KeptCell = record { place = a; cell = c } ∷ kept_from (a + 1) cs in
          ap (λ x. x ∷ map (cell_at kept) (range_with_len (a + 1) (length cs))) (rw (eq-eqb a a refl) refl)
          ∙ ap (λ xs. c ∷ xs) (range-same (cell_at kept) (cell_at (kept_from (a + 1) cs)) (a + 1) (length cs) (λ i low. rw (ne_eqb a i (λ e. omega arith)) refl) ∙ back-from (a + 1) cs)
    ]) refl

pub back : (cs : List Cell) → all_cells (length cs) (kept_from 0 cs) ≡ cs
back cs = back-from 0 cs

-- as many are kept as aren't empty
pub length-kept : (a : ℕ) (cs : List Cell) → length (kept_from a cs) ≡ filled cs
length-kept a [] = refl
length-kept a (c ∷ cs) =
    elim (is_empty c) as (λ b. length (cond b (kept_from (a + 1) cs) (record { place = a; cell = c } ∷ kept_from (a + 1) cs)) ≡ cond (not b) 1 0 + filled cs) [
      | true ↦ omega (arith, length-kept (a + 1) cs)
      | false ↦ omega (arith, length-kept (a + 1) cs)
    ] ∙ sym (sum_by-cons (λ x. cond (not (is_empty x)) 1 0) c cs)

-- their places ascend, from the first on
abbrev pub Ascend : ℕ → List KeptCell → Type 0
Ascend a [] = Unit {0}
Ascend a (k ∷ ks) = (a ≤ k.place) × Ascend (k.place + 1) ks

lower : (a b : ℕ) (ks : List KeptCell) → a ≤ b → Ascend b ks → Ascend a ks
lower a b [] less h = tt
lower a b (k ∷ ks) less h = (omega (arith, h.0), h.1)

pub ascend-kept : (a : ℕ) (cs : List Cell) → Ascend a (kept_from a cs)
ascend-kept a [] = tt
ascend-kept a (c ∷ cs) =
    elim (is_empty c) as (λ b. Ascend a (cond b (kept_from (a + 1) cs) (record { place = a; cell = c } ∷ kept_from (a + 1) cs))) [
      | true ↦ lower a (a + 1) (kept_from (a + 1) cs) (omega arith) (ascend-kept (a + 1) cs)
      | false ↦ (omega arith, ascend-kept (a + 1) cs)
    ]

from-on : (a : ℕ) (ks : List KeptCell) (i : ℕ) (d : KeptCell) → Ascend a ks → i < length ks → a ≤ (get_or ks i d).place
from-on a [] i d h below = absurd (omega arith)
from-on a (k ∷ ks) zero d h below = h.0
from-on a (k ∷ ks) (suc i) d h below = omega (arith, h.0, from-on (k.place + 1) ks i d h.1 (omega arith))

in-order : (a : ℕ) (ks : List KeptCell) (i j : ℕ) (d : KeptCell) → Ascend a ks → i < j → j < length ks → (get_or ks i d).place < (get_or ks j d).place
in-order a [] i j d h less below = absurd (omega arith)
in-order a (k ∷ ks) i zero d h less below = absurd (omega arith)
in-order a (k ∷ ks) zero (suc j) d h less below = omega (arith, from-on (k.place + 1) ks j d h.1 (omega arith))
in-order a (k ∷ ks) (suc i) (suc j) d h less below = in-order (k.place + 1) ks i j d h.1 (omega arith) (omega arith)

pub kept-ascend : (ks : List KeptCell) (cells : List Cell) → ks ≡ kept_from 0 cells → InOrder ks
kept-ascend ks cells is i j d less below = in-order 0 ks i j d (subst (Ascend 0) (sym is) (ascend-kept 0 cells)) less below

-- the cell that is kept at a place
pub cell-found : (ks : List KeptCell) (i : ℕ) (place : ℕ) (d : KeptCell) → i < length ks → ((j : ℕ) → j < i → (get_or ks j d).place ≡ place → ⊥) → (get_or ks i d).place ≡ place → cell_at ks place ≡ (get_or ks i d).cell
cell-found [] i place d below other is = absurd (omega arith)
cell-found (k ∷ ks) zero place d below other is = rw (eq-eqb k.place place is) refl
cell-found (k ∷ ks) (suc i) place d below other is = rw (ne_eqb k.place place (other zero (omega arith))) (cell-found ks i place d (omega arith) (λ j low e. other (suc j) (omega arith) e) is)

pub cell-missing : (ks : List KeptCell) (place : ℕ) (d : KeptCell) → ((j : ℕ) → j < length ks → (get_or ks j d).place ≡ place → ⊥) → cell_at ks place ≡ empty_cell
cell-missing [] place d other = refl
cell-missing (k ∷ ks) place d other = rw (ne_eqb k.place place (other zero (omega arith))) (cell-missing ks place d (λ j low e. other (suc j) (omega arith) e))

-- in another form the cells are those of the same cube
pub same-cube : (old new : CubeValue) (axes : List Axis) → new.shape ≡ old.shape → new.vars ≡ old.vars → old.cells ≡ new.cells → IsCube old axes → IsCube new axes
same-cube old new axes shape vars cells is =
    record {
      whole = record {
        ascending = rw vars is.whole.ascending;
        there = rw (shape, vars) is.whole.there;
        long = rw (shape, vars, ← cells) is.whole.long;
        few = rw (← cells) is.whole.few;
        reduced = rw (← cells) is.whole.reduced;
      };
      axes_are = rw (shape, vars) is.axes_are;
    }

-- cells that take less room are packed
pub sparse : (cells : List Cell) → 4 * filled cells ≤ length cells → is_sparse cells ≡ true
sparse cells rare = le-leb (4 * filled cells) (length cells) rare

pub packed-is : (shape vars : List ℕ) (cells same : List Cell) → same ≡ cells → 4 * filled cells ≤ length cells
    → ◌≡◌ {A = CubeValue} (record { shape = shape; vars = vars; cells = same; dense = false }) (packed (record { shape = shape; vars = vars; cells = cells; dense = true }))
packed-is shape vars cells same is rare = rw (is, sparse cells rare) refl

abbrev pub no_kept : KeptCell
no_kept = record { place = 0; cell = record { count = 0; key = 0 } }

-- halving
pub halved : (low high : ℕ) → low < high → low + (high - low) / 2 < high
halved low high less = omega arith

at-default : (ks : List KeptCell) (m : ℕ) (d e : KeptCell) → m < length ks → (get_or ks m d).place ≡ (get_or ks m e).place
at-default ks m d e below = ap (λ (k : KeptCell). k.place) (get_or_default ks m d e below)

pub below-middle : (ks : List KeptCell) (m place : ℕ) (e : KeptCell) → InOrder ks → m < length ks → (get_or ks m e).place < place → (j : ℕ) (d : KeptCell) → j < m + 1 → (get_or ks j d).place < place
below-middle ks m place e order below less j d low =
    elim (cases_lt j m) [
      | inl h ↦ omega (arith, order j m d h below, at-default ks m d e below, less)
      | inr h ↦ let same : j ≡ m = omega arith in rw same (omega (arith, at-default ks m d e below, less))
    ]

pub above-middle : (ks : List KeptCell) (m place : ℕ) (e : KeptCell) → InOrder ks → m < length ks → place < (get_or ks m e).place → (j : ℕ) (d : KeptCell) → m ≤ j → j < length ks → place < (get_or ks j d).place
above-middle ks m place e order below more j d from low =
    elim (cases_lt m j) [
      | inl h ↦ omega (arith, order m j d h low, at-default ks m d e below, more)
      | inr h ↦ let same : j ≡ m = omega arith in rw same (omega (arith, at-default ks m d e below, more))
    ]

pub found-middle : (ks : List KeptCell) (m place : ℕ) (e : KeptCell) → InOrder ks → m < length ks → (get_or ks m e).place ≡ place → (get_or ks m e).cell ≡ cell_at ks place
found-middle ks m place e order below is = sym (cell-found ks m place e below (λ j low same. omega (arith, order j m e low below, is, same)) is)

pub none-left : (ks : List KeptCell) (low high place : ℕ) → high ≤ low → ((j : ℕ) (d : KeptCell) → j < low → (get_or ks j d).place < place) → ((j : ℕ) (d : KeptCell) → high ≤ j → j < length ks → place < (get_or ks j d).place) → empty_cell ≡ cell_at ks place
none-left ks low high place met before after = sym (cell-missing ks place no_kept (λ j inside same.
    elim (cases_lt j low) [
      | inl h ↦ omega (arith, before j no_kept h, same)
      | inr h ↦ omega (arith, after j no_kept (omega (arith, met, h)) inside, same)
    ]))

-- the kept cells are below a place
abbrev pub Below : ℕ → List KeptCell → Type 0
Below n ks = AllByRecursion (λ k. k.place < n) ks

pub below-kept : (a : ℕ) (cs : List Cell) (n : ℕ) → a + length cs ≤ n → Below n (kept_from a cs)
below-kept a [] n long = tt
below-kept a (c ∷ cs) n long =
    elim (is_empty c) as (λ b. Below n (cond b (kept_from (a + 1) cs) (record { place = a; cell = c } ∷ kept_from (a + 1) cs))) [
      | true ↦ below-kept (a + 1) cs n (omega arith)
      | false ↦ (omega arith, below-kept (a + 1) cs n (omega arith))
    ]

-- kept cells put back among empty ones
length-put : (ks : List KeptCell) (cells : List Cell) → length (put_at ks cells) ≡ length cells
length-put [] cells = refl
length-put (k ∷ ks) cells = length-put ks (set cells k.place k.cell) ∙ length-set cells k.place k.cell

put-after : (a : ℕ) (ks : List KeptCell) (cells : List Cell) (i : ℕ) → Ascend a ks → i < a → get_or (put_at ks cells) i empty_cell ≡ get_or cells i empty_cell
put-after a [] cells i up low = refl
put-after a (k ∷ ks) cells i up low =
    put-after (k.place + 1) ks (set cells k.place k.cell) i up.1 (omega (arith, up.0))
    ∙ get_or-set_other cells k.place i k.cell empty_cell (λ e. omega (arith, up.0, e))

at-put : (a : ℕ) (ks : List KeptCell) (cells : List Cell) (i : ℕ) → Ascend a ks → i < length cells → get_or cells i empty_cell ≡ empty_cell
    → get_or (put_at ks cells) i empty_cell ≡ cell_at ks i
at-put a [] cells i up inside none = none
at-put a (k ∷ ks) cells i up inside none =
    elim (eqb_tells k.place i) [
      | inl e ↦
          rw e.0 (put-after (k.place + 1) ks (set cells k.place k.cell) i up.1 (omega (arith, e.1))
          ∙ ap (λ n. get_or (set cells n k.cell) i empty_cell) e.1 ∙ get_or-set_same cells i k.cell empty_cell inside)
      | inr e ↦
          rw e.0 (at-put (k.place + 1) ks (set cells k.place k.cell) i up.1 (omega (arith, inside, length-set cells k.place k.cell))
          (get_or-set_other cells k.place i k.cell empty_cell (λ s. e.1 (sym s)) ∙ none))
    ]

pub put-back : (long : ℕ) (ks : List KeptCell) → ks ≡ kept_from 0 (all_cells long ks) → put_at ks (replicate long empty_cell) ≡ all_cells long ks
put-back long ks are =
    let empty : List Cell = replicate long empty_cell in
    let size : length (put_at ks empty) ≡ long = length-put ks empty ∙ length-replicate long empty_cell in
    ext_get_or empty_cell (put_at ks empty) (all_cells long ks) (size ∙ sym (length-map-range_with_len (cell_at ks) 0 long)) (λ i below.
    let low : i < long = omega (arith, below, size) in
    at-put 0 ks empty i (subst (Ascend 0) (sym are) (ascend-kept 0 (all_cells long ks))) (omega (arith, low, length-replicate long empty_cell)) (get_or-replicate long i empty_cell empty_cell low)
    ∙ sym (get_or-map-range_with_len (cell_at ks) 0 long i i empty_cell low (omega arith)))

-- their places are those of cells
pub places-below : (long : ℕ) (ks : List KeptCell) (cells : List Cell) → ks ≡ kept_from 0 (all_cells long ks) → length cells ≡ long → All (λ (k : KeptCell). k.place < length cells) ks
places-below long ks cells are size =
    All-from_recursion (λ (k : KeptCell). k.place < length cells) ks
    (subst (Below (length cells)) (sym are) (below-kept 0 (all_cells long ks) (length cells) (omega (arith, size, length-map-range_with_len (cell_at ks) 0 long))))
