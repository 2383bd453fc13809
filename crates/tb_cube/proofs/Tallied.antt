-- Records put in one after another, part by part.
use Rattle.std.proofs.Common.{◌≡◌, ℕ, ◌+◌, ◌%◌, ◌^◌, ◌<◌, cond, List, [], ◌∷◌, ◌++◌, length, map, take, get_or, set, refl, ap, ap₂, sym, ◌∙◌, inl, inr, arith}
use Rattle.std.specs.Prelude.{All, ◌==◌}
use Rattle.std.specs.List.{AllByRecursion}
use Rattle.std.proofs.Math.Nat.{mod-add-mod, mod-eq_of_lt, mod-mod}
use Rattle.std.proofs.lemmas.Nat.{mod_below}
use Rattle.std.proofs.lemmas.Bool.Decides.{eqb_tells}
use Rattle.std.proofs.lemmas.List.{length-set, get_or-set_same, get_or-set_other, ext_get_or, map_more, take_more_set}
use Rattle.std.proofs.lemmas.List.Elements.{recursion_from_All}
use Rattle.std.proofs.lemmas.List.Sums.{sum_by-cons}
use Rattle.tb_base.specs.declared.cells.Cell.{Cell}
use Rattle.tb_base.specs.declared.records.Record.{Record}
use Rattle.tb_base.specs.Cells.{empty_cell, with_key}
use Rattle.tb_base.specs.Records.{category_at}
use Rattle.tb_base.specs.declared.tallies.TheConstants.{MOST_TALLIED}
use Rattle.tb_base.specs.Parts.{modulus, part, part_at, weight, Part}
use Rattle.tb_base.specs.Parts.Part.{counts, keys}
use Rattle.tb_base.proofs.PartLemmas.{added-at, same-cell}
use Rattle.tb_base.proofs.TallyLemmas.{at_place, ArePutBy}
use Rattle.tb_grid.specs.declared.products.TheConstants.{MOST_CELLS}
use Rattle.tb_cube.specs.declared.axes.Axis.{Axis}
use Rattle.tb_cube.specs.Axes.{number_by, with_all, LeadsBelow}
use Rattle.tb_cube.proofs.Grid.{leads-wider}
use Rattle.tb_cube.proofs.Adding.{at-item}

-- the number of a record's cell
abbrev pub number : List Axis → Record → ℕ
number axes r = number_by axes (category_at r)

-- what a cell's parts are once a record is in
part-put : (p : Part) (c : Cell) (key : ℕ) → c.count + 1 < 2 ^ 32 → part p (with_key c key) ≡ (part p c + weight p key) % modulus p
part-put counts c key few = sym (mod-eq_of_lt few)
part-put keys c key few = refl

-- all parts are numbers of their types
abbrev pub AreSmall : List Cell → Type 0
AreSmall cells = (p : Part) (i : ℕ) → i < length cells → part_at p cells i < modulus p

abbrev HaveRoom : ℕ → List Cell → Type 0
HaveRoom more cells = (i : ℕ) → i < length cells → (get_or cells i empty_cell).count + more < 2 ^ 32

above-nothing : (p : Part) → 0 < modulus p
above-nothing counts = omega arith
above-nothing keys = omega arith

-- the cells with one more record, by its number and its key
abbrev with_one : List Cell → ℕ → ℕ → List Cell
with_one cells n key = set cells n (with_key (get_or cells n empty_cell) key)

module _ (cells : List Cell) (n key more : ℕ) (there : n < length cells) (room : HaveRoom (more + 1) cells) where
  few-here : (get_or cells n empty_cell).count + 1 < 2 ^ 32
  few-here = omega (arith, room n there)

  next-part : (p : Part) (i : ℕ) → part_at p (with_one cells n key) i % modulus p ≡ (part_at p cells i + cond (n == i) (weight p key) 0) % modulus p
  next-part p i =
      let new : Cell = with_key (get_or cells n empty_cell) key in
      added-at p cells n i new (weight p key) there (ap (λ x. x % modulus p) (part-put p (get_or cells n empty_cell) key few-here) ∙ mod-mod (part_at p cells n + weight p key) (modulus p))

  next-room : HaveRoom more (with_one cells n key)
  next-room i below =
      let new : Cell = with_key (get_or cells n empty_cell) key in
      let inside : i < length cells = omega (arith, below, length-set cells n new) in
      elim (eqb_tells i n) [
        | inl h ↦ rw (h.1, get_or-set_same cells n new empty_cell there) (omega (arith, room n there))
        | inr h ↦ rw (get_or-set_other cells n i new empty_cell h.1) (omega (arith, room i inside))
      ]

  next-small : AreSmall cells → AreSmall (with_one cells n key)
  next-small small p i below =
      let new : Cell = with_key (get_or cells n empty_cell) key in
      let inside : i < length cells = omega (arith, below, length-set cells n new) in
      elim (eqb_tells i n) [
        | inl h ↦ rw (h.1, get_or-set_same cells n new empty_cell there, part-put p (get_or cells n empty_cell) key few-here) (mod_below (part_at p cells n + weight p key) (modulus p) (above-nothing p))
        | inr h ↦ rw (get_or-set_other cells n i new empty_cell h.1) (small p i inside)
      ]

pub length-with_all : (axes : List Axis) (cells : List Cell) (rs : List Record) → length (with_all axes cells rs) ≡ length cells
length-with_all axes cells [] = refl
length-with_all axes cells (r ∷ rs) =
    let n : ℕ = number axes r in
    let new : Cell = with_key (get_or cells n empty_cell) r.key in
    length-with_all axes (set cells n new) rs ∙ length-set cells n new

-- records put in one after another: each part has what they add
pub part-with_all : (axes : List Axis) (cells : List Cell) (rs : List Record) (limit : ℕ) (p : Part) (i : ℕ) → limit ≡ length cells → AllByRecursion (LeadsBelow limit axes) rs
    → HaveRoom (length rs) cells → AreSmall cells → i < length cells
    → part_at p (with_all axes cells rs) i ≡ (part_at p cells i + at_place (number axes) p rs i) % modulus p
part-with_all axes cells [] limit p i long lead room small below =
    let none : part_at p cells i + 0 ≡ part_at p cells i = omega arith in
    sym (ap (λ x. x % modulus p) none ∙ mod-eq_of_lt (small p i below))
part-with_all axes cells (r ∷ rs) limit p i long lead room small below =
    let n : ℕ = number axes r in
    let there : n < length cells = omega (arith, lead.0.low, long) in
    let roomy : HaveRoom (length rs + 1) cells = λ k low. omega (arith, room k low) in
    let new : Cell = with_key (get_or cells n empty_cell) r.key in
    let now : List Cell = set cells n new in
    let same : length now ≡ length cells = length-set cells n new in
    let m : ℕ = modulus p in
    let x : ℕ = cond (n == i) (weight p r.key) 0 in
    let s : ℕ = at_place (number axes) p rs i in
    let turn : part_at p cells i + x + s ≡ part_at p cells i + (x + s) = omega arith in
    part-with_all axes now rs limit p i (long ∙ sym same) lead.1 (next-room cells n r.key (length rs) there roomy) (next-small cells n r.key (length rs) there roomy small) (omega (arith, below, same))
    ∙ sym (mod-add-mod (part_at p now i) m s)
    ∙ ap (λ y. (y + s) % m) (next-part cells n r.key (length rs) there roomy p i)
    ∙ mod-add-mod (part_at p cells i + x) m s
    ∙ ap (λ y. y % m) (turn ∙ ap (λ y. part_at p cells i + y) (sym (sum_by-cons (λ (q : Record). cond (number axes q == i) (weight p q.key) 0) r rs)))

-- so tallied cells are those
pub tallied-all : (axes : List Axis) (old new : List Cell) (rs : List Record) → length new ≡ length old → All (LeadsBelow (length old) axes) rs
    → All (λ (c : Cell). c.count + length rs < 2 ^ 32) old → AreSmall old → AreSmall new → ArePutBy (number axes) old rs new → new ≡ with_all axes old rs
tallied-all axes old new rs long lead room small small' put =
    ext_get_or empty_cell new (with_all axes old rs) (long ∙ sym (length-with_all axes old rs)) (λ i below.
    let inside : i < length old = omega (arith, below, long) in
    same-cell (get_or new i empty_cell) (get_or (with_all axes old rs) i empty_cell) (λ p.
    sym (mod-eq_of_lt (small' p i below)) ∙ put p i inside
    ∙ sym (part-with_all axes old rs (length old) p i refl (recursion_from_All (LeadsBelow (length old) axes) rs lead) (λ k low. room k empty_cell low) small inside)))

-- one more record is written into a column
pub written-more : (f : Record → ℕ) (chunk : List Record) (column : List ℕ) (k value : ℕ) (r : Record) → k < length chunk → k < length column → r ≡ get_or chunk k r → value ≡ f r
    → take k column ≡ map f (take k chunk) → take (k + 1) (set column k value) ≡ map f (take (k + 1) chunk)
written-more f chunk column k value r below there is made so_far =
    take_more_set column k value there
    ∙ ap₂ (λ xs x. xs ++ x ∷ []) so_far (made ∙ ap f is)
    ∙ sym (map_more f chunk k r below)

-- a record among those of a chunk, whose number is that of one of few cells
pub record Few (axes : List Axis) (r : Record) : Type 0 where
  pub lead : LeadsBelow MOST_CELLS axes r
  pub small : number axes r < MOST_TALLIED

pub few-at : (axes : List Axis) (chunk : List Record) (k : ℕ) (r : Record) → All (LeadsBelow MOST_TALLIED axes) chunk → k < length chunk → r ≡ get_or chunk k r → Few axes r
few-at axes chunk k r lead below is =
    let here : LeadsBelow MOST_TALLIED axes r = at-item (LeadsBelow MOST_TALLIED axes) chunk k r lead below is in
    record { lead = leads-wider MOST_TALLIED MOST_CELLS axes r (omega arith) here; small = here.low }
