-- Cells that hold some records.
use Rattle.std.proofs.Common.{◌≡◌, ℕ, ◌+◌, ◌%◌, ◌<◌, ◌≤◌, Bool, cond, List, [], ◌++◌, length, map, get_or, replicate, ap, sym, subst, ◌∙◌, arith}
use Rattle.std.specs.Prelude.{All, ◌==◌}
use Rattle.std.specs.List.{sum_by, filter}
use Rattle.std.proofs.Math.Nat.{mod-add-mod}
use Rattle.std.proofs.lemmas.Nat.{mod_below}
use Rattle.std.proofs.lemmas.List.{length-map, get_or-map, get_or-replicate, length-replicate, ext_get_or}
use Rattle.std.proofs.lemmas.List.Sums.{sum_by-append}
use Rattle.tb_base.specs.declared.cells.Cell.{Cell}
use Rattle.tb_base.specs.declared.people.TheConstants.{MOST_PERSONS}
use Rattle.tb_base.specs.declared.records.Record.{Record}
use Rattle.tb_base.specs.Cells.{empty_cell, cell_of}
use Rattle.tb_base.specs.Records.{category_at, Fits}
use Rattle.tb_base.proofs.CellLemmas.{count-le-length}
use Rattle.tb_base.proofs.PartLemmas.{empty-part, part-small, same-cell}
use Rattle.tb_model.specs.Schemas.{SchemaValue, shape_of}
use Rattle.tb_model.specs.Queries.{QueryValue}
use Rattle.tb_model.specs.Places.{Place, places_of, belongs, own_records, cells_of}
use Rattle.tb_model.specs.RowMajor.{product}
use Rattle.tb_model.proofs.TableLemmas.{size_of, place_at, length-places, get_or-places}
use Rattle.tb_base.specs.Parts.{modulus, part, part_at, weight, Part}
use Rattle.tb_base.specs.Parts.Part.{counts, keys}
use Rattle.tb_plan.specs.Plans.{PlanValue, plan_of, place_count, sizes}
use Rattle.tb_plan.specs.Steps.{number_at}
use Rattle.tb_plan.specs.Whole.{IsPlan}
use Rattle.tb_plan.proofs.Places.{sizes-plan_of}
use Rattle.tb_plan.proofs.Parts.{place_count-plan_of}
use Rattle.tb_scan.specs.Scanning.{added, ArePut, Hold}
use Rattle.tb_scan.proofs.Scans.{belonging, part-of, reached_by}

-- empty cells hold no record
pub hold-nothing : (plan : PlanValue) (n : ℕ) → Hold plan (replicate n empty_cell) []
hold-nothing plan n p i below =
    let low : i < n = omega (arith, below, length-replicate n empty_cell) in
    ap (λ x. x % modulus p) (ap (part p) (get_or-replicate n i empty_cell empty_cell low) ∙ empty-part p)

-- and have room for any piece
pub room-empty : (n k : ℕ) → k ≤ MOST_PERSONS → All (λ (c : Cell). c.count + k ≤ MOST_PERSONS) (replicate n empty_cell)
room-empty n k few i d below =
    let low : i < n = omega (arith, below, length-replicate n empty_cell) in
    rw (get_or-replicate n i empty_cell d low) (omega (arith, few))

-- cells that held some records hold these too
added-append : (plan : PlanValue) (p : Part) (xs ys : List Record) (i : ℕ) → added plan p (xs ++ ys) i ≡ added plan p xs i + added plan p ys i
added-append plan p xs ys i = sum_by-append (λ r. cond (number_at plan (category_at r) == i) (weight p r.key) 0) xs ys

pub hold-more : (plan : PlanValue) (old new : List Cell) (before piece : List Record) → length new ≡ length old → ArePut plan old piece new → Hold plan old before → Hold plan new (before ++ piece)
hold-more plan old new before piece long put held p i below =
    let low : i < length old = omega (arith, below, long) in
    let k : ℕ = modulus p in
    let x : ℕ = added plan p before i in
    let y : ℕ = added plan p piece i in
    put p i low ∙ sym (mod-add-mod (part_at p old i) k y) ∙ ap (λ s. (s + y) % k) (held p i low) ∙ mod-add-mod x k y ∙ ap (λ s. s % k) (sym (added-append plan p before piece i))

-- cells whose parts are what the records add are the table's cells
pub counted : (schema : SchemaValue) (query : QueryValue) (rs : List Record) (new : List Cell) → IsPlan (plan_of schema query) → All (Fits (shape_of schema)) rs → length new ≡ length (places_of schema query)
    → length rs ≤ MOST_PERSONS
    → ((p : Part) (i : ℕ) → i < length new → part_at p new i ≡ (0 + reached_by (plan_of schema query) query.totals (map (size_of schema query) query.dimensions) p rs i) % modulus p)
    → new ≡ cells_of schema query rs
counted schema query rs new is fit long few value =
    let cell_of_place : Place → Cell = λ place. cell_of (own_records schema query place rs) in
    ext_get_or empty_cell new (cells_of schema query rs) (long ∙ sym (length-map (places_of schema query) cell_of_place)) (λ i below.
    let inside : i < length (places_of schema query) = omega (arith, below, long) in
    let low : i < product (map (size_of schema query) query.dimensions) = omega (arith, inside, length-places schema query) in
    let place : Place = place_at schema query query.dimensions i in
    let test : Record → Bool = λ r. belongs schema query place (category_at r) in
    let here : get_or (cells_of schema query rs) i empty_cell ≡ cell_of_place place = get_or-map cell_of_place (places_of schema query) i [] empty_cell inside ∙ ap cell_of_place (get_or-places schema query i [] low) in
    let small : (cell_of_place place).count < modulus counts = omega (arith, few, count-le-length test rs) in
    let key : (cell_of_place place).key < modulus keys = mod_below (sum_by (λ (r : Record). r.key) (filter test rs)) (modulus keys)
    (omega arith) in
    same-cell (get_or new i empty_cell) (get_or (cells_of schema query rs) i empty_cell) (λ p.
    let reached : ℕ = reached_by (plan_of schema query) query.totals (map (size_of schema query) query.dimensions) p rs i in
    let plain : 0 + reached ≡ reached = omega arith in
    value p i below
    ∙ ap (λ s. s % modulus p) (plain ∙ belonging schema query p rs i is fit low) ∙ sym (part-of p test rs)
    ∙ part-small p (cell_of_place place) small key
    ∙ sym (ap (part p) here)))

-- the same over any schema and query of which this is the plan
pub counted-plan : (plan : PlanValue) (rs : List Record) (new : List Cell) → IsPlan plan → length new ≡ place_count plan → All (Fits plan.shape) rs → length rs ≤ MOST_PERSONS
    → ((p : Part) (i : ℕ) → i < length new → part_at p new i ≡ (0 + reached_by plan plan.totals (sizes plan) p rs i) % modulus p)
    → (schema : SchemaValue) (query : QueryValue) → plan ≡ plan_of schema query → new ≡ cells_of schema query rs
counted-plan plan rs new is long fit few value schema query e =
    let P : PlanValue → Type 0 = λ q. IsPlan q → length new ≡ place_count q → All (Fits q.shape) rs
    → ((p : Part) (i : ℕ) → i < length new → part_at p new i ≡ (0 + reached_by q q.totals (sizes q) p rs i) % modulus p) → new ≡ cells_of schema query rs in
    subst P (sym e) (λ is' long' fit' value'.
    counted schema query rs new is' fit' (long' ∙ place_count-plan_of schema query) few (λ p i below.
    value' p i below ∙ ap (λ ns. (0 + reached_by (plan_of schema query) query.totals ns p rs i) % modulus p) (sizes-plan_of schema query query.dimensions))) is long fit value

-- no record adds anything where the old cell was empty
pub held-part : (plan : PlanValue) (p : Part) (rs : List Record) (i cell : ℕ) → cell % modulus p ≡ added plan p rs i % modulus p → cell % modulus p ≡ (0 + added plan p rs i) % modulus p
held-part plan p rs i cell h = h ∙ (let z : added plan p rs i ≡ 0 + added plan p rs i = omega arith in ap (λ x. x % modulus p) z)
