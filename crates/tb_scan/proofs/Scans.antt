-- The cells of a scan, from what records add at each number.
use Rattle.std.proofs.Common.{◌≡◌, ℕ, ◌+◌, ◌%◌, ◌^◌, ◌<◌, ◌≤◌, Bool, cond, List, [], ◌∷◌, length, map, take, get_or, refl, ap, sym, subst, ◌∙◌, arith}
use Rattle.std.specs.Prelude.{◌==◌, slice_index, All}
use Rattle.std.specs.List.{sum_by, filter, AllByRecursion}
use Rattle.std.proofs.Math.Nat.{mod-mod, add-mod-mod}
use Rattle.std.proofs.lemmas.List.{length-map, get_or-map, ext_get_or, take_more}
use Rattle.std.proofs.lemmas.List.Elements.{recursion_from_All}
use Rattle.std.proofs.lemmas.List.Sums.{sum_by-cons, sum_by_push}
use Rattle.tb_base.specs.declared.cells.Cell.{Cell}
use Rattle.tb_base.specs.declared.records.Record.{Record}
use Rattle.tb_base.specs.declared.people.TheConstants.{MOST_PERSONS}
use Rattle.tb_base.specs.Cells.{empty_cell, cell_of, merged, merged_all}
use Rattle.tb_base.specs.Records.{category_at, Fits}
use Rattle.tb_model.specs.Schemas.{SchemaValue, shape_of}
use Rattle.tb_model.specs.Queries.{QueryValue}
use Rattle.tb_model.specs.Places.{Place, places_of, belongs, own_records, cells_of}
use Rattle.tb_model.specs.RowMajor.{product}
use Rattle.tb_model.proofs.SumLemmas.{sum_by-ones, sum_by-filter}
use Rattle.tb_model.proofs.TableLemmas.{size_of, place_at, length-places, get_or-places}
use Rattle.tb_base.proofs.CellLemmas.{count-le-length}
use Rattle.tb_base.proofs.PartLemmas.{add-more, part-merged, same-cell}
use Rattle.tb_base.specs.Parts.{modulus, part, part_at, weight, Part}
use Rattle.tb_base.specs.Parts.Part.{counts, keys}
use Rattle.tb_grid.proofs.Reached.{reached}
use Rattle.tb_grid.proofs.Merges.{length-merged_all, get_or-merged_all}
use Rattle.tb_plan.specs.Plans.{PlanValue, plan_of, place_count, sizes}
use Rattle.tb_plan.specs.Whole.{IsPlan}
use Rattle.tb_plan.specs.Steps.{number_at}
use Rattle.tb_plan.proofs.Places.{reach, sizes-plan_of}
use Rattle.tb_plan.proofs.Under.{each-named}
use Rattle.tb_plan.proofs.Parts.{place_count-plan_of}
use Rattle.tb_scan.specs.Scanning.{added}

-- one record more
pub added-more : (plan : PlanValue) (p : Part) (rs : List Record) (i n : ℕ) (r : Record) → i < length rs → r ≡ get_or rs i r
    → added plan p (take (i + 1) rs) n ≡ added plan p (take i rs) n + cond (number_at plan (category_at r) == n) (weight p r.key) 0
added-more plan p rs i n r below is =
    let f : Record → ℕ = λ x. cond (number_at plan (category_at x) == n) (weight p x.key) 0 in
    ap (sum_by f) (take_more rs i r below) ∙ sum_by_push f (take i rs) (get_or rs i r) ∙ ap (λ x. sum_by f (take i rs) + f x) (sym is)

-- the number to which a record leads
abbrev pub number_of : PlanValue → Record → ℕ
number_of plan r = number_at plan (category_at r)

-- what records add at a place: those that lead into it
abbrev pub reached_by : PlanValue → Bool → List ℕ → Part → List Record → ℕ → ℕ
reached_by plan totals ns p rs i = reached totals ns (number_of plan) (λ r. weight p r.key) rs i

sum-fit : (P : Record → Type 0) (f g : Record → ℕ) (rs : List Record) → AllByRecursion P rs → ((r : Record) → P r → f r ≡ g r) → sum_by f rs ≡ sum_by g rs
sum-fit P f g [] all same = refl
sum-fit P f g (r ∷ rs) all same = rw (sum_by-cons f r rs, sum_by-cons g r rs, same r all.0, sum-fit P f g rs all.1 same) refl

-- they are those that belong to it
pub belonging : (schema : SchemaValue) (query : QueryValue) (p : Part) (rs : List Record) (i : ℕ) → IsPlan (plan_of schema query) → All (Fits (shape_of schema)) rs → i < product (map (size_of schema query) query.dimensions)
    → reached_by (plan_of schema query) query.totals (map (size_of schema query) query.dimensions) p rs i ≡ sum_by
    (λ r. cond (belongs schema query (place_at schema query query.dimensions i) (category_at r)) (weight p r.key) 0) rs
belonging schema query p rs i is fit below =
    sum-fit (Fits (shape_of schema)) _ _ rs (recursion_from_All (Fits (shape_of schema)) rs fit) (λ r fits.
    ap (λ b. cond b (weight p r.key) 0) (reach schema query (category_at r) i is
    (each-named (λ v. category_at r v < slice_index (shape_of schema) v) schema query is (λ v low _. fits.below v low)) below))

-- the parts of a cell
pub part-of : (p : Part) (test : Record → Bool) (rs : List Record)
    → part p (cell_of (filter test rs)) % modulus p ≡ sum_by (λ r. cond (test r) (weight p r.key) 0) rs % modulus p
part-of counts test rs = ap (λ x. x % modulus counts) (sum_by-ones (filter test rs) ∙ sum_by-filter (λ (_ : Record). 1) test rs)
part-of keys test rs = mod-mod (sum_by (λ (r : Record). r.key) (filter test rs)) (modulus keys) ∙ ap (λ x. x % modulus keys)
    (sum_by-filter (λ (r : Record). r.key) test rs)

-- the cells are merged with those of the records, where each part has what the records add at its place
pub scanned : (schema : SchemaValue) (query : QueryValue) (rs : List Record) (old new : List Cell) → IsPlan (plan_of schema query) → All (Fits (shape_of schema)) rs → length old ≡ length (places_of schema query) → length new ≡ length old
    → ((i : ℕ) (d : Cell) → i < length old → (get_or old i d).count + length rs ≤ MOST_PERSONS)
    → ((p : Part) (i : ℕ) → i < length old → part_at p new i ≡ (part_at p old i + reached_by (plan_of schema query) query.totals (map (size_of schema query) query.dimensions) p rs i) % modulus p)
    → new ≡ merged_all old (cells_of schema query rs)
scanned schema query rs old new is fit long same room value =
    let cell_of_place : Place → Cell = λ place. cell_of (own_records schema query place rs) in
    let counted : length old ≡ length (cells_of schema query rs) = long ∙ sym (length-map (places_of schema query) cell_of_place) in
    ext_get_or empty_cell new (merged_all old (cells_of schema query rs)) (same ∙ sym (length-merged_all old (cells_of schema query rs) counted)) (λ i below.
    let before : i < length old = omega (arith, below, same) in
    let inside : i < length (places_of schema query) = omega (arith, before, long) in
    let low : i < product (map (size_of schema query) query.dimensions) = omega (arith, inside, length-places schema query) in
    let place : Place = place_at schema query query.dimensions i in
    let test : Record → Bool = λ r. belongs schema query place (category_at r) in
    let here : get_or (cells_of schema query rs) i empty_cell ≡ cell_of_place place = get_or-map cell_of_place (places_of schema query) i [] empty_cell inside ∙ ap cell_of_place (get_or-places schema query i [] low) in
    let few : (get_or old i empty_cell).count + (cell_of_place place).count < 2 ^ 32 = omega (arith, room i empty_cell before, count-le-length test rs) in
    same-cell (get_or new i empty_cell) (get_or (merged_all old (cells_of schema query rs)) i empty_cell) (λ p.
    value p i before
    ∙ sym (add-mod-mod (part_at p old i) (reached_by (plan_of schema query) query.totals (map (size_of schema query) query.dimensions) p rs i) (modulus p))
    ∙ ap (λ s. (part_at p old i + s) % modulus p) (ap (λ s. s % modulus p) (belonging schema query p rs i is fit low) ∙ sym (part-of p test rs))
    ∙ add-mod-mod (part_at p old i) (part p (cell_of_place place)) (modulus p)
    ∙ sym (ap (part p) (get_or-merged_all old (cells_of schema query rs) i empty_cell counted before ∙ ap (merged (get_or old i empty_cell)) here) ∙ part-merged p (get_or old i empty_cell) (cell_of_place place) few)))

-- the same over any schema and query of which this is the plan
pub scanned-plan : (plan : PlanValue) (rs : List Record) (old new : List Cell) → IsPlan plan → All (Fits plan.shape) rs → length old ≡ place_count plan → length new ≡ length old
    → ((i : ℕ) (d : Cell) → i < length old → (get_or old i d).count + length rs ≤ MOST_PERSONS)
    → ((p : Part) (i : ℕ) → i < length old → part_at p new i ≡ (part_at p old i + reached_by plan plan.totals (sizes plan) p rs i) % modulus p)
    → (schema : SchemaValue) (query : QueryValue) → plan ≡ plan_of schema query → new ≡ merged_all old (cells_of schema query rs)
scanned-plan plan rs old new is fit long same room value schema query e =
    let P : PlanValue → Type 0 = λ q. IsPlan q → All (Fits q.shape) rs → length old ≡ place_count q
    → ((p : Part) (i : ℕ) → i < length old → part_at p new i ≡ (part_at p old i + reached_by q q.totals (sizes q) p rs i) % modulus p) → new ≡ merged_all old (cells_of schema query rs) in
    subst P (sym e) (λ is' fit' long' value'.
    scanned schema query rs old new is' fit' (long' ∙ place_count-plan_of schema query) same room (λ p i below.
    value' p i below ∙ ap (λ ns. (part_at p old i + reached_by (plan_of schema query) query.totals ns p rs i) % modulus p) (sizes-plan_of schema query query.dimensions))) is fit long value

-- one more record of a piece is put in
pub put-more : (plan : PlanValue) (p : Part) (rs : List Record) (j i : ℕ) (r : Record) (old mid new number : ℕ) → j < length rs → r ≡ get_or rs j r → number ≡ number_at plan (category_at r)
    → mid % modulus p ≡ (old + added plan p (take j rs) i) % modulus p → new % modulus p ≡ (mid + cond (number == i) (weight p r.key) 0)
    % modulus p
    → new % modulus p ≡ (old + added plan p (take (j + 1) rs) i) % modulus p
put-more plan p rs j i r old mid new number below is leads h e =
    let x : ℕ = cond (number == i) (weight p r.key) 0 in
    let s : ℕ = added plan p (take j rs) i in
    add-more (modulus p) old mid new s x h e
    ∙ ap (λ y. (old + y) % modulus p) (ap (λ n. s + cond (n == i) (weight p r.key) 0) leads ∙ sym (added-more plan p rs j i r below is))
