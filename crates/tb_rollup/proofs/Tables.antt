-- The cells of a table from what a cube adds at each number.
use Rattle.std.proofs.Common.{◌≡◌, ℕ, ◌+◌, ◌%◌, ◌<◌, ◌≤◌, ◌&&◌, Bool, true, false, cond, List, [], length, map, get_or, ap, sym, subst, ◌∙◌, arith}
use Rattle.std.specs.Prelude.{◌==◌, nat_lt, slice_index, All}
use Rattle.std.specs.List.{sum_by, list_any, zip}
use Rattle.std.proofs.lemmas.List.{length-map, get_or-map, ext_get_or}
use Rattle.tb_base.specs.declared.cells.Cell.{Cell}
use Rattle.tb_base.specs.declared.people.TheConstants.{MOST_PERSONS}
use Rattle.tb_base.specs.Cells.{empty_cell}
use Rattle.tb_base.specs.Sets.{is_in, includes_all}
use Rattle.tb_model.specs.Schemas.{SchemaValue, shape_of}
use Rattle.tb_model.specs.Queries.{QueryValue}
use Rattle.tb_base.specs.declared.records.Record.{Record}
use Rattle.tb_base.specs.Records.{Fits}
use Rattle.tb_model.specs.Places.{Place, places_of, belongs, cells_of}
use Rattle.tb_model.specs.Cubes.{category_lists, category_in, cube_of, merged_where, rolled_up}
use Rattle.tb_model.proofs.CubeLemmas.{rolled_up-cube_of}
use Rattle.tb_cube.proofs.Grid.{all-fit}
use Rattle.tb_model.specs.RowMajor.{product}
use Rattle.tb_model.proofs.TableLemmas.{size_of, place_at, length-places, get_or-places}
use Rattle.tb_base.specs.Parts.{Part, part, part_at, modulus}
use Rattle.tb_grid.specs.Totals.{total_at}
use Rattle.tb_base.proofs.PartLemmas.{same-cell}
use Rattle.tb_grid.proofs.Reached.{plain-value, reached, total-value}
use Rattle.tb_grid.proofs.Sums.{total-zero, under}
use Rattle.tb_cube.specs.Cubes.{CubeValue, IsWhole}
use Rattle.tb_plan.specs.Plans.{PlanValue, plan_of, place_count, sizes, uses, vars_of}
use Rattle.tb_plan.specs.Whole.{IsPlan}
use Rattle.tb_plan.specs.Steps.{number_at}
use Rattle.tb_plan.proofs.Places.{number-wider, reach, sizes-plan_of}
use Rattle.tb_plan.proofs.Parts.{place_count-plan_of}
use Rattle.tb_plan.proofs.Under.{each-named}
use Rattle.tb_rollup.specs.Rolling.{spread}
use Rattle.tb_rollup.proofs.Spread.{count_of}
use Rattle.tb_rollup.proofs.Zipped.{lead, spread-zip}
use Rattle.tb_cube.proofs.Lists.{Distinct, distinct, FitsList, lists-fit, category-below, part-where, zip-ext}
use Rattle.tb_rollup.proofs.Among.{once-in, all-range, lead-steps}

-- what a cube adds at a place of the table
abbrev pub reached_sum : PlanValue → Bool → List ℕ → List ℕ → Part → List Cell → ℕ → ℕ
reached_sum plan totals ns vars p cells i = reached totals ns (λ q. lead plan vars q.0) (λ q. part p q.1)
    (zip (category_lists plan.shape vars) cells) i

-- a cube's list reaches a place exactly where its categories belong to it
reaches : (schema : SchemaValue) (query : QueryValue) (vars cs : List ℕ) (i : ℕ) → IsPlan (plan_of schema query) → Distinct vars → includes_all vars (vars_of (plan_of schema query)) ≡ true → FitsList (shape_of schema) vars cs
    → i < product (map (size_of schema query) query.dimensions)
    → (nat_lt (lead (plan_of schema query) vars cs) (product (map (size_of schema query) query.dimensions)) && under query.totals (map (size_of schema query) query.dimensions) i (lead (plan_of schema query) vars cs))
    ≡ belongs schema query (place_at schema query query.dimensions i) (category_in vars cs)
reaches schema query vars cs i is apart among fits below =
    let plan : PlanValue = plan_of schema query in
    let ns : List ℕ = map (size_of schema query) query.dimensions in
    let at : ℕ → ℕ = category_in vars cs in
    let there : (v : ℕ) → v < length (shape_of schema) → uses plan v ≡ true → is_in vars v ≡ true = λ v low used. all-range (is_in vars) (uses plan) 0 (length (shape_of schema)) v among (omega arith) (omega arith) used in
    let number : lead plan vars cs ≡ number_at plan at =
    lead-steps plan (shape_of schema) vars cs fits apart ∙ number-wider plan vars at is (λ v low used. once-in vars v apart (there v low used)) in
    let named = each-named (λ v. at v < slice_index (shape_of schema) v) schema query is
    (λ v low used. category-below (shape_of schema) vars cs v fits (there v low used)) in
    ap (λ x. nat_lt x (product ns) && under query.totals ns i x) number ∙ reach schema query at i is named below

-- a table's cells are rolled up, where each part is what the cube adds at its place
pub rolled : (schema : SchemaValue) (query : QueryValue) (vars : List ℕ) (cube cells : List Cell) → IsPlan (plan_of schema query) → Distinct vars → includes_all vars (vars_of (plan_of schema query)) ≡ true
    → sum_by (λ c. c.count) cube ≤ MOST_PERSONS → length cells ≡ length (places_of schema query)
    → ((p : Part) (i : ℕ) → i < length cells → part_at p cells i ≡ reached_sum (plan_of schema query) query.totals (map (size_of schema query) query.dimensions) vars p cube i % modulus p)
    → cells ≡ rolled_up schema query (shape_of schema) vars cube
rolled schema query vars cube cells is apart among few long value =
    let ns : List ℕ = map (size_of schema query) query.dimensions in
    let cell_of_place : Place → Cell = λ place. merged_where (belongs schema query place) (shape_of schema) vars cube in
    ext_get_or empty_cell cells (rolled_up schema query (shape_of schema) vars cube) (long ∙ sym (length-map (places_of schema query) cell_of_place)) (λ i below.
    let inside : i < length (places_of schema query) = omega (arith, below, long) in
    let low : i < product ns = omega (arith, inside, length-places schema query) in
    let here : get_or (rolled_up schema query (shape_of schema) vars cube) i empty_cell ≡ cell_of_place (place_at schema query query.dimensions i) =
    get_or-map cell_of_place (places_of schema query) i [] empty_cell inside ∙ ap cell_of_place (get_or-places schema query i [] low) in
    same-cell (get_or cells i empty_cell) (get_or (rolled_up schema query (shape_of schema) vars cube) i empty_cell) (λ p.
    value p i below
    ∙ ap (λ s. s % modulus p) (zip-ext (FitsList (shape_of schema) vars) _ (λ q. cond (belongs schema query (place_at schema query query.dimensions i) (category_in vars q.0)) (part p q.1) 0) (category_lists (shape_of schema) vars) cube (lists-fit (shape_of schema) vars)
    (λ x c fits. ap (λ b. cond b (part p c) 0) (reaches schema query vars x i is apart among fits low)))
    ∙ sym (ap (part p) here ∙ part-where p (belongs schema query (place_at schema query query.dimensions i)) (shape_of schema) vars cube (omega (arith, few)))))

-- the part of a cell, after the cube was rolled into empty cells, without totals and with them
module _ (plan : PlanValue) (totals : Bool) (ns vars : List ℕ) (p : Part) (cube : List Cell) (long : length cube ≡ count_of plan vars)
    (i : ℕ) (below : i < product ns) where
  abbrev pairs : List (List ℕ × Cell)
  pairs = zip (category_lists plan.shape vars) cube

  abbrev number : List ℕ × Cell → ℕ
  number q = lead plan vars q.0

  abbrev adds : List ℕ × Cell → ℕ
  adds q = part p q.1

  empty : 0 + reached totals ns number adds pairs i ≡ reached totals ns number adds pairs i
  empty = omega arith

  pub plain-part : (old new : ℕ) → totals ≡ false → old ≡ 0 → new % modulus p ≡ (old + spread plan vars (part_at p cube) 0 0 i) % modulus p
      → new < modulus p → new ≡ reached_sum plan totals ns vars p cube i % modulus p
  plain-part old new none zero made small =
      plain-value ns number adds pairs i below totals (modulus p) 0 new none
      (made ∙ ap (λ x. (x + spread plan vars (part_at p cube) 0 0 i) % modulus p) zero ∙ ap (λ x. (0 + x) % modulus p)
      (spread-zip plan vars p cube i long)) small
      ∙ ap (λ x. x % modulus p) empty

  pub total-part : (new : ℕ) (old mid : ℕ → ℕ) → totals ≡ true → ((j : ℕ) → j < product ns → old j ≡ 0)
      → ((j : ℕ) → j < product ns → mid j % modulus p ≡ (old j + spread plan vars (part_at p cube) 0 0 j) % modulus p)
      → new % modulus p ≡ total_at ns mid i % modulus p → new < modulus p → new ≡ reached_sum plan totals ns vars p cube i % modulus p
  total-part new old mid some zero made totalled small =
      total-value ns number adds pairs i below totals (modulus p) 0 new (λ _. 0) mid some (ap (λ x. x % modulus p) (sym (total-zero ns i)))
      (λ j low. made j low ∙ ap (λ x. (x + spread plan vars (part_at p cube) 0 0 j) % modulus p) (zero j low) ∙ ap
      (λ x. (0 + x) % modulus p) (spread-zip plan vars p cube j long)) totalled small
      ∙ ap (λ x. x % modulus p) empty

-- the same over any schema and query of which this is the plan
pub rolled-plan : (plan : PlanValue) (cube : CubeValue) (cells : List Cell) → IsPlan plan → IsWhole cube → cube.shape ≡ plan.shape → includes_all cube.vars (vars_of plan) ≡ true
    → sum_by (λ c. c.count) cube.cells ≤ MOST_PERSONS → length cells ≡ place_count plan
    → ((p : Part) (i : ℕ) → i < length cells → part_at p cells i ≡ reached_sum plan plan.totals (sizes plan) cube.vars p cube.cells i % modulus p)
    → (schema : SchemaValue) (query : QueryValue) → plan ≡ plan_of schema query → cells ≡ rolled_up schema query cube.shape cube.vars cube.cells
rolled-plan plan cube cells is whole shape among few long value schema query e =
    let P : PlanValue → Type 0 = λ q. IsPlan q → cube.shape ≡ q.shape → includes_all cube.vars (vars_of q) ≡ true → length cells ≡ place_count q
    → ((p : Part) (i : ℕ) → i < length cells → part_at p cells i ≡ reached_sum q q.totals (sizes q) cube.vars p cube.cells i % modulus p) → cells ≡ rolled_up schema query cube.shape cube.vars cube.cells in
    subst P (sym e) (λ is' shape' among' long' value'.
    let same : sizes (plan_of schema query) ≡ map (size_of schema query) query.dimensions = sizes-plan_of schema query query.dimensions in
    rolled schema query cube.vars cube.cells cells is' (distinct cube.vars whole.ascending) among' few (long' ∙ place_count-plan_of schema query)
    (λ p i below. value' p i below ∙ ap (λ ns. reached_sum (plan_of schema query) query.totals ns cube.vars p cube.cells i % modulus p) same)
    ∙ ap (λ s. rolled_up schema query s cube.vars cube.cells) (sym shape')) is shape among long value

-- rolled up from the cube of some records: counted from scratch
pub counted-plan : (plan : PlanValue) (cube : CubeValue) (cells : List Cell) → IsPlan plan → IsWhole cube → cube.shape ≡ plan.shape → includes_all cube.vars (vars_of plan) ≡ true
    → ((schema : SchemaValue) (query : QueryValue) → plan ≡ plan_of schema query → cells ≡ rolled_up schema query cube.shape cube.vars cube.cells)
    → (schema : SchemaValue) (query : QueryValue) (records : List Record) → plan ≡ plan_of schema query → cube.cells ≡ cube_of cube.shape cube.vars records → All (Fits cube.shape) records → cells ≡ cells_of schema query records
counted-plan plan cube cells is whole shape among rolled schema query records e from fit =
    let there : (v : ℕ) → v < length plan.shape → uses plan v ≡ true → is_in cube.vars v ≡ true = λ v low used. all-range (is_in cube.vars) (uses plan) 0 (length plan.shape) v among (omega arith) (omega arith) used in
    let P : PlanValue → Type 0 = λ q. IsPlan q → ((v : ℕ) → v < length q.shape → uses q v ≡ true → is_in cube.vars v ≡ true) → rolled_up schema query cube.shape cube.vars (cube_of cube.shape cube.vars records) ≡ cells_of schema query records in
    let law : rolled_up schema query cube.shape cube.vars (cube_of cube.shape cube.vars records) ≡ cells_of schema query records =
    subst P (sym e) (λ is' there'.
    rolled_up-cube_of schema query cube.shape cube.vars records (all-fit cube.shape cube.vars records whole.there fit)
    (each-named (λ v. list_any (λ w. w == v) cube.vars ≡ true) schema query is' there').dimensions
    (each-named (λ v. list_any (λ w. w == v) cube.vars ≡ true) schema query is' there').filters) is there in
    rolled schema query e ∙ ap (rolled_up schema query cube.shape cube.vars) from ∙ law
