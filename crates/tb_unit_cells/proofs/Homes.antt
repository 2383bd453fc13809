-- The cells of a table that counts dwellings, from what dwellings add at each number.
use Rattle.std.proofs.Common.{◌≡◌, ◌∙◌, sym, ap, subst, refl, ℕ, ◌+◌, ◌-◌, ◌%◌, ◌^◌, ◌<◌, ◌≤◌, ◌&&◌, Bool, true, false, cond, List, [], ◌∷◌, length, map, get_or, min, replicate, arith, inl, inr}
use Rattle.std.specs.Prelude.{◌==◌, nat_lt, slice_index, All, if◌then◌else◌}
use Rattle.std.specs.List.{list_any, sum_by, filter}
use Rattle.std.proofs.Math.Nat.{mod-mod}
use Rattle.std.proofs.lemmas.Bool.{cases_Bool, cases_lt, lt-ltb, le-ltb}
use Rattle.std.proofs.lemmas.Nat.{mod_below}
use Rattle.std.proofs.lemmas.List.{length-map, get_or-map, ext_get_or, take_all, get_or-replicate, length-replicate}
use Rattle.std.proofs.lemmas.List.Elements.{recursion_from_All}
use Rattle.tb_base.specs.declared.cells.Cell.{Cell}
use Rattle.tb_base.specs.declared.keys.TheConstants.{MOST_KEYS}
use Rattle.tb_base.specs.declared.records.Record.{Record}
use Rattle.tb_base.specs.Cells.{empty_cell}
use Rattle.tb_base.specs.Parts.{modulus, part, part_at, weight, Part}
use Rattle.tb_base.specs.Parts.Part.{counts, keys}
use Rattle.tb_base.specs.Persons.{AreDistinct}
use Rattle.tb_base.specs.Records.{category_at, Fits}
use Rattle.tb_base.proofs.PartLemmas.{empty-part, part-small, same-cell}
use Rattle.tb_model.specs.Schemas.{SchemaValue, shape_of}
use Rattle.tb_model.specs.Queries.{QueryValue}
use Rattle.tb_model.specs.Places.{Place, places_of, belongs, own_records}
use Rattle.tb_model.specs.RowMajor.{product}
use Rattle.tb_model.proofs.SumLemmas.{sum_by-ext, sum_by-ones, sum_by-filter}
use Rattle.tb_model.proofs.TableLemmas.{size_of, place_at, length-places, get_or-places}
use Rattle.tb_model.specs.Units.{PairValue, UnitsValue, homes_cell, homes_cells, lives_in}
use Rattle.tb_grid.specs.Totals.{AreSome}
use Rattle.tb_grid.proofs.Sums.{under, under-alone}
use Rattle.tb_plan.specs.Plans.{PlanValue, plan_of, place_count, sizes}
use Rattle.tb_plan.specs.Whole.{IsPlan}
use Rattle.tb_plan.specs.Steps.{number_at}
use Rattle.tb_plan.proofs.Places.{reach, sizes-plan_of}
use Rattle.tb_plan.proofs.Under.{each-named}
use Rattle.tb_plan.proofs.Parts.{place_count-plan_of}
use Rattle.tb_marks.specs.Raised.{meets}
use Rattle.tb_marks.proofs.Meeting.{meets-lies}
use Rattle.tb_units.specs.Pairs.{pair_at}
use Rattle.tb_base.specs.declared.people.TheConstants.{MOST_PERSONS}
use Rattle.tb_unit_cells.specs.Marking.{added, home_leads, leads, link_leads}
use Rattle.tb_unit_cells.specs.Noting.{noted, number_in, AreNoted}
use Rattle.tb_unit_cells.specs.Totals.{total_sizes}
use Rattle.tb_unit_cells.proofs.Anys.{any-filter, any-fit, any-links, exchanged}
use Rattle.tb_unit_cells.proofs.Noted.{noted-hits}

meets-none : (x i : ℕ) → meets [] x i ≡ (x == i)
unfolding meets
meets-none x i = refl

-- with totals a number leads to the places in which it lies, and without to its own
meets-any : (totals : Bool) (ns : List ℕ) (x i : ℕ) → AreSome ns → x < product ns → i < product ns → meets (if totals then ns else []) x i ≡ under totals ns i x
meets-any true ns x i some below here = meets-lies ns x i some below here
meets-any false ns x i some below here = meets-none x i ∙ sym (under-alone ns i x here below)

-- a number as far as a u32 goes leads where the number does
short : (totals : Bool) (ns : List ℕ) (n i : ℕ) → AreSome ns → product ns < 2 ^ 32 → i < product ns
    → leads (if totals then ns else []) (product ns) (min n (2 ^ 32 - 1)) i ≡ (nat_lt n (product ns) && under totals ns i n)
short totals ns n i some few here = elim (cases_lt n (product ns)) [
  | inl h ↦
      let whole : min n (2 ^ 32 - 1) ≡ n = omega (arith, h, few) in
      rw (whole, lt-ltb n (product ns) h) (meets-any totals ns n i some h here)
  | inr h ↦
      let past : product ns ≤ min n (2 ^ 32 - 1) = omega (arith, h, few) in
      rw (le-ltb n (product ns) h, le-ltb (min n (2 ^ 32 - 1)) (product ns) past) refl
]

nowhere : (ns : List ℕ) (places i : ℕ) → places < 2 ^ 32 → leads ns places (2 ^ 32 - 1) i ≡ false
nowhere ns places i few = let past : places ≤ 2 ^ 32 - 1 = omega (arith, few) in rw (le-ltb (2 ^ 32 - 1) places past) refl

module _ (schema : SchemaValue) (query : QueryValue) (is : IsPlan (plan_of schema query)) (some : AreSome (sizes (plan_of schema query))) where
  -- a record leads to the places to which it belongs
  record-leads : (r : Record) (i : ℕ) → Fits (shape_of schema) r → i < place_count (plan_of schema query)
      → leads (total_sizes (plan_of schema query)) (place_count (plan_of schema query)) (number_in (plan_of schema query) r) i ≡ belongs schema query (place_at schema query query.dimensions i) (category_at r)
  record-leads r i fits below =
      let ns = map (size_of schema query) query.dimensions in
      let same : sizes (plan_of schema query) ≡ ns = sizes-plan_of schema query query.dimensions in
      let n : ℕ = number_at (plan_of schema query) (category_at r) in
      short query.totals (sizes (plan_of schema query)) n i some (omega (arith, is.few_places)) below
      ∙ ap (λ ks. nat_lt n (product ks) && under query.totals ks i n) same
      ∙ reach schema query (category_at r) i is (each-named (λ v. category_at r v < slice_index (shape_of schema) v) schema query is (λ v low _. fits.below v low)) (omega (arith, below, ap product same))

  -- the links of a dwelling lead to a place exactly where one of its own records' persons lives there
  homes-lead : (links : List PairValue) (records : List Record) (numbers : List ℕ) (number i : ℕ) → AreDistinct records → All (Fits (shape_of schema)) records → i < place_count (plan_of schema query)
      → ((k : ℕ) → k < length links → slice_index numbers k ≡ noted (number_in (plan_of schema query)) (pair_at links k).0 records (2 ^ 32 - 1))
      → home_leads (total_sizes (plan_of schema query)) (place_count (plan_of schema query)) links numbers number i
      ≡ list_any (λ r. lives_in links r.person number) (own_records schema query (place_at schema query query.dimensions i) records)
  homes-lead links records numbers number i distinct fit below are =
      let ns = total_sizes (plan_of schema query) in
      let places : ℕ = place_count (plan_of schema query) in
      let f : Record → ℕ = number_in (plan_of schema query) in
      let hit : ℕ → Bool = λ x. leads ns places x i in
      let g : PairValue → Bool = λ l. list_any (λ r. (r.person == l.0) && hit (f r)) records in
      let place : Place = place_at schema query query.dimensions i in
      let test : Record → Bool = λ r. belongs schema query place (category_at r) in
      let few : places < 2 ^ 32 = omega (arith, is.few_places) in
      any-links links number (link_leads ns places numbers i) g (length links) (omega arith)
      (λ k low. ap hit (are k low) ∙ noted-hits f hit (pair_at links k).0 records (2 ^ 32 - 1) distinct (nowhere ns places i few))
      ∙ ap (list_any (λ l. (l.1 == number) && g l)) (take_all (length links) links (omega arith))
      ∙ exchanged links number (λ r. hit (f r)) records
      ∙ any-fit (Fits (shape_of schema)) (λ r. hit (f r) && lives_in links r.person number) (λ r. test r && lives_in links r.person number) records (recursion_from_All (Fits (shape_of schema)) records fit)
      (λ r fits. ap (λ b. b && lives_in links r.person number) (record-leads r i fits below))
      ∙ any-filter test (λ r. lives_in links r.person number) records

  -- the parts of a cell of dwellings
  part-of : (p : Part) (test : PairValue → Bool) (ds : List PairValue)
      → part p (record { count = length (filter test ds); key = sum_by (λ (d : PairValue). d.1) (filter test ds) % MOST_KEYS }) % modulus p ≡ sum_by (λ d. cond (test d) (weight p d.1) 0) ds % modulus p
  part-of counts test ds = ap (λ x. x % modulus counts) (sum_by-ones (filter test ds) ∙ sum_by-filter (λ (_ : PairValue). 1) test ds)
  part-of keys test ds = mod-mod (sum_by (λ (d : PairValue). d.1) (filter test ds)) (modulus keys) ∙ ap (λ x. x % modulus keys) (sum_by-filter (λ (d : PairValue). d.1) test ds)

  filter-few : (test : PairValue → Bool) (ds : List PairValue) → length (filter test ds) ≤ length ds
  filter-few test [] = omega arith
  filter-few test (d ∷ ds) = elim (cases_Bool (test d)) [
    | inl t ↦ rw t (omega (arith, filter-few test ds))
    | inr t ↦ rw t (omega (arith, filter-few test ds))
  ]

  -- cells whose parts are what the dwellings add are the table's cells
  pub counted-homes : (units : UnitsValue) (records : List Record) (numbers : List ℕ) (new : List Cell) → AreDistinct records → All (Fits (shape_of schema)) records → length units.dwellings ≤ MOST_PERSONS
      → length new ≡ place_count (plan_of schema query)
      → ((k : ℕ) → k < length units.links → slice_index numbers k ≡ noted (number_in (plan_of schema query)) (pair_at units.links k).0 records (2 ^ 32 - 1))
      → ((p : Part) (i : ℕ) → i < length new → part_at p new i ≡ added (total_sizes (plan_of schema query)) (place_count (plan_of schema query)) units.links numbers p units.dwellings i % modulus p)
      → new ≡ homes_cells units schema query records
  counted-homes units records numbers new distinct fit few long are value =
      let cell_of_place : Place → Cell = λ place. homes_cell units (own_records schema query place records) in
      let whole : length new ≡ length (places_of schema query) = long ∙ place_count-plan_of schema query in
      ext_get_or empty_cell new (homes_cells units schema query records) (whole ∙ sym (length-map (places_of schema query) cell_of_place)) (λ i below.
      let inside : i < length (places_of schema query) = omega (arith, below, whole) in
      let low : i < product (map (size_of schema query) query.dimensions) = omega (arith, inside, length-places schema query) in
      let here_below : i < place_count (plan_of schema query) = omega (arith, below, long) in
      let place : Place = place_at schema query query.dimensions i in
      let own : List Record = own_records schema query place records in
      let test : PairValue → Bool = λ d. list_any (λ r. lives_in units.links r.person d.0) own in
      let here : get_or (homes_cells units schema query records) i empty_cell ≡ cell_of_place place =
      get_or-map cell_of_place (places_of schema query) i [] empty_cell inside ∙ ap cell_of_place (get_or-places schema query i [] low) in
      let small : (cell_of_place place).count < modulus counts = omega (arith, few, filter-few test units.dwellings) in
      let key : (cell_of_place place).key < modulus keys = mod_below (sum_by (λ (d : PairValue). d.1) (filter test units.dwellings)) (modulus keys) (omega arith) in
      same-cell (get_or new i empty_cell) (get_or (homes_cells units schema query records) i empty_cell) (λ p.
      value p i below
      ∙ ap (λ s. s % modulus p) (sum_by-ext (λ d. cond (home_leads (total_sizes (plan_of schema query)) (place_count (plan_of schema query)) units.links numbers d.0 i) (weight p d.1) 0) (λ d. cond (test d) (weight p d.1) 0) units.dwellings
      (λ d. ap (λ b. cond b (weight p d.1) 0) (homes-lead units.links records numbers d.0 i distinct fit here_below are)))
      ∙ sym (part-of p test units.dwellings)
      ∙ part-small p (cell_of_place place) small key
      ∙ sym (ap (part p) here)))

-- the same over any schema and query of which this is the plan
pub counted-plan : (plan : PlanValue) (units : UnitsValue) (records : List Record) (numbers : List ℕ) (new : List Cell) → IsPlan plan → AreSome (sizes plan) → AreDistinct records → All (Fits plan.shape) records
    → length units.dwellings ≤ MOST_PERSONS → length new ≡ place_count plan
    → ((k : ℕ) → k < length units.links → slice_index numbers k ≡ noted (number_in plan) (pair_at units.links k).0 records (2 ^ 32 - 1))
    → ((p : Part) (i : ℕ) → i < length new → part_at p new i ≡ added (total_sizes plan) (place_count plan) units.links numbers p units.dwellings i % modulus p)
    → (schema : SchemaValue) (query : QueryValue) → plan ≡ plan_of schema query → new ≡ homes_cells units schema query records
counted-plan plan units records numbers new is some distinct fit few long are value schema query e =
    let P : PlanValue → Type 0 = λ q. IsPlan q → AreSome (sizes q) → All (Fits q.shape) records → length new ≡ place_count q
    → ((k : ℕ) → k < length units.links → slice_index numbers k ≡ noted (number_in q) (pair_at units.links k).0 records (2 ^ 32 - 1))
    → ((p : Part) (i : ℕ) → i < length new → part_at p new i ≡ added (total_sizes q) (place_count q) units.links numbers p units.dwellings i % modulus p)
    → new ≡ homes_cells units schema query records in
    subst P (sym e) (λ is' some' fit' long' are' value'. counted-homes schema query is' some' units records numbers new distinct fit' few long' are' value') is some fit long are value

empty-at : (p : Part) (n i : ℕ) → i < n → part_at p (replicate n empty_cell) i ≡ 0
empty-at p n i below = ap (part p) (get_or-replicate n i empty_cell empty_cell below) ∙ empty-part p

-- the cells after all numbers are noted and all dwellings counted
pub finished : (plan : PlanValue) (units : UnitsValue) (records : List Record) (numbers : List ℕ) (old new : List Cell) → IsPlan plan → AreSome (sizes plan) → AreDistinct records → All (Fits plan.shape) records
    → length units.dwellings ≤ MOST_PERSONS → old ≡ replicate (place_count plan) empty_cell → length new ≡ length old
    → AreNoted (number_in plan) units.links records (replicate (length units.links) (2 ^ 32 - 1)) numbers
    → ((p : Part) (i : ℕ) → i < length old → part_at p new i ≡ (part_at p old i + added (total_sizes plan) (length old) units.links numbers p units.dwellings i) % modulus p)
    → (schema : SchemaValue) (query : QueryValue) → plan ≡ plan_of schema query → new ≡ homes_cells units schema query records
finished plan units records numbers old new is some distinct fit few empty same are counted =
    let long : length old ≡ place_count plan = ap length empty ∙ length-replicate (place_count plan) empty_cell in
    counted-plan plan units records numbers new is some distinct fit few (same ∙ long)
    (λ k below. are k below ∙ ap (noted (number_in plan) (pair_at units.links k).0 records) (get_or-replicate (length units.links) k (2 ^ 32 - 1) 0 below))
    (λ p i below.
    let before : i < length old = omega (arith, below, same) in
    let none : part_at p old i ≡ 0 = ap (λ cells. part_at p cells i) empty ∙ empty-at p (place_count plan) i (omega (arith, before, long)) in
    let what : ℕ = added (total_sizes plan) (place_count plan) units.links numbers p units.dwellings i in
    let plain : 0 + what ≡ what = omega arith in
    counted p i before
    ∙ ap (λ x. x % modulus p) (ap (λ n. part_at p old i + added (total_sizes plan) n units.links numbers p units.dwellings i) long ∙ ap (λ x. x + what) none ∙ plain))
