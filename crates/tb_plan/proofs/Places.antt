-- The number to which categories lead is that of the place in which they lie.
use Rattle.std.proofs.Common.{◌≡◌, ℕ, ◌+◌, ◌-◌, ◌*◌, ◌/◌, ◌%◌, ◌<◌, ◌≤◌, ◌&&◌, ◌||◌, Bool, true, false, cond, List, [], ◌∷◌, map, length, refl, ap, sym, ◌∙◌, inl, inr, arith}
use Rattle.std.specs.Prelude.{◌==◌, nat_lt, slice_index, slice_index_or}
use Rattle.std.specs.List.{sum_by, range_with_len, filter, list_all, AllByRecursion}
use Rattle.std.proofs.lemmas.Bool.{cases_lt, lt-ltb, le-ltb, ne_eqb, eq-eqb}
use Rattle.std.proofs.lemmas.Bool.Decides.{eqb_tells}
use Rattle.std.proofs.lemmas.Nat.{div-mul-add, mod-mul-add, mul-add-lt}
use Rattle.std.proofs.lemmas.List.{length-map}
use Rattle.std.proofs.lemmas.List.FromFn.{get_or-map-range_with_len, length-range_with_len as length-range}
use Rattle.tb_model.specs.declared.names.NameOf.{NameOf}
use Rattle.tb_model.specs.declared.names.Filter.{Filter}
use Rattle.tb_model.specs.Schemas.{SchemaValue, base_of, category_of, category_count, recoded, shape_of}
use Rattle.tb_model.specs.Queries.{QueryValue, passes, passes_all}
use Rattle.tb_model.specs.Places.{covers, lies_in, belongs}
use Rattle.tb_model.specs.RowMajor.{product}
use Rattle.tb_model.proofs.SumLemmas.{sum_by-ext, sum_by-none, sum_by-add, sum_by-filter}
use Rattle.tb_model.proofs.TableLemmas.{size_of, entry_at, place_at}
use Rattle.tb_plan.specs.Plans.{DimensionValue, ConditionValue, PlanValue, dimension_of, condition_of, plan_of, entry_count, place_count, uses, vars_of}
use Rattle.tb_plan.specs.Whole.{AreDimensions, IsPlan}
use Rattle.tb_plan.specs.Steps.{dimension_step, filter_step, step_at, number_at}
use Rattle.tb_grid.proofs.Sums.{cut, eq-swap, range-once, under}
use Rattle.tb_plan.proofs.Under.{EachNamed, EachUnder, each-under}

-- a variable is exactly once among some
abbrev pub OnceIn : List ℕ → ℕ → Type 0
OnceIn vars w = (f : ℕ → ℕ) → sum_by (λ v. cond (w == v) (f v) 0) vars ≡ f w

cond-zero : (b : Bool) → ◌≡◌ {A = ℕ} (cond b 0 0) 0
cond-zero true = refl
cond-zero false = refl

-- a variable that is used is once among those that are
used-once : (used : ℕ → Bool) (n w : ℕ) → w < n → used w ≡ true → OnceIn (filter used (range_with_len 0 n)) w
used-once used n w below is f =
    sum_by-filter (λ v. cond (w == v) (f v) 0) used (range_with_len 0 n)
    ∙ sum_by-ext (λ v. cond (used v) (cond (w == v) (f v) 0) 0) (λ v. cond (w == v) (f w) 0) (range_with_len 0 n) (λ v.
    elim (eqb_tells w v) [
      | inl h ↦ rw (h.0, ← h.1, is) refl
      | inr h ↦ rw h.0 (cond-zero (used v))
    ])
    ∙ range-once (f w) w 0 n (omega arith) (omega arith)

-- the number of the place without filters, and what the filters add
abbrev pub dimension_number : Bool → List DimensionValue → (ℕ → ℕ) → ℕ
dimension_number totals [] at = 0
dimension_number totals (d ∷ ds) at = slice_index d.entries (at d.variable) * product (map (entry_count totals) ds) + dimension_number totals ds at

abbrev pub filter_number : ℕ → List ConditionValue → (ℕ → ℕ) → ℕ
filter_number places [] at = 0
filter_number places (f ∷ fs) at = cond (slice_index_or f.passed (at f.variable) false) 0 places + filter_number places fs at

sum-dimensions : (vars : List ℕ) (totals : Bool) (ds : List DimensionValue) (at : ℕ → ℕ) → AllByRecursion (λ d. OnceIn vars d.variable) ds
    → sum_by (λ v. dimension_step totals ds v (at v)) vars ≡ dimension_number totals ds at
sum-dimensions vars totals [] at h = sum_by-none vars
sum-dimensions vars totals (d ∷ ds) at h =
    sum_by-add (λ v. cond (d.variable == v) (slice_index d.entries (at v) * product (map (entry_count totals) ds)) 0) (λ v. dimension_step totals ds v (at v)) vars
    ∙ rw (h.0 (λ v. slice_index d.entries (at v) * product (map (entry_count totals) ds)), sum-dimensions vars totals ds at h.1) refl

sum-filters : (vars : List ℕ) (places : ℕ) (fs : List ConditionValue) (at : ℕ → ℕ) → AllByRecursion (λ f. OnceIn vars f.variable) fs
    → sum_by (λ v. filter_step places fs v (at v)) vars ≡ filter_number places fs at
sum-filters vars places [] at h = sum_by-none vars
sum-filters vars places (f ∷ fs) at h =
    sum_by-add (λ v. cond (f.variable == v) (cond (slice_index_or f.passed (at v) false) 0 places) 0) (λ v. filter_step places fs v (at v)) vars
    ∙ rw (h.0 (λ v. cond (slice_index_or f.passed (at v) false) 0 places), sum-filters vars places fs at h.1) refl

-- the steps of variables among which those of the plan are
number-in : (plan : PlanValue) (vars : List ℕ) (at : ℕ → ℕ) → EachUnder (OnceIn vars) plan
    → sum_by (λ v. step_at plan v (at v)) vars ≡ dimension_number plan.totals plan.dimensions at + filter_number (place_count plan) plan.filters at
number-in plan vars at once =
    sum_by-add (λ v. dimension_step plan.totals plan.dimensions v (at v)) (λ v. filter_step (place_count plan) plan.filters v (at v)) vars
    ∙ rw (
      sum-dimensions vars plan.totals plan.dimensions at once.dimensions,
      sum-filters vars (place_count plan) plan.filters at
          once.filters,
    ) refl

pub number-parts : (plan : PlanValue) (at : ℕ → ℕ) → IsPlan plan → number_at plan at ≡ dimension_number plan.totals plan.dimensions at + filter_number (place_count plan) plan.filters at
number-parts plan at is = number-in plan (vars_of plan) at
    (each-under (OnceIn (vars_of plan)) plan is (λ v below used. used-once (uses plan) (length plan.shape) v below used))

-- the same number from the steps of more variables
pub number-wider : (plan : PlanValue) (vars : List ℕ) (at : ℕ → ℕ) → IsPlan plan → ((v : ℕ) → v < length plan.shape → uses plan v ≡ true → OnceIn vars v)
    → sum_by (λ v. step_at plan v (at v)) vars ≡ number_at plan at
number-wider plan vars at is once = number-in plan vars at (each-under (OnceIn vars) plan is once) ∙ sym (number-parts plan at is)

-- the categories are those of the variables under these names
abbrev pub AtNames : SchemaValue → (ℕ → ℕ) → List NameOf → Type 0
AtNames schema at names = AllByRecursion (λ of. at (base_of schema of) < slice_index (shape_of schema) (base_of schema of)) names

-- each category is one of its name
abbrev pub AllBelow : SchemaValue → (ℕ → ℕ) → List NameOf → Type 0
AllBelow schema at names = AllByRecursion (λ of. category_of schema of at < category_count schema of) names

pub sizes-plan_of : (schema : SchemaValue) (query : QueryValue) (of : List NameOf) → map (entry_count query.totals) (map (dimension_of schema) of) ≡ map (size_of schema query) of
sizes-plan_of schema query [] = refl
sizes-plan_of schema query (of ∷ rest) = rw (sizes-plan_of schema query rest) refl

entry-plan_of : (schema : SchemaValue) (of : NameOf) (c : ℕ) → c < slice_index (shape_of schema) (base_of schema of) → slice_index (dimension_of schema of).entries c ≡ recoded schema of c
entry-plan_of schema of c below = get_or-map-range_with_len (recoded schema of) 0 (slice_index (shape_of schema) (base_of schema of)) c c 0 below (omega arith)

all-below : (schema : SchemaValue) (at : ℕ → ℕ) (shape : List ℕ) (of : List NameOf) → AreDimensions shape (map (dimension_of schema) of) → AtNames schema at of → AllBelow schema at of
all-below schema at shape [] are fits = tt
all-below schema at shape (of ∷ rest) are fits =
    let n : ℕ = slice_index (shape_of schema) (base_of schema of) in
    let long : length (dimension_of schema of).entries ≡ n = rw (length-map, length-range) refl in
    (rw (entry-plan_of schema of (at (base_of schema of)) fits.0) at (are.0.within (at (base_of schema of)) (omega (arith, long, fits.0))), all-below schema at shape rest are.1 fits.1)

-- the number of a place, by the definitions
abbrev pub place_number : SchemaValue → QueryValue → List NameOf → (ℕ → ℕ) → ℕ
place_number schema query [] at = 0
place_number schema query (of ∷ rest) at = category_of schema of at * product (map (size_of schema query) rest) + place_number schema query rest at

number-plan_of : (schema : SchemaValue) (query : QueryValue) (at : ℕ → ℕ) (of : List NameOf) → AtNames schema at of → dimension_number query.totals (map (dimension_of schema) of) at ≡ place_number schema query of at
number-plan_of schema query at [] fits = refl
number-plan_of schema query at (of ∷ rest) fits =
    rw (entry-plan_of schema of (at (base_of schema of)) fits.0, sizes-plan_of schema query rest, number-plan_of schema query at rest fits.1) refl

size-above : (schema : SchemaValue) (query : QueryValue) (of : NameOf) (c : ℕ) → c < category_count schema of → c < size_of schema query of
size-above schema query of c below = omega arith

pub number-below : (schema : SchemaValue) (query : QueryValue) (at : ℕ → ℕ) (of : List NameOf) → AllBelow schema at of → place_number schema query of at < product (map (size_of schema query) of)
number-below schema query at [] below = omega arith
number-below schema query at (of ∷ rest) below =
    let m : ℕ = product (map (size_of schema query) rest) in
    omega (arith, mul-add-lt (category_of schema of at) m (place_number schema query rest at) (size_of schema query of) (size-above schema query of (category_of schema of at) below.0) (number-below schema query at rest below.1))

not-last : (totals b : Bool) (k n : ℕ) → k < n → (b || (totals && (k == n + cond totals 1 0 - 1))) ≡ b
not-last totals true k n h = refl
not-last false false k n h = refl
not-last true false k n h = ne_eqb k (n + 1 - 1) (λ e. omega arith)

is-last : (totals b : Bool) (k n : ℕ) → n ≤ k → k < n + cond totals 1 0 → (b || (totals && (k == n + cond totals 1 0 - 1))) ≡ true
is-last totals true k n h below = refl
is-last false false k n h below = absurd (omega arith)
is-last true false k n h below = eq-eqb k (n + 1 - 1) (omega arith)

covers-digit : (schema : SchemaValue) (totals : Bool) (of : NameOf) (k c : ℕ) → k < category_count schema of + cond totals 1 0
    → ((c == k) || (totals && (k == category_count schema of + cond totals 1 0 - 1))) ≡ covers (entry_at schema of k) c
covers-digit schema totals of k c below =
    elim (cases_lt k (category_count schema of)) [
      | inl h ↦ rw (lt-ltb k (category_count schema of) h) (not-last totals (c == k) k (category_count schema of) h ∙ eq-swap c k)
      | inr h ↦ rw (le-ltb k (category_count schema of) h) (is-last totals (c == k) k (category_count schema of) h below)
    ]

-- a place lies in another exactly where its categories do
pub under-lies_in : (schema : SchemaValue) (query : QueryValue) (at : ℕ → ℕ) (of : List NameOf) (i : ℕ) → i < product (map (size_of schema query) of) → AllBelow schema at of
    → under query.totals (map (size_of schema query) of) i (place_number schema query of at) ≡ lies_in schema of (place_at schema query of i) at
under-lies_in schema query at [] i below fits = refl
under-lies_in schema query at (of ∷ rest) i below fits =
    let m : ℕ = product (map (size_of schema query) rest) in
    let c = cut (size_of schema query of) m i below in
    let small : place_number schema query rest at < m = number-below schema query at rest fits.1 in
    rw (
      div-mul-add (category_of schema of at) m (place_number schema query rest at) small,
      mod-mul-add (category_of schema of at) m (place_number schema query rest at) small,
      covers-digit schema query.totals of (i / m) (category_of schema of at) c.row,
      under-lies_in schema query at rest (i % m) c.column fits.1,
    ) refl

passed-at : (schema : SchemaValue) (x : Filter) (at : ℕ → ℕ) → at (base_of schema x.of) < slice_index (shape_of schema) (base_of schema x.of)
    → slice_index_or (condition_of schema x).passed (at (base_of schema x.of)) false ≡ passes schema x at
passed-at schema x at below =
    get_or-map-range_with_len (λ c. passes schema x (λ _. c)) 0 (slice_index (shape_of schema) (base_of schema x.of)) (at (base_of schema x.of)) (at (base_of schema x.of)) false below (omega arith)

-- filters that are all passed add nothing, and one that fails adds at least the number of the places
filters-pass : (schema : SchemaValue) (places : ℕ) (at : ℕ → ℕ) (fs : List Filter) → AtNames schema at (map (λ f. f.of) fs) → list_all (λ f. passes schema f at) fs ≡ true → filter_number places (map (condition_of schema) fs) at ≡ 0
filters-pass schema places at [] fits all = refl
filters-pass schema places at (x ∷ xs) fits all =
    elim (passes schema x at) as (λ b. passes schema x at ≡ b → (b && list_all (λ f. passes schema f at) xs) ≡ true → filter_number places (map (condition_of schema) (x ∷ xs)) at ≡ 0) [
      | true ↦ λ h rest. rw (passed-at schema x at fits.0, h, filters-pass schema places at xs fits.1 rest) refl
      | false ↦ λ h rest. cc
    ] refl all

filters-fail : (schema : SchemaValue) (places : ℕ) (at : ℕ → ℕ) (fs : List Filter) → AtNames schema at (map (λ f. f.of) fs) → list_all (λ f. passes schema f at) fs ≡ false → places ≤ filter_number places (map (condition_of schema) fs) at
filters-fail schema places at [] fits some = cc
filters-fail schema places at (x ∷ xs) fits some =
    elim (passes schema x at) as (λ b. passes schema x at ≡ b → (b && list_all (λ f. passes schema f at) xs) ≡ false → places ≤ filter_number places (map (condition_of schema) (x ∷ xs)) at) [
      | true ↦ λ h rest. rw (passed-at schema x at fits.0, h) (omega (arith, filters-fail schema places at xs fits.1 rest))
      | false ↦ λ h rest. rw (passed-at schema x at fits.0, h) (omega arith)
    ] refl some

-- categories lead into a place exactly where they belong to it
pub reach : (schema : SchemaValue) (query : QueryValue) (at : ℕ → ℕ) (i : ℕ) → IsPlan (plan_of schema query)
    → EachNamed (λ v. at v < slice_index (shape_of schema) v) schema query
    → i < product (map (size_of schema query) query.dimensions)
    → (nat_lt (number_at (plan_of schema query) at) (product (map (size_of schema query) query.dimensions)) && under query.totals (map (size_of schema query) query.dimensions) i (number_at (plan_of schema query) at))
    ≡ belongs schema query (place_at schema query query.dimensions i) at
reach schema query at i is fits below =
    let n : ℕ = product (map (size_of schema query) query.dimensions) in
    let small = all-below schema at (shape_of schema) query.dimensions is.dimensions fits.dimensions in
    let number : number_at (plan_of schema query) at ≡ place_number schema query query.dimensions at + filter_number (place_count (plan_of schema query)) (map (condition_of schema) query.filters) at =
    number-parts (plan_of schema query) at is ∙ ap
    (λ k. k + filter_number (place_count (plan_of schema query)) (map (condition_of schema) query.filters) at)
    (number-plan_of schema query at query.dimensions fits.dimensions) in
    let places : place_count (plan_of schema query) ≡ n = ap product (sizes-plan_of schema query query.dimensions) in
    let here : place_number schema query query.dimensions at < n = number-below schema query at query.dimensions small in
    elim (passes_all schema query at) as (λ b. passes_all schema query at ≡ b → (nat_lt (number_at (plan_of schema query) at) n && under query.totals (map (size_of schema query) query.dimensions) i (number_at (plan_of schema query) at)) ≡ (b && lies_in schema query.dimensions (place_at schema query query.dimensions i) at)) [
      | true ↦ λ h.
          let same : number_at (plan_of schema query) at ≡ place_number schema query query.dimensions at = omega
          (arith, number, filters-pass schema (place_count (plan_of schema query)) at query.filters fits.filters h) in
          rw (same, lt-ltb (place_number schema query query.dimensions at) n here) (under-lies_in schema query at query.dimensions i below small)
      | false ↦ λ h.
          let past : n ≤ number_at (plan_of schema query) at = omega
          (arith, number, places, filters-fail schema (place_count (plan_of schema query)) at query.filters fits.filters h) in
          rw (le-ltb (number_at (plan_of schema query) at) n past) refl
    ] refl
