-- A plan's dimensions and filters, one by one.
use Rattle.std.proofs.Common.{◌≡◌, ℕ, zero, suc, ◌+◌, ◌*◌, ◌<◌, ◌≤◌, Bool, true, false, cond, List, [], ◌∷◌, ◌++◌, length, map, take, drop, get_or, refl, ap, sym, ◌∙◌, inl, inr, arith, subst}
use Rattle.std.specs.Prelude.{◌==◌, slice_index, slice_index_or}
use Rattle.std.specs.List.{range_with_len, filter, AllByRecursion}
use Rattle.std.proofs.lemmas.Bool.{cases_Bool, eqb-true, eq-eqb, ne_eqb}
use Rattle.std.proofs.lemmas.List.{length-map, get_or-map, drop_more, drop-map, map-id, map-append, append-nil, take_more}
use Rattle.std.proofs.lemmas.List.Elements.{filter-append, All-from_recursion}
use Rattle.std.proofs.lemmas.List.FromFn.{map-range_with_len_more}
use Rattle.tb_model.specs.declared.names.NameOf.{NameOf}
use Rattle.tb_model.specs.Schemas.{SchemaValue, category_count, shape_of}
use Rattle.tb_model.specs.declared.names.Filter.{Filter}
use Rattle.tb_model.specs.Queries.{QueryValue}
use Rattle.tb_model.specs.Places.{places_of}
use Rattle.tb_model.proofs.TableLemmas.{length-places}
use Rattle.tb_model.specs.declared.names.NameOf.TheVariants as name_of
use Rattle.tb_schema.specs.Names.{IsName}
use Rattle.tb_schema.specs.Sound.{IsSound}
use Rattle.tb_schema.specs.declared.limits.TheConstants.{MOST_VARIABLES}
use Rattle.tb_query.specs.declared.limits.TheConstants.{MOST_DIMENSIONS, MOST_FILTERS}
use Rattle.tb_query.specs.Over.{IsOver}
use Rattle.std.proofs.lemmas.Nat.{mul-le}
use Rattle.tb_model.specs.RowMajor.{product}
use Rattle.tb_grid.specs.Totals.{AreSome}
use Rattle.tb_plan.specs.declared.dimension.Dimension.{Dimension}
use Rattle.tb_plan.specs.declared.condition.Condition.{Condition}
use Rattle.tb_plan.specs.Plans.{DimensionValue, ConditionValue, PlanValue, dimension_at, condition_at, entry_count, sizes, place_count, plan_of, dimension_of, condition_of}
use Rattle.tb_plan.specs.Whole.{IsDimension, IsCondition, AreDimensions, AreConditions, IsPlan}
use Rattle.tb_plan.proofs.Places.{sizes-plan_of}
use Rattle.tb_plan.specs.Steps.{dimension_step, filter_step}
use Rattle.tb_plan.specs.Views.{dimension_view, condition_view, plan_view}

abbrev no_dimension : DimensionValue
no_dimension = record { variable = 0; categories = 0; entries = [] }

abbrev no_condition : ConditionValue
no_condition = record { variable = 0; passed = [] }

-- what is kept at a number: what is seen there, and what is true of it
pub record Kept {X Y : Type 0} (see : X → Y) (P : Y → Type 0) (seen : Y) (x : X) : Type 0 where
  pub view : seen ≡ see x
  pub is : P (see x)

kept-at : {X Y : Type 0} (view : X → Y) (P : Y → Type 0) (items : List X) (i : ℕ) (x : X) (e : Y) → AllByRecursion P (map view items)
    → i < length (map view items) → x ≡ get_or items i x → Kept view P (get_or (map view items) i e) x
kept-at view P items i x e all below at =
    let seen : get_or (map view items) i e ≡ view x = get_or-map view items i x e (omega (arith, below, length-map items view)) ∙ ap view
    (sym at) in
    record { view = seen; is = subst P seen (All-from_recursion P (map view items) all i e below) }

pub sizes-some : (totals : Bool) (shape : List ℕ) (ds : List DimensionValue) → AreDimensions shape ds → AreSome (map (entry_count totals) ds)
sizes-some totals shape [] are = tt
sizes-some totals shape (d ∷ ds) are = (omega (arith, are.0.some), sizes-some totals shape ds are.1)

-- the step of a dimension, and of those after it
pub dimension-step-more : (totals : Bool) (ds : List DimensionValue) (d v c : ℕ) (e : DimensionValue) → d < length ds
    → dimension_step totals (drop d ds) v c ≡ cond ((get_or ds d e).variable == v) (slice_index (get_or ds d e).entries c * product (drop (d + 1) (map (entry_count totals) ds))) 0 + dimension_step totals (drop (d + 1) ds) v c
dimension-step-more totals ds d v c e below =
    ap (λ xs. dimension_step totals xs v c) (drop_more ds d e below)
    ∙ ap (λ k. cond ((get_or ds d e).variable == v) (slice_index (get_or ds d e).entries c * product k) 0 + dimension_step totals (drop (d + 1) ds) v c) (sym (drop-map (entry_count totals) (d + 1) ds))

pub filter-step-more : (places : ℕ) (fs : List ConditionValue) (f v c : ℕ) (e : ConditionValue) → f < length fs
    → filter_step places (drop f fs) v c ≡ cond ((get_or fs f e).variable == v) (cond (slice_index_or (get_or fs f e).passed c false) 0 places) 0 + filter_step places (drop (f + 1) fs) v c
filter-step-more places fs f v c e below = ap (λ xs. filter_step places xs v c) (drop_more fs f e below)

-- the steps are within the places
within : (e n m s : ℕ) → e < n → s ≤ m → e * m + s ≤ n * m
within e n m s h k =
    let one : (e + 1) * m ≤ n * m = mul-le (e + 1) m n m (omega arith) (omega arith) in
    omega (arith, one)

pub dimension-step-le : (totals : Bool) (shape : List ℕ) (ds : List DimensionValue) (v c : ℕ) → AreDimensions shape ds → c < slice_index shape v → dimension_step totals ds v c ≤ product (map (entry_count totals) ds)
dimension-step-le totals shape [] v c are below = omega arith
dimension-step-le totals shape (d ∷ ds) v c are below =
    let ih = dimension-step-le totals shape ds v c are.1 below in
    let m : ℕ = product (map (entry_count totals) ds) in
    elim (cases_Bool (d.variable == v)) [
      | inl t ↦
          let same : d.variable ≡ v = eqb-true d.variable v t in
          let there : c < length d.entries = omega (arith, are.0.long, ap (slice_index shape) same) in
          rw t (within (slice_index d.entries c) (entry_count totals d) m (dimension_step totals ds v c) (omega (arith, are.0.within c there)) ih)
      | inr t ↦
          rw t (omega (arith, ih, within 0 (entry_count totals d) m (dimension_step totals ds v c) (omega (arith, are.0.some)) ih))
    ]

pub filter-step-le : (places : ℕ) (fs : List ConditionValue) (v c : ℕ) → filter_step places fs v c ≤ length fs * places
filter-step-le places [] v c = omega arith
filter-step-le places (f ∷ fs) v c =
    let ih = filter-step-le places fs v c in
    elim (cases_Bool (f.variable == v)) [
      | inl t ↦ rw t (elim (cases_Bool (slice_index_or f.passed c false)) [ inl u ↦ rw u (omega (arith, ih)) | inr u ↦ rw u (omega (arith, ih)) ])
      | inr t ↦ rw t (omega (arith, ih))
    ]

-- the dimension, and the filter, that are kept at a number
pub kept-dimension : (shape : List ℕ) (ds : List Dimension) (fs : List Condition) (totals : Bool) (plan : PlanValue) (d : ℕ) (x : Dimension)
    → plan_view shape ds fs totals ≡ plan → IsPlan (plan_view shape ds fs totals) → d < length plan.dimensions → x ≡ get_or ds d x → Kept
    dimension_view (IsDimension plan.shape) (dimension_at plan d) x
kept-dimension shape ds fs totals plan d x e is =
    let P : PlanValue → Type 0 = λ p. d < length p.dimensions → x ≡ get_or ds d x → Kept dimension_view (IsDimension p.shape)
    (dimension_at p d) x in
    subst P e (λ below at. kept-at dimension_view (IsDimension shape) ds d x no_dimension is.dimensions below at)

pub kept-condition : (shape : List ℕ) (ds : List Dimension) (fs : List Condition) (totals : Bool) (plan : PlanValue) (f : ℕ) (x : Condition)
    → plan_view shape ds fs totals ≡ plan → IsPlan (plan_view shape ds fs totals) → f < length plan.filters → x ≡ get_or fs f x → Kept
    condition_view (IsCondition plan.shape) (condition_at plan f) x
kept-condition shape ds fs totals plan f x e is =
    let P : PlanValue → Type 0 = λ p. f < length p.filters → x ≡ get_or fs f x → Kept condition_view (IsCondition p.shape)
    (condition_at p f) x in
    subst P e (λ below at. kept-at condition_view (IsCondition shape) fs f x no_condition is.filters below at)

-- a list that is made of the numbers of a range, with one more
pub push-range : {X : Type 0} (f : ℕ → X) (n : ℕ) (old new : List X) (x : X) → old ≡ map f (range_with_len 0 n) → x ≡ f n → new ≡ old ++ x ∷ [] → new ≡ map f (range_with_len 0 (n + 1))
push-range f n old new x made is pushed = pushed ∙ rw (made, is) (sym (map-range_with_len_more f 0 n n (omega arith)))

range-more : (n : ℕ) → range_with_len 0 (n + 1) ≡ range_with_len 0 n ++ n ∷ []
range-more n = sym (map-id (range_with_len 0 (n + 1))) ∙ map-range_with_len_more (λ (x : ℕ). x) 0 n n (omega arith) ∙ ap (λ xs. xs ++ n ∷ []) (map-id (range_with_len 0 n))

pub push-filter : (used : ℕ → Bool) (n : ℕ) (old new : List ℕ) → old ≡ filter used (range_with_len 0 n) → true ≡ used n → new ≡ old ++ n ∷ [] → new ≡ filter used (range_with_len 0 (n + 1))
push-filter used n old new made is pushed = pushed ∙ rw made (sym (rw (range-more n, filter-append used (range_with_len 0 n) (n ∷ []), ← is) refl))

pub skip-filter : (used : ℕ → Bool) (n : ℕ) (old : List ℕ) → old ≡ filter used (range_with_len 0 n) → false ≡ used n → old ≡ filter used (range_with_len 0 (n + 1))
skip-filter used n old made is = made ∙ sym (rw (range-more n, filter-append used (range_with_len 0 n) (n ∷ []), ← is, append-nil) refl)

-- one dimension or filter more of a query
pub push-view : {X Y Z : Type 0} (view : X → Z) (of : Y → Z) (xs new : List X) (x : X) (ys : List Y) (i : ℕ) (d : Y) → i < length ys → map view xs ≡ map of (take i ys) → view x ≡ of (get_or ys i d) → new ≡ xs ++ x ∷ []
    → map view new ≡ map of (take (i + 1) ys)
push-view view of xs new x ys i d below made is pushed =
    ap (map view) pushed ∙ map-append view xs (x ∷ []) ∙ rw (made, is) (sym (ap (map of) (take_more ys i d below) ∙ map-append of (take i ys) (get_or ys i d ∷ [])))

-- what a dimension adds where it is over the variable, and where it is over another
pub step-here : (plan : PlanValue) (sizes' : List ℕ) (d v c entry places : ℕ) → d < length plan.dimensions → sizes' ≡ sizes plan → (dimension_at plan d).variable ≡ v
    → entry ≡ slice_index (dimension_at plan d).entries c → places ≡ product (drop (d + 1) sizes')
    → dimension_step plan.totals (drop d plan.dimensions) v c ≡ entry * places + dimension_step plan.totals (drop (d + 1) plan.dimensions) v c
step-here plan sizes' d v c entry places below same is e p =
    dimension-step-more plan.totals plan.dimensions d v c no_dimension below ∙ rw (eq-eqb (dimension_at plan d).variable v is, ← e, ← same, ← p) refl

pub step-past : (plan : PlanValue) (d v c : ℕ) → d < length plan.dimensions → ((dimension_at plan d).variable ≡ v → ⊥)
    → dimension_step plan.totals (drop d plan.dimensions) v c ≡ dimension_step plan.totals (drop (d + 1) plan.dimensions) v c
step-past plan d v c below other =
    dimension-step-more plan.totals plan.dimensions d v c no_dimension below ∙ rw (ne_eqb (dimension_at plan d).variable v other) (omega arith)

pub is-filter-name : (schema : SchemaValue) (query : QueryValue) (f : ℕ) (x : Filter) → IsOver schema query → f < length query.filters → x ≡ get_or query.filters f x → IsName schema x.of
is-filter-name schema query f x over below at =
    let P : Filter → Type 0 = λ y. IsName schema y.of in
    subst P (sym at) (over.filters f x below).name

-- each name has a category
pub some-category : (schema : SchemaValue) (of : NameOf) → IsSound schema → IsName schema of → 0 < category_count schema of
some-category schema (name_of.Variable v) sound there =
    let some = (sound.variables v (record { name = []; categories = [] }) there).some in
    rw length-map (omega (arith, some))
some-category schema (name_of.Recode r) sound there =
    let some = (sound.recodes r (record { name = []; variable = 0; groups = []; group_of = [] }) there).some in
    omega (arith, some)

-- one more that is kept
push-each : {Y : Type 0} (P : Y → Type 0) (ys : List Y) (y : Y) → AllByRecursion P ys → P y → AllByRecursion P (ys ++ y ∷ [])
push-each P [] y all is = (is, tt)
push-each P (x ∷ xs) y all is = (all.0, push-each P xs y all.1 is)

pub kept-more : {X Y : Type 0} (view : X → Y) (P : Y → Type 0) (old new : List X) (x : X) → AllByRecursion P (map view old) → P (view x)
    → new ≡ old ++ x ∷ [] → AllByRecursion P (map view new)
kept-more view P old new x all is e =
    let made : map view new ≡ map view old ++ view x ∷ [] = ap (map view) e ∙ map-append view old (x ∷ []) in
    rw made (push-each P (map view old) (view x) all is)

-- the plan of a query has its places
pub place_count-plan_of : (schema : SchemaValue) (query : QueryValue) → place_count (plan_of schema query) ≡ length (places_of schema query)
place_count-plan_of schema query = ap product (sizes-plan_of schema query query.dimensions) ∙ sym (length-places schema query)

-- the parts of a plan make a plan
pub is-plan : (schema : SchemaValue) (query : QueryValue) (shape : List ℕ) (ds : List Dimension) (fs : List Condition) (totals : Bool) → IsOver schema query → IsSound schema
    → shape ≡ shape_of schema → map dimension_view ds ≡ map (dimension_of schema) query.dimensions → map condition_view fs ≡ map (condition_of schema) query.filters → totals ≡ query.totals
    → AreDimensions (shape_of schema) (map dimension_view ds) → AreConditions (shape_of schema) (map condition_view fs) → IsPlan (plan_view shape ds fs totals)
is-plan schema query shape ds fs totals over sound s d f t dimensions filters =
    let made : plan_of schema query ≡ plan_view shape ds fs totals = rw (s, d, f, t) refl in
    let few_d : length (map (dimension_of schema) query.dimensions) ≤ MOST_DIMENSIONS = rw length-map over.few_dimensions in
    let few_f : length (map (condition_of schema) query.filters) ≤ MOST_FILTERS = rw length-map over.few_filters in
    let few_v : length (shape_of schema) ≤ MOST_VARIABLES = rw length-map sound.few_variables in
    let is : IsPlan (plan_of schema query) = record {
      dimensions = rw d at dimensions;
      filters = rw f at filters;
      few_dimensions = few_d;
      few_filters = few_f;
      few_places = omega (arith, place_count-plan_of schema query, over.few_places);
      few_variables = few_v;
    } in
    subst IsPlan made is
