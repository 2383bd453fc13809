-- A query's table, rolled up from the cube over its plan's variables.
use Rattle.std.proofs.Common.{◌≡◌, ℕ, ◌<◌, ◌∙◌, true, List, [], ◌∷◌, length, map, refl, ap, subst, arith}
use Rattle.std.specs.Prelude.{◌==◌, Bool, Ok, Some, slice_get, slice_index_or}
use Rattle.std.specs.List.{list_any, AllByRecursion}
use Rattle.std.proofs.lemmas.Bool.{eq-eqb, or_left, or_right}
use Rattle.std.proofs.lemmas.List.{length-map, get_or-map}
use Rattle.std.proofs.lemmas.List.Elements.{recursion_from_All}
use Rattle.std.proofs.lemmas.Option.{slice_get_within, get_or_from_slice_get}
use Rattle.tb_base.specs.declared.records.Record.{Record}
use Rattle.tb_base.specs.Records.{AllFit}
use Rattle.tb_base.specs.Sets.{is_in}
use Rattle.tb_cube.proofs.Grid.{all-fit}
use Rattle.tb_model.specs.declared.names.Filter.{Filter}
use Rattle.tb_model.specs.declared.names.NameOf.{NameOf}
use Rattle.tb_model.specs.declared.names.NameOf.TheVariants as name_of
use Rattle.tb_model.specs.Cubes.{cube_of, rolled_up}
use Rattle.tb_model.specs.Places.{cells_of}
use Rattle.tb_model.specs.Queries.{QueryValue}
use Rattle.tb_model.specs.Schemas.{base_of, shape_of, SchemaValue, VariableValue}
use Rattle.tb_model.proofs.CubeLemmas.{rolled_up-cube_of, AllAmong}
use Rattle.tb_plan.specs.Plans.{condition_of, dimension_of, plan_of, uses, vars_of, ConditionValue, DimensionValue, PlanValue}
use Rattle.tb_query.specs.Faults.{Reads}
use Rattle.tb_query.specs.Over.{IsFilterOver, IsOver}
use Rattle.tb_query.proofs.Refusals.{over_result}
use Rattle.tb_rollup.proofs.Among.{all-range}
use Rattle.tb_rollup.proofs.Own.{includes-own, there-own}
use Rattle.tb_schema.specs.Names.{IsName}
use Rattle.tb_schema.specs.Sound.{IsSound}

-- a name's variable is one of the schema's
name_there : (schema : SchemaValue) (of : NameOf) → IsSound schema → IsName schema of → base_of schema of < length (shape_of schema)
name_there schema (name_of.Variable v) sound is = rw (length-map schema.variables (λ (v : VariableValue). length v.categories)) is
name_there schema (name_of.Recode r) sound is =
    rw (length-map schema.variables (λ (v : VariableValue). length v.categories)) (sound.recodes r (record { name = []; variable = 0; groups = []; group_of = [] }) is).variable

any-map : {X Y : Type 0} (f : X → Y) (p : Y → Bool) (xs : List X) → list_any p (map f xs) ≡ list_any (λ x. p (f x)) xs
any-map f p [] = refl
any-map f p (x ∷ xs) = rw (any-map f p xs) refl

all-weaker : {X : Type 0} (P Q : X → Type 0) → ((x : X) → P x → Q x) → (xs : List X) → AllByRecursion P xs → AllByRecursion Q xs
all-weaker P Q so [] all = tt
all-weaker P Q so (x ∷ xs) all = (so x all.0, all-weaker P Q so xs all.1)

all-mapped : {X Y : Type 0} (f : X → Y) (P : Y → Type 0) (xs : List X) → AllByRecursion (λ x. P (f x)) xs → AllByRecursion P (map f xs)
all-mapped f P [] all = tt
all-mapped f P (x ∷ xs) all = (all.0, all-mapped f P xs all.1)

-- what is so of each number that is under one of some things
each-under : {X : Type 0} (under : X → ℕ) (n : ℕ) (P : ℕ → Type 0) (xs : List X) → AllByRecursion (λ x. under x < n) xs
    → ((v : ℕ) → v < n → list_any (λ x. under x == v) xs ≡ true → P v) → AllByRecursion (λ x. P (under x)) xs
each-under under n P [] low holds = tt
each-under under n P (x ∷ xs) low holds = (
  holds (under x) low.0 (or_left (under x == under x) _ (eq-eqb (under x) (under x) refl)),
  each-under under n P xs low.1 (λ v below h. holds v below (or_right (under x == v) _ h)),
)

module _ (schema : SchemaValue) (query : QueryValue) (sound : IsSound schema) (over : IsOver schema query) where
  abbrev plan : PlanValue
  plan = plan_of schema query

  abbrev count : ℕ
  count = length (shape_of schema)

  -- a variable that the plan uses is one of its own
  used-in : (v : ℕ) → v < count → uses plan v ≡ true → is_in (vars_of plan) v ≡ true
  used-in v below used = all-range (is_in (vars_of plan)) (uses plan) 0 count v (includes-own (vars_of plan)) (omega arith) (omega (arith, below)) used

  dimensions-among : AllAmong schema (vars_of plan) query.dimensions
  dimensions-among =
      each-under (base_of schema) count (λ v. is_in (vars_of plan) v ≡ true) query.dimensions
      (all-weaker (IsName schema) (λ of. base_of schema of < count) (λ of is. name_there schema of sound is) query.dimensions (recursion_from_All (IsName schema) query.dimensions over.names))
      (λ v below h. used-in v below (or_left _ _ (any-map (dimension_of schema) (λ (d : DimensionValue). d.variable == v) query.dimensions ∙ h)))

  filters-among : AllAmong schema (vars_of plan) (map (λ x. x.of) query.filters)
  filters-among =
      all-mapped (λ (x : Filter). x.of) (λ of. is_in (vars_of plan) (base_of schema of) ≡ true) query.filters
      (each-under (λ (x : Filter). base_of schema x.of) count (λ v. is_in (vars_of plan) v ≡ true) query.filters
      (all-weaker (IsFilterOver schema) (λ x. base_of schema x.of < count) (λ x is. name_there schema x.of sound is.name) query.filters (recursion_from_All (IsFilterOver schema) query.filters over.filters))
      (λ v below h. used-in v below (or_right _ _ (any-map (condition_of schema) (λ (f : ConditionValue). f.variable == v) query.filters ∙ h))))

  own-cells : (records : List Record) → AllFit (shape_of schema) records
      → rolled_up schema query (shape_of schema) (vars_of plan) (cube_of (shape_of schema) (vars_of plan) records) ≡ cells_of schema query records
  own-cells records fit =
      rolled_up-cube_of schema query (shape_of schema) (vars_of plan) records (all-fit (shape_of schema) (vars_of plan) records (there-own plan) fit) dimensions-among filters-among

-- from the cube over the variables of the plan of a query that was read come the cells of its table
pub rolled-own : (schema : SchemaValue) (line : List ℕ) (query : QueryValue) (vars : List ℕ) (records : List Record) → IsSound schema → Reads schema line query
    → vars_of (plan_of schema query) ≡ vars → AllFit (shape_of schema) records
    → rolled_up schema query (shape_of schema) vars (cube_of (shape_of schema) vars records) ≡ cells_of schema query records
rolled-own schema line query vars records sound reads same fit =
    subst (λ (vs : List ℕ). rolled_up schema query (shape_of schema) vs (cube_of (shape_of schema) vs records) ≡ cells_of schema query records) same
    (own-cells schema query sound (over_result schema line (Ok query) reads) records fit)

-- the element at a place of a list that was mapped
pub mapped-at : {X Y : Type 0} (f : X → Y) (xs : List X) (i : ℕ) (x : X) (y : Y) → slice_get xs i ≡ Some x → slice_index_or (map f xs) i y ≡ f x
mapped-at f xs i x y at = get_or-map f xs i x y (slice_get_within xs i x at) ∙ ap f (get_or_from_slice_get xs i x x at)
