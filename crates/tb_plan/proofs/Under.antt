-- What is true of each variable that a plan uses is true of the variable under each dimension and each filter.
use Rattle.std.proofs.Common.{◌≡◌, ℕ, ◌<◌, true, List, [], ◌∷◌, length, map, refl}
use Rattle.std.specs.Prelude.{◌==◌}
use Rattle.std.specs.List.{list_any, AllByRecursion}
use Rattle.std.proofs.lemmas.Bool.{eq-eqb, or_left, or_right}
use Rattle.tb_model.specs.declared.names.NameOf.{NameOf}
use Rattle.tb_model.specs.declared.names.Filter.{Filter}
use Rattle.tb_model.specs.Schemas.{SchemaValue, base_of}
use Rattle.tb_model.specs.Queries.{QueryValue}
use Rattle.tb_plan.specs.Plans.{PlanValue, dimension_of, condition_of, plan_of, uses}
use Rattle.tb_plan.specs.Whole.{IsDimension, IsCondition, IsPlan}

each-weaker : {X : Type 0} (P Q : X → Type 0) (xs : List X) → ((x : X) → P x → Q x) → AllByRecursion P xs → AllByRecursion Q xs
each-weaker P Q [] so all = tt
each-weaker P Q (x ∷ xs) so all = (so x all.0, each-weaker P Q xs so all.1)

each-mapped : {X Y : Type 0} (f : X → Y) (P : Y → Type 0) (xs : List X) → AllByRecursion P (map f xs) → AllByRecursion (λ x. P (f x)) xs
each-mapped f P [] all = tt
each-mapped f P (x ∷ xs) all = (all.0, each-mapped f P xs all.1)

-- of things that are each over a variable
each-over : {X : Type 0} (over : X → ℕ) (n : ℕ) (P : ℕ → Type 0) (xs : List X) → AllByRecursion (λ x. over x < n) xs
    → ((v : ℕ) → v < n → list_any (λ x. over x == v) xs ≡ true → P v) → AllByRecursion (λ x. P (over x)) xs
each-over over n P [] low holds = tt
each-over over n P (x ∷ xs) low holds = (
  holds (over x) low.0 (or_left (over x == over x) _ (eq-eqb (over x) (over x) refl)),
  each-over over n P xs low.1
      (λ v below h. holds v below (or_right (over x == v) _ h)),
)

-- of a plan's dimensions and filters
pub record EachUnder (P : ℕ → Type 0) (plan : PlanValue) : Type 0 where
  pub dimensions : AllByRecursion (λ d. P d.variable) plan.dimensions
  pub filters : AllByRecursion (λ f. P f.variable) plan.filters

pub each-under : (P : ℕ → Type 0) (plan : PlanValue) → IsPlan plan → ((v : ℕ) → v < length plan.shape → uses plan v ≡ true → P v)
    → EachUnder P plan
each-under P plan is holds =
    let n : ℕ = length plan.shape in
    record {
      dimensions = each-over (λ d. d.variable) n P plan.dimensions
          (each-weaker (IsDimension plan.shape) _ plan.dimensions (λ d h. h.there) is.dimensions) (λ v below h. holds v below (or_left _ _ h));
      filters = each-over (λ f. f.variable) n P plan.filters
          (each-weaker (IsCondition plan.shape) _ plan.filters (λ f h. h.there) is.filters) (λ v below h. holds v below (or_right _ _ h));
    }

-- of a query's names
pub record EachNamed (P : ℕ → Type 0) (schema : SchemaValue) (query : QueryValue) : Type 0 where
  pub dimensions : AllByRecursion (λ of. P (base_of schema of)) query.dimensions
  pub filters : AllByRecursion (λ of. P (base_of schema of)) (map (λ f. f.of) query.filters)

names-of : (P : NameOf → Type 0) (fs : List Filter) → AllByRecursion (λ (f : Filter). P f.of) fs
    → AllByRecursion P (map (λ (f : Filter). f.of) fs)
names-of P [] all = tt
names-of P (f ∷ fs) all = (all.0, names-of P fs all.1)

pub each-named : (P : ℕ → Type 0) (schema : SchemaValue) (query : QueryValue) → IsPlan (plan_of schema query)
    → ((v : ℕ) → v < length (plan_of schema query).shape → uses (plan_of schema query) v ≡ true → P v) → EachNamed P schema query
each-named P schema query is holds =
    let under = each-under P (plan_of schema query) is holds in
    record {
      dimensions = each-mapped (dimension_of schema) (λ d. P d.variable) query.dimensions under.dimensions;
      filters = names-of (λ of. P (base_of schema of)) query.filters
          (each-mapped (condition_of schema) (λ f. P f.variable) query.filters under.filters);
    }
