-- A table's cells from a cube over its variables.
use Rattle.std.proofs.Common.{◌≡◌, ℕ, ◌<◌, length, Bool, true, false, cond, zip, ◌++◌, List, [], ◌∷◌, map, refl, ap, sym, ◌∙◌, inl, inr}
use Rattle.std.specs.Prelude.{bytes_eq, ◌==◌, slice_index}
use Rattle.std.specs.List.{filter, list_all, list_any, AllByRecursion}
use Rattle.std.proofs.lemmas.Bool.Decides.{eqb_tells}
use Rattle.tb_base.specs.declared.records.Record.{Record}
use Rattle.tb_base.specs.Cells.{cell_of, merged_sum, merged_all}
use Rattle.tb_model.specs.declared.names.NameOf.{NameOf}
use Rattle.tb_model.specs.declared.names.Filter.{Filter}
use Rattle.tb_model.specs.Schemas.{SchemaValue, base_of}
use Rattle.tb_model.specs.Queries.{QueryValue, passes}
use Rattle.tb_base.specs.Records.{category_at, Fits}
use Rattle.tb_base.proofs.CellsBy.{cells_by-append}
use Rattle.tb_model.specs.Places.{Place, lies_in, belongs, cells_of, places_of}
use Rattle.tb_model.specs.Cubes.{category_lists, cube_of, category_in, merged_where, rolled_up, narrowed}
use Rattle.tb_model.proofs.RollUp.{EachBelow, AllOnce, grid_once, merged_up}

-- the two give equal categories to the variable under each of the names, and under each of the filters
abbrev pub SameUnder : SchemaValue → (ℕ → ℕ) → (ℕ → ℕ) → List NameOf → Type 0
SameUnder schema f g [] = Unit {0}
SameUnder schema f g (of ∷ rest) = (f (base_of schema of) ≡ g (base_of schema of)) × SameUnder schema f g rest

lies_in-same : (schema : SchemaValue) (f g : ℕ → ℕ) (dimensions : List NameOf) (place : Place) → SameUnder schema f g dimensions → lies_in schema dimensions place f ≡ lies_in schema dimensions place g
lies_in-same schema f g [] place same = refl
lies_in-same schema f g (of ∷ rest) [] same = refl
lies_in-same schema f g (of ∷ rest) (e ∷ place) same = rw (same.0, lies_in-same schema f g rest place same.1) refl

passes-same : (schema : SchemaValue) (f g : ℕ → ℕ) (filters : List Filter) → SameUnder schema f g (map (λ x. x.of) filters)
    → list_all (λ x. passes schema x f) filters ≡ list_all (λ x. passes schema x g) filters
passes-same schema f g [] same = refl
passes-same schema f g (x ∷ xs) same = rw (same.0, passes-same schema f g xs same.1) refl

-- what belongs to a place is told by the categories under the dimensions and the filters
pub belongs-same : (schema : SchemaValue) (query : QueryValue) (place : Place) (f g : ℕ → ℕ) → SameUnder schema f g query.dimensions → SameUnder schema f g (map (λ x. x.of) query.filters)
    → belongs schema query place f ≡ belongs schema query place g
belongs-same schema query place f g dimensions filters =
    rw (passes-same schema f g query.filters filters, lies_in-same schema f g query.dimensions place dimensions) refl

-- the variable under each of the names is among these
abbrev pub AllAmong : SchemaValue → List ℕ → List NameOf → Type 0
AllAmong schema vars names = AllByRecursion (λ of. list_any (λ w. w == base_of schema of) vars ≡ true) names

category_in-map : (f : ℕ → ℕ) (vars : List ℕ) (v : ℕ) → list_any (λ w. w == v) vars ≡ true → f v ≡ category_in vars (map f vars) v
category_in-map f [] v among = cc
category_in-map f (w ∷ ws) v among =
    elim (eqb_tells w v) [
      | inl h ↦ rw h.0 (ap f (sym h.1))
      | inr h ↦ rw h.0 (category_in-map f ws v (rw h.0 at among))
    ]

same_among : (schema : SchemaValue) (f : ℕ → ℕ) (vars : List ℕ) (of : List NameOf) → AllAmong schema vars of → SameUnder schema f (category_in vars (map f vars)) of
same_among schema f vars [] among = tt
same_among schema f vars (of ∷ rest) among = (category_in-map f vars (base_of schema of) among.0, same_among schema f vars rest among.1)

map-ext : {X Y : Type 0} (f g : X → Y) (xs : List X) → ((x : X) → f x ≡ g x) → map f xs ≡ map g xs
map-ext f g [] h = refl
map-ext f g (x ∷ xs) h = rw (h x, map-ext f g xs h) refl

filter-ext : {X : Type 0} (p q : X → Bool) (xs : List X) → ((x : X) → p x ≡ q x) → filter p xs ≡ filter q xs
filter-ext p q [] h = refl
filter-ext p q (x ∷ xs) h = rw (h x, filter-ext p q xs h) refl

-- each record's category of each of the variables is below the shape's count
abbrev pub AllWithin : List ℕ → List ℕ → List Record → Type 0
AllWithin shape vars [] = Unit {0}
AllWithin shape vars (r ∷ rs) = EachBelow (category_at r) (slice_index shape) vars × AllWithin shape vars rs

all_once : (shape vars : List ℕ) (rs : List Record) → AllWithin shape vars rs → AllOnce (λ r. map (category_at r) vars) (category_lists shape vars) rs
all_once shape vars [] fit = tt
all_once shape vars (r ∷ rs) fit = (grid_once (category_at r) (slice_index shape) vars fit.0, all_once shape vars rs fit.1)

map-filter_zip : {A B : Type 0} (f : A → B) (p : A → Bool) (xs : List A) → map f (filter p xs) ≡ map (λ (q : A × B). q.1) (filter (λ (q : A × B). p q.0) (zip xs (map f xs)))
map-filter_zip f p [] = refl
map-filter_zip {A} {B} f p (x ∷ xs) =
    elim (p x) as (λ b. map f (cond b (x ∷ filter p xs) (filter p xs)) ≡ map (λ (q : A × B). q.1) (cond b ((x, f x) ∷ filter (λ (q : A × B). p q.0) (zip xs (map f xs))) (filter (λ (q : A × B). p q.0) (zip xs (map f xs))))) [
      | true ↦ ap (λ ys. f x ∷ ys) (map-filter_zip f p xs)
      | false ↦ map-filter_zip f p xs
    ]

-- the cell of the records that pass a test of their categories is the merge of the cube's cells that pass it, where the cube's variables tell the test
pub merged_where-cube_of : (test : (ℕ → ℕ) → Bool) (shape vars : List ℕ) (rs : List Record) → AllWithin shape vars rs
    → ((r : Record) → test (category_at r) ≡ test (category_in vars (map (category_at r) vars)))
    → merged_where test shape vars (cube_of shape vars rs) ≡ cell_of (filter (λ r. test (category_at r)) rs)
merged_where-cube_of test shape vars rs fit told =
    let at : Record → List ℕ = λ r. map (category_at r) vars in
    let p : List ℕ → Bool = λ c. test (category_in vars c) in
    sym (ap cell_of (filter-ext (λ r. test (category_at r)) (λ r. p (at r)) rs told)
    ∙ merged_up at p (category_lists shape vars) rs (all_once shape vars rs fit)
    ∙ ap merged_sum (map-filter_zip (λ c. cell_of (filter (λ r. bytes_eq (at r) c) rs)) p (category_lists shape vars)))

-- a table's cells from a cube over its variables are those counted from scratch
pub rolled_up-cube_of : (schema : SchemaValue) (query : QueryValue) (shape vars : List ℕ) (rs : List Record)
    → AllWithin shape vars rs → AllAmong schema vars query.dimensions → AllAmong schema vars (map (λ x. x.of) query.filters)
    → rolled_up schema query shape vars (cube_of shape vars rs) ≡ cells_of schema query rs
rolled_up-cube_of schema query shape vars rs fit dimensions filters = map-ext _ _ (places_of schema query) (λ place.
    merged_where-cube_of (belongs schema query place) shape vars rs fit (λ r.
    belongs-same schema query place (category_at r) (category_in vars (map (category_at r) vars)) (same_among schema (category_at r) vars query.dimensions dimensions) (same_among schema (category_at r) vars (map (λ x. x.of) query.filters) filters)))

-- each of these variables is among those
abbrev pub Includes : List ℕ → List ℕ → Type 0
Includes vars [] = Unit {0}
Includes vars (v ∷ vs) = (list_any (λ w. w == v) vars ≡ true) × Includes vars vs

same_fewer : (f : ℕ → ℕ) (vars fewer : List ℕ) → Includes vars fewer → map f fewer ≡ map (category_in vars (map f vars)) fewer
same_fewer f vars [] among = refl
same_fewer f vars (v ∷ vs) among = rw (← category_in-map f vars v among.0, ← same_fewer f vars vs among.1) refl

-- a cube over fewer variables
pub narrowed-cube_of : (shape vars fewer : List ℕ) (rs : List Record) → AllWithin shape vars rs → Includes vars fewer → narrowed shape vars fewer (cube_of shape vars rs) ≡ cube_of shape fewer rs
narrowed-cube_of shape vars fewer rs fit among = map-ext _ _ (category_lists shape fewer) (λ c.
    merged_where-cube_of (λ at. bytes_eq (map at fewer) c) shape vars rs fit (λ r. ap (λ cs. bytes_eq cs c) (same_fewer (category_at r) vars fewer among)))

-- the cube of two lists in a row is the merge of their cubes
pub cube_of-append : (shape vars : List ℕ) (xs ys : List Record) → cube_of shape vars (xs ++ ys) ≡ merged_all (cube_of shape vars xs) (cube_of shape vars ys)
cube_of-append shape vars xs ys = cells_by-append (λ c r. bytes_eq (map (category_at r) vars) c) (category_lists shape vars) xs ys

-- each of these variables is below a number
abbrev pub AllBelow : ℕ → List ℕ → Type 0
AllBelow n [] = Unit {0}
AllBelow n (v ∷ vs) = (v < n) × AllBelow n vs

each_below : (shape : List ℕ) (r : Record) (vars : List ℕ) → Fits shape r → AllBelow (length shape) vars → EachBelow (category_at r) (slice_index shape) vars
each_below shape r [] fits below = tt
each_below shape r (v ∷ vs) fits below = (fits.below v below.0, each_below shape r vs fits below.1)

-- records that fit a shape fit it over some of its variables
pub AllWithin-from_Fits : (shape vars : List ℕ) (rs : List Record) → AllBelow (length shape) vars → AllByRecursion (Fits shape) rs → AllWithin shape vars rs
AllWithin-from_Fits shape vars [] below fits = tt
AllWithin-from_Fits shape vars (r ∷ rs) below fits = (each_below shape r vars fits.0 below, AllWithin-from_Fits shape vars rs below fits.1)
