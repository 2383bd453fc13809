-- The rule of a front: there is one chain, and each seat knows a beginning of it.
use Rattle.std.specs.Prelude.{◌≡◌, ℕ, List, [], ◌∷◌, length}
use mathlib.Core.Option.{some}
use mathlib.Core.List.{IsPrefix}
use lib.ListN.{get_elem?}
use Rattle.atomic_table.specs.Table.{State}
use Rattle.tb_front.specs.declared.view.Role.{Role}
use Rattle.tb_front.specs.declared.view.Role.TheVariants.{Opener, Writer, Keeper, Draft, Pass}
use Rattle.tb_front.specs.declared.view.Role.TheVariants.{Spent}
use Rattle.tb_front.specs.declared.view.View.{View}

-- what a seat knows that was joined of no others
abbrev pub view : {E S : Type 0} → Role → S → List E → View E S
view role base list = record { role = role; base = base; list = list; sources = [] }

-- what the first seat knows: the base, and that the chain is empty
abbrev pub opener : {E S : Type 0} → S → View E S
opener base = view Opener base []

-- what is left of a seat that was joined into another; its base is of no account
abbrev pub spent : {E S : Type 0} → S → View E S
spent base = view Spent base []

-- a view that isn't spent has the one base
abbrev pub HasBase : {S : Type 0} → S → Role → S → Type 0
HasBase key Opener base = base ≡ key
HasBase key Writer base = base ≡ key
HasBase key Keeper base = base ≡ key
HasBase key Draft base = base ≡ key
HasBase key Pass base = base ≡ key
HasBase key Spent base = Unit {0}

-- Which seat may have a role, and what its list is. The writer's list is the chain, and that of the
-- keeper is what is kept; a draft's list begins the chain, and that of a pass or a note begins what
-- is kept. While no keeper was split off it, the opener is the writer and the keeper.
abbrev pub HasRole : {E : Type 0} → List E → List E → ℕ → ℕ → ℕ → Role → List E → Type 0
HasRole chain kept writer keeper id Opener list =
    (id ≡ writer) × (list ≡ chain) × (keeper ≡ writer)
HasRole chain kept writer keeper id Writer list = (id ≡ writer) × (list ≡ chain)
HasRole chain kept writer keeper id Keeper list = (id ≡ keeper) × (list ≡ kept)
HasRole chain kept writer keeper id Draft list = IsPrefix list chain
HasRole chain kept writer keeper id Pass list = IsPrefix list kept
HasRole chain kept writer keeper id Spent list = Unit {0}

-- of the views of which a join made a view: each base is its base, and each list begins its list
abbrev pub HasSources : {E S : Type 0} → S → List E → List (S × List E) → Type 0
HasSources base list [] = Unit {0}
HasSources base list (source ∷ sources) =
    (source.0 ≡ base) × IsPrefix source.1 list × HasSources base list sources

-- what a seat knows is so
abbrev pub Fits : {E S : Type 0} → S → List E → List E → ℕ → ℕ → ℕ → View E S → Type 0
Fits key chain kept writer keeper id v =
    HasRole chain kept writer keeper id v.role v.list
    × HasBase key v.role v.base
    × HasSources v.base v.list v.sources

-- the rule: the word is the length of the chain, what is kept begins the chain, one seat is the
-- writer's and at most one the keeper's, and what each seat knows is so
pub record OneChain {T E S : Type 0} (key : S) (s : State T (View E S)) : Type 0 where
  pub chain : List E
  pub kept : List E
  pub writer : ℕ
  pub keeper : ℕ
  pub words : s.words ≡ length chain ∷ []
  pub behind : IsPrefix kept chain
  pub each : (id : ℕ) (v : View E S) → get_elem? s.views id ≡ some v
      → Fits key chain kept writer keeper id v
