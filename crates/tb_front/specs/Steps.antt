-- What each kind of step makes of a seat's view, and what it tells the seat.
use Rattle.std.specs.Prelude.{◌≡◌, ℕ, List, [], ◌∷◌, ◌++◌, Option, MatchOption}
use Rattle.atomic_table.specs.Table.{Me, Step}
use Rattle.tb_front.specs.declared.view.Role.{Role}
use Rattle.tb_front.specs.declared.view.Role.TheVariants.{Writer}
use Rattle.tb_front.specs.declared.view.View.{View}
use Rattle.tb_front.specs.Chain.{view, HasSources}
use Rattle.tb_front.specs.Holders.{longer}

-- a view with the same base and list in a role
abbrev pub in_role : {E S : Type 0} → Role → View E S → View E S
in_role role v = view role v.base v.list

-- a view after a join, which leaves in it the bases and the lists of the two that were joined
abbrev pub joined : {E S : Type 0} → List E → View E S → View E S → View E S
joined list v w =
    record {
      role = v.role;
      base = v.base;
      list = list;
      sources = (v.base, v.list) ∷ (w.base, w.list) ∷ [];
    }

-- the list becomes the longer of both
abbrev pub lengthened : {E S : Type 0} → View E S → View E S → View E S
lengthened v w = joined (longer v.list w.list) v w

-- the list stays
abbrev pub confirmed : {E S : Type 0} → View E S → View E S → View E S
confirmed v w = joined v.list v w

-- the entry, if one is named, comes last in the writer's list
abbrev pub IsAppended : {E S : Type 0} → Option E → Step (Unit {0}) → Me (Unit {0}) (View E S)
    → ℕ → Me (Unit {0}) (View E S) → Type 0
IsAppended entry step before found after =
    MatchOption entry (Unit {0})
    (λ x. after ≡ (view Writer before.0.base (before.0.list ++ x ∷ []), before.1))

-- what a join left in the view is told, and leaves it
abbrev pub IsLoaded : {T E S : Type 0} → Step T → Me T (View E S) → ℕ → Me T (View E S) → Type 0
IsLoaded step before found after =
    (after ≡ (in_role before.0.role before.0, before.1))
    × HasSources before.0.base before.0.list before.0.sources
