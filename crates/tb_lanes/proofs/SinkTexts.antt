-- The texts that the sinks of lanes tell.
use Rattle.std.proofs.Common.{◌≡◌, ◌∙◌, sym, ap, subst, refl, ℕ, ◌<◌, List, [], length, map, get_or, Option, Some, None, false}
use Rattle.std.specs.Prelude.{IsSome, IfOk, Result, Ok, Err}
use Rattle.std.specs.Result.{is_err}
use Rattle.std.proofs.lemmas.List.{get_or-map}
use Rattle.tb_lanes.specs.declared.lane.Lane.{Lane}
use Rattle.tb_lanes.specs.Runs.{Tell}

value_in : Option (List ℕ) → List ℕ
value_in None = []
value_in (Some text) = text

some_value : (o : Option (List ℕ)) → IsSome o → o ≡ Some (value_in o)
unfolding value_in
some_value None h = absurd (cc h)
some_value (Some text) h = refl

-- where all tell, these are the texts
pub told : {G : Type 0} (lanes : List (Lane G)) → ((n : ℕ) (d : Lane G) → n < length lanes → IsSome (get_or lanes n d).sink)
    → (texts : ℕ → List ℕ) × Tell texts lanes
told {G} lanes all =
    let sinks : List (Option (List ℕ)) = map (λ (lane : Lane G). lane.sink) lanes in (
      λ n. value_in (get_or sinks n None),
      λ n d lt. some_value (get_or lanes n d).sink (all n d lt) ∙ ap (λ (o : Option (List ℕ)). Some (value_in o))
          (sym (get_or-map (λ (lane : Lane G). lane.sink) lanes n d None lt)),
    )

-- a sink that told its text
pub tells : {T E : Type 0} (v : T → List ℕ) (r : Result T E) (o : Option (List ℕ)) → is_err r ≡ false → IfOk r (λ t. o ≡ Some (v t))
    → IsSome o
tells v (Ok t) o h is = subst IsSome (sym is) refl
tells v (Err e) o h is = absurd (cc h)
