-- What was taken from a desk: a release of the chain, and perhaps a cube that leads there.
use Rattle.std.specs.Prelude.{◌≡◌, ◌≤◌, ℕ, true, List, drop, take, length, max}
use Rattle.std.specs.Prelude.{Option, Some, None, option_map}
use Rattle.std.specs.Arc.{arc_value}
use Rattle.tb_base.specs.Sets.{includes_all}
use Rattle.tb_core.specs.Desks.{IsRevised, release_at}
use Rattle.tb_core.specs.Turns.{HitValue}
use Rattle.tb_core.specs.Views.{hit_of}
use Rattle.tb_core.specs.declared.desk.Hit.{Hit}
use Rattle.tb_core.specs.declared.desk.Taken.{Taken}
use Rattle.tb_cube.specs.Cubes.{cube_over}
use Rattle.tb_model.specs.Releases.{ReleaseValue}
use Rattle.tb_release.specs.Batches.{BatchValue}
use Rattle.tb_release.specs.Chains.{change_count}

-- the release that was taken
abbrev pub release_in : Taken → ReleaseValue
release_in taken = arc_value taken.release

-- its number
abbrev pub number_of : Taken → ℕ
number_of taken = (release_in taken).number

-- the variables of the cube that was found and the number of its release, if one was
abbrev pub found_in : Taken → Option (List ℕ × ℕ)
found_in taken = option_map (λ hit. ((hit_of hit).cube.vars, hit.number)) taken.hit

-- the shape of the records that the cube that was found holds
abbrev pub shape_of_hit : Hit → List ℕ
shape_of_hit hit = (hit_of hit).cube.shape

-- the cube of release m over some variables, for a caller at release n of a chain
abbrev pub hit_to : List ℕ → ReleaseValue → List BatchValue → List ℕ → ℕ → ℕ → HitValue
hit_to shape base chain vars n m =
    record {
      number = m;
      cube = cube_over shape vars (release_at base chain m).records;
      pending = drop m (take n chain);
    }

-- a cube of no later release was found, over variables among which those are that were asked for,
-- or none
abbrev pub IsHit : List ℕ → ReleaseValue → List BatchValue → List ℕ → ℕ → Option HitValue → Type 0
IsHit shape base chain vars n None = Unit {0}
IsHit shape base chain vars n (Some hit) =
    (hit.number ≤ n) × (includes_all hit.cube.vars vars ≡ true)
    × (hit ≡ hit_to shape base chain hit.cube.vars n hit.number)

-- what was taken is of the chain, for these variables
pub record IsTaken (shape : List ℕ) (base : ReleaseValue) (chain : List BatchValue)
    (vars : List ℕ) (taken : Taken) : Type 0 where
  pub revised : IsRevised shape base chain
  pub there : number_of taken ≤ length chain
  pub release_is : release_in taken ≡ release_at base chain (number_of taken)
  pub hit : IsHit shape base chain vars (number_of taken) (option_map hit_of taken.hit)

-- what a cube of what was taken costs: as many changes as the one that was found is behind, which
-- is none where it is of the release itself; or the release's records where none was found
abbrev pub cost_by : ReleaseValue → Option HitValue → ℕ
cost_by release None = length release.records
cost_by release (Some hit) = change_count hit.pending

abbrev pub cost_of : Taken → ℕ
cost_of taken = cost_by (release_in taken) (option_map hit_of taken.hit)

-- how many records a cube of what was taken may cost: the release's, or as many changes as led to
-- it, if these are more
abbrev pub cube_price : ReleaseValue → ℕ
cube_price release = max (length release.records) release.changes
