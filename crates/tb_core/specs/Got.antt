-- The cube that a caller gets.
use Rattle.std.specs.Prelude.{ℕ, ◌==◌, ◌&&◌, Bool, true, false, not, bytes_eq}
use Rattle.std.specs.Prelude.{List, Option, Some, None}
use Rattle.std.specs.Arc.{arc_value}
use Rattle.tb_core.specs.declared.cubes.CubeFor.{CubeFor}
use Rattle.tb_core.specs.declared.cubes.CubeFor.TheVariants.{Kept, Made}
use Rattle.tb_cube.specs.Cubes.{CubeValue, unpacked}

-- the cube, with all its cells
abbrev pub cube_got : CubeFor → CubeValue
cube_got (Kept cube) = unpacked (arc_value cube)
cube_got (Made cube) = unpacked cube

-- whether it was made, so that it may be offered
abbrev pub is_made : CubeFor → Bool
is_made (Kept cube) = false
is_made (Made cube) = true

-- whether a cube of some variables and the number of its release is that of release n over these
-- variables
abbrev pub is_own : ℕ → List ℕ → List ℕ × ℕ → Bool
is_own n vars e = bytes_eq e.0 vars && (e.1 == n)

-- whether the cube of release n over some variables has to be made, by what was found
abbrev pub is_new : ℕ → List ℕ → Option (List ℕ × ℕ) → Bool
is_new n vars None = true
is_new n vars (Some e) = not (is_own n vars e)
