use Rattle.std.proofs.Common.{◌≡◌, take}
use Rattle.std.specs.Prelude.{flat_map}
use Rattle.tb_cube.specs.Cubes.{cube_over}
use Rattle.tb_delta.proofs.counting.count_all.Given as goal

-- the cube holds the records of the pieces so far
abbrev pub invariant-loop-i : goal.invariant-loop-i
invariant-loop-i g l = l.cube ≡ cube_over l.shape l.vars (flat_map (λ p. p) (take l.i l.lent))
