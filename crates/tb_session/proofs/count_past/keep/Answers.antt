use Rattle.std.proofs.Common.{subst}
use Rattle.tb_core.specs.Desks.{IsCubeAt}
use Rattle.tb_core.specs.Got.{cube_got}
use Rattle.tb_core.specs.declared.cubes.CubeFor.{CubeFor}
use Rattle.tb_session.proofs.count_past.keep.Goals as goal

pub offer-requires-clause-cube : goal.offer-requires-clause-cube
offer-requires-clause-cube g c =
    let seen = c.args.pass.now in
    let is = subst (λ (got : CubeFor). IsCubeAt seen.start.shape seen.start.base seen.list c.args.vars.now c.args.number (cube_got got)) c.in-Made.is c.requires.cube in
    record { there = is.there; counted = is.counted }
