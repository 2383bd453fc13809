use Rattle.std.proofs.Common.{sym, subst}
use Rattle.std.specs.Prelude.{All}
use Rattle.tb_cube.specs.Cubes.{CubeValue}
use Rattle.tb_release.specs.Results.{ChangeFits}
use Rattle.tb_past.proofs.Backwards.{may_return, returned}
use Rattle.tb_past.proofs.retreating.there_and_back.Goals as goal

pub retreat-requires-clause-release : goal.retreat-requires-clause-release
retreat-requires-clause-release g c =
    let one = c.requires.release in (one.0, may_return c.args.cube.now c.advance.new.cube c.args.batch.now one.0 one.1 (c.advance.ensures.cube one.0 one.1))

pub retreat-requires-clause-fit : goal.retreat-requires-clause-fit
retreat-requires-clause-fit g c =
    let one = c.requires.release in
    subst (λ (cube : CubeValue). All (ChangeFits cube.shape) c.args.batch.now.changes) (sym (c.advance.ensures.cube one.0 one.1)) c.requires.fit

pub returns-clause-same : goal.returns-clause-same
returns-clause-same g c =
    let one = c.requires.release in
    let is = c.advance.ensures.cube one.0 one.1 in
    returned c.args.cube.now c.advance.new.cube c.retreat.new.cube c.args.batch.now one.0 one.1 is
    (c.retreat.ensures.cube one.0 (may_return c.args.cube.now c.advance.new.cube c.args.batch.now one.0 one.1 is))
