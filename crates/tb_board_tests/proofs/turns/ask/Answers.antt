use Rattle.std.proofs.Common.{ap, ◌∙◌}
use Rattle.tb_board.specs.Starts.{StartValue}
use Rattle.tb_board.proofs.Taking.{taken_for}
use Rattle.tb_board_tests.proofs.turns.ask.Goals as goal

pub cube_for-requires-clause-taken : goal.cube_for-requires-clause-taken
cube_for-requires-clause-taken g c =
    let seen = c.take.new.pass in
    (seen.start.base, seen.list, taken_for seen c.in_ok-vars.vars c.args.shape.now c.in_ok-taken.taken c.in_ok-taken.ensures.taken (ap (λ (s : StartValue). s.shape) c.in_ok-taken.ensures.later.base ∙ c.requires.shape))
