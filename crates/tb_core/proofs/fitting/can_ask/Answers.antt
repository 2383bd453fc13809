use Rattle.std.proofs.Common.{length, ap, ◌∙◌}
use Rattle.std.specs.Prelude.{◌&&◌, nat_le}
use Rattle.tb_base.specs.declared.var_set.TheConstants.{VARIABLES_IN_PLACE}
use Rattle.tb_core.proofs.fitting.can_ask.Goals as goal

pub returns : goal.returns
returns c =
    let few = nat_le (length c.args.vars.now) VARIABLES_IN_PLACE in
    ap (λ n. nat_le n VARIABLES_IN_PLACE) c.len.ensures.length ∙ ap (λ b. b && few) c.if-not-fits_a_cube.ensures.test
