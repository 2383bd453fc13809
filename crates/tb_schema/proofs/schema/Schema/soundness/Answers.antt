use Rattle.std.proofs.Common.{subst}
use Rattle.tb_schema.specs.Sound.{IsSound}
use Rattle.tb_schema.proofs.schema.Schema.soundness.Goals as goal

pub returns : goal.returns
returns c = subst IsSound c.self.view_is c.self.invariant.0
