use Rattle.std.proofs.Common.{◌∙◌}
use Rattle.tb_session.proofs.Owning.{number_is}
use Rattle.tb_session.proofs.custody.release_of.Goals as goal

pub returns : goal.returns
returns c = c.number.ensures ∙ number_is c.args.custodian.now c.requires c.soundness.ensures.first
