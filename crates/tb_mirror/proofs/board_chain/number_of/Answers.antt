use Rattle.std.proofs.Common.{◌∙◌, arith}
use Rattle.tb_session.proofs.Owning.{number_is}
use Rattle.tb_mirror.proofs.Applying.{few_releases}
use Rattle.tb_mirror.proofs.board_chain.number_of.Goals as goal

pub returns-clause-number : goal.returns-clause-number
returns-clause-number c = c.number.ensures ∙ number_is c.args.custodian.now c.requires c.soundness.ensures.first

pub returns-clause-few : goal.returns-clause-few
returns-clause-few c =
    let few = few_releases c.args.custodian.now.writer c.soundness.ensures in
    let is = c.number.ensures ∙ number_is c.args.custodian.now c.requires c.soundness.ensures.first in
    omega (arith, few, is)
