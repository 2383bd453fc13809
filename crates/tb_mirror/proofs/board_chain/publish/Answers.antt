use Rattle.tb_mirror.proofs.Applying.{applies, why_seen}
use Rattle.tb_mirror.proofs.board_chain.publish.Goals as goal

pub returns-in-Ok-clause-ok : goal.returns-in-Ok-clause-ok
returns-in-Ok-clause-ok g c = applies c.args.custodian.now c.publish.new.custodian c.args.edits.now c.requires.whole c.in-Ok.ensures.can c.in-Ok.ensures.ok

pub returns-in-Err-clause-why : goal.returns-in-Err-clause-why
returns-in-Err-clause-why g c = why_seen c.args.custodian.now c.args.edits.now c.in-Err.fault c.requires.whole c.in-Err.ensures.why
