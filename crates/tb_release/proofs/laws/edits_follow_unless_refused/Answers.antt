use Rattle.tb_release.proofs.Chained.{can_follow_unless_refused}
use Rattle.tb_release.proofs.laws.edits_follow_unless_refused.Goals as goal

pub returns : goal.returns
returns c = can_follow_unless_refused
