use Rattle.tb_release.proofs.Stamped.{stamps_tell}
use Rattle.tb_release.proofs.laws.stamps_tell.Goals as goal

pub returns : goal.returns
returns c = stamps_tell
