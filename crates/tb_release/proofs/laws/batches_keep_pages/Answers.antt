use Rattle.tb_release.proofs.Stamped.{batches_keep}
use Rattle.tb_release.proofs.laws.batches_keep_pages.Goals as goal

pub returns : goal.returns
returns c = batches_keep
