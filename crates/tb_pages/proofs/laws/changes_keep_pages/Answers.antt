use Rattle.tb_pages.proofs.StampLemmas.{keeps_changed}
use Rattle.tb_pages.proofs.laws.changes_keep_pages.Goals as goal

pub returns : goal.returns
returns c = keeps_changed
