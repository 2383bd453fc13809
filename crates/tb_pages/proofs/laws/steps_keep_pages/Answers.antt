use Rattle.tb_pages.proofs.StampLemmas.{keeps_then}
use Rattle.tb_pages.proofs.laws.steps_keep_pages.Goals as goal

pub returns : goal.returns
returns c = keeps_then
