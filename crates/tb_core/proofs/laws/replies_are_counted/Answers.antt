use Rattle.tb_core.proofs.CountLemmas.{replies_are_counted}
use Rattle.tb_core.proofs.laws.replies_are_counted.Goals as goal

pub returns : goal.returns
returns c = replies_are_counted
