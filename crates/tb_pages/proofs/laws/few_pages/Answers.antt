use Rattle.tb_pages.proofs.RoomLemmas.{few_pages as few}
use Rattle.tb_pages.proofs.laws.few_pages.Goals as goal

pub returns : goal.returns
returns c = few
