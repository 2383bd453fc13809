use Rattle.tb_pages.proofs.RoomLemmas.{filled_changed}
use Rattle.tb_pages.proofs.laws.changes_fill.Goals as goal

pub returns : goal.returns
returns c = filled_changed
