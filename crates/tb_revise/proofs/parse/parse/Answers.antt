use Rattle.tb_revise.specs.Views.{edit_view}
use Rattle.tb_revise.proofs.Spelled.{parsed}
use Rattle.tb_revise.proofs.parse.parse.Goals as goal

pub returns : goal.returns
returns c = parsed edit_view _ c.edit.result c.edit.ensures
