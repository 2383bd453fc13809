use Rattle.tb_query.specs.Views.{query_view}
use Rattle.tb_query.proofs.Table.{parsed}
use Rattle.tb_query.proofs.parse.parse.Goals as goal

pub returns : goal.returns
returns c = parsed query_view _ c.query.result c.query.ensures
