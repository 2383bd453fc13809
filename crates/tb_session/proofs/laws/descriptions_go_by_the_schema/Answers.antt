use Rattle.tb_session.proofs.Describing.{descriptions_go_by_the_schema}
use Rattle.tb_session.proofs.laws.descriptions_go_by_the_schema.Goals as goal

pub returns : goal.returns
returns c = descriptions_go_by_the_schema
