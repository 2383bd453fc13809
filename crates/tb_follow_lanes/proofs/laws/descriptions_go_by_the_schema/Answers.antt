use Rattle.tb_follow_lanes.proofs.Describing.{descriptions_go_by_the_schema}
use Rattle.tb_follow_lanes.proofs.laws.descriptions_go_by_the_schema.Goals as goal

pub returns : goal.returns
returns c = descriptions_go_by_the_schema
