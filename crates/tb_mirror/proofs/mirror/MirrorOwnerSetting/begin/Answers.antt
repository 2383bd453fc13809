use Rattle.tb_model.specs.Schemas.{shape_of}
use Rattle.tb_mirror.proofs.Answering.{lane_without}
use Rattle.tb_mirror.proofs.mirror.MirrorOwnerSetting.begin.Goals as goal

pub returns-clause-ready : goal.returns-clause-ready
returns-clause-ready g c =
    let lane = c.args.self.now.lane in
    (c.requires.0, c.requires.1, lane_without (shape_of c.args._setting.now.setup.now.schema) lane.follower.chain.custody.party lane.follower.window lane.open c.requires.2)
