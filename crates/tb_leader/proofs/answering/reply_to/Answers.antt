use Rattle.tb_leader.specs.Lanes.{lane_of}
use Rattle.tb_leader.proofs.Ending.{lane-ended}
use Rattle.tb_leader.proofs.answering.reply_to.Goals as goal

pub returns-in-End-clause-fits : goal.returns-in-End-clause-fits
returns-in-End-clause-fits g c =
    let old = lane_of (g.F.Receiver.value c.args.lane.now.follower) c.args.lane.now.open in
    let new = lane_of (g.F.Receiver.value c.end.new.lane.follower) c.end.new.lane.open in
    lane-ended _ old new _ c.requires.fits c.end.ensures.reply
