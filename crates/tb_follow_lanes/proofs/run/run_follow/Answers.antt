use Rattle.tb_leader.specs.Lanes.{lane_of}
use Rattle.tb_lines.specs.Outputs.{charged}
use Rattle.tb_follow_lanes.proofs.Asking.{asked_from}
use Rattle.tb_follow_lanes.proofs.run.run_follow.Goals as goal

pub returns-clause-run : goal.returns-clause-run
returns-clause-run g c =
    let lane = c.new-lane.result in
    let last = lane_of c.answer_list.new.party.lane.follower c.answer_list.new.party.lane.open in (
      last,
      asked_from c.args.setup.now c.args.follower lane.follower lane.open c.args.steps.now c.answer_list.result c.args.script.now.lines (charged last c.answer_list.new.steps) (g.K.Sink.taken c.args.sink.now)
          (g.K.Sink.taken c.answer_list.new.sink) c.new-lane.ensures.follower c.new-lane.ensures.open c.answer_list.ensures.answered,
    )
