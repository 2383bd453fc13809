use Rattle.std.proofs.Common.{ap}
use Rattle.tb_model.specs.Setups.{SetupValue}
use Rattle.tb_follow_lanes.proofs.Asking.{leader_line}
use Rattle.tb_follow_lanes.proofs.answering.answer_speaker.Goals as goal

pub returns-in-Leader-clause-replied : goal.returns-in-Leader-clause-replied
returns-in-Leader-clause-replied g c =
    leader_line c.args.setting.now.setup.now _ c.args.speaker c.args.line.now c.answer.result _ _ c.in-Leader.is (ap (λ (s : SetupValue). s.schema) c.setup.view_is) (c.answer.ensures.replied c.args.steps.now)
