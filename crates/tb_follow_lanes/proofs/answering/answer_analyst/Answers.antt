use Rattle.std.proofs.Common.{◌∙◌, sym, length, subst}
use Rattle.tb_describe.specs.Told.{description_text}
use Rattle.tb_leader.specs.Lanes.{lane_of}
use Rattle.tb_model.specs.Releases.{ReleaseValue}
use Rattle.tb_tables.specs.Answers.{Answers}
use Rattle.tb_tables.specs.ReplyTexts.{table_reply_text}
use Rattle.tb_follow_lanes.proofs.Analysts.{answered, described, passed_over}
use Rattle.tb_follow_lanes.proofs.answering.answer_analyst.Goals as goal

pub returns-then-is_passed_over : goal.returns-then-is_passed_over
returns-then-is_passed_over g c = record {
  replied = passed_over c.args.setting.now.setup.now (lane_of c.args.lane.now.follower c.args.lane.now.open) c.args.line.now c.args.steps.now (g.K.Sink.faults c.args.sink.now) (g.K.Sink.taken c.args.sink.now)
      (sym c.if-is_passed_over.true ∙ c.is_passed_over.ensures);
}

pub returns-then-is_description : goal.returns-then-is_description
returns-then-is_description g c = record {
  replied = described c.args.setting.now.setup.now (lane_of c.args.lane.now.follower c.args.lane.now.open) c.args.line.now c.args.steps.now (g.K.Sink.faults c.args.sink.now) (g.K.Sink.taken c.args.sink.now)
      c.write.result (description_text c.describe_setup.result) (g.K.Sink.faults c.write.new.out) (g.K.Sink.taken c.write.new.out)
      (sym c.if-is_passed_over.false ∙ c.is_passed_over.ensures) (sym c.if-is_description.true ∙ c.is_description.ensures) c.describe_setup.ensures
      (record { count = c.write.ensures.count; failed = c.write.ensures.failed; all = c.write.ensures.all; part = c.write.ensures.part });
}

pub returns : goal.returns
returns g c =
    let setup = c.args.setting.now.setup.now in
    let text = table_reply_text c.answer_at-reply.result in
    record {
      replied = answered setup (lane_of c.args.lane.now.follower c.args.lane.now.open) c.args.line.now c.args.steps.now (g.K.Sink.faults c.args.sink.now) (g.K.Sink.taken c.args.sink.now)
          c.write-2.result text c.answer_at-reply.new.steps (g.K.Sink.faults c.write-2.new.out) (g.K.Sink.taken c.write-2.new.out)
          (sym c.if-is_passed_over.false ∙ c.is_passed_over.ensures) (sym c.if-is_description.false ∙ c.is_description.ensures)
          (subst (λ (r : ReleaseValue). Answers setup r (λ query. length r.records) c.args.line.now text c.args.steps.now c.answer_at-reply.new.steps) c.release-release.ensures.release c.answer_at-reply.ensures)
          (record { count = c.write-2.ensures.count; failed = c.write-2.ensures.failed; all = c.write-2.ensures.all; part = c.write-2.ensures.part });
    }
