use Rattle.std.proofs.Common.{◌∙◌, ap, sym}
use Rattle.tb_model.specs.Schemas.{shape_of}
use Rattle.tb_model.specs.Setups.{SetupValue}
use Rattle.tb_mirror.specs.BoardChains.{standing}
use Rattle.tb_mirror.proofs.Answering.{lane_over, same_follower, same_lane, told_leader, told_where}
use Rattle.tb_mirror.proofs.mirror.MirrorOwnerSetting.answer.Goals as goal

pub returns-in-Where-clause-replied : goal.returns-in-Where-clause-replied
returns-in-Where-clause-replied g c =
    let lane = c.args.self.now.lane in
    told_where c.args.setting.now.setup.now c.args.line.now (standing lane.follower.chain.custody.party lane.follower.window lane.open) c.answer_where.result (g.K.Sink.faults c.args.sink.now)
    (g.K.Sink.faults c.answer_where.new.sink) (g.K.Sink.taken c.args.sink.now) (g.K.Sink.taken c.answer_where.new.sink) c.args.steps.now (sym c.asks_of.ensures ∙ c.in-Where.is) c.answer_where.ensures.written

pub returns-in-Custodian-clause-ready : goal.returns-in-Custodian-clause-ready
returns-in-Custodian-clause-ready g c =
    let lane = c.args.self.now.lane in
    let shape = shape_of c.args.setting.now.setup.now.schema in
    let old = lane.follower.chain.custody.party in
    let new = c.answer_custodian.new.self.custody.party in (
      c.requires.ready.0,
      same_follower g.B.Named.name shape old new lane.follower.window c.answer_custodian.ensures.own c.answer_custodian.ensures.same c.requires.ready.1,
      same_lane shape old new lane.follower.window lane.open c.answer_custodian.ensures.same c.requires.ready.2,
    )

pub returns-in-Custodian-clause-replied : goal.returns-in-Custodian-clause-replied
returns-in-Custodian-clause-replied g c =
    let lane = c.args.self.now.lane in
    c.answer_custodian.ensures.replied lane.follower.window lane.open

pub returns-in-Leader-clause-ready : goal.returns-in-Leader-clause-ready
returns-in-Leader-clause-ready g c =
    let new = c.answer.new.lane in
    let same = ap (λ (s : SetupValue). s.schema) c.setup.view_is in (
      c.requires.ready.0,
      c.answer.ensures.ready.1,
      lane_over c.setup.inside.schema c.args.setting.now.setup.now.schema (standing new.follower.chain.custody.party new.follower.window new.open) same c.answer.ensures.fits,
    )

pub returns-in-Leader-clause-replied : goal.returns-in-Leader-clause-replied
returns-in-Leader-clause-replied g c =
    let old = c.args.self.now.lane in
    let new = c.answer.new.lane in
    told_leader c.args.setting.now.setup.now c.setup.inside.schema c.args.line.now (standing old.follower.chain.custody.party old.follower.window old.open) (standing new.follower.chain.custody.party new.follower.window new.open)
    c.answer.result (g.K.Sink.faults c.args.sink.now) (g.K.Sink.faults c.answer.new.sink) (g.K.Sink.taken c.args.sink.now) (g.K.Sink.taken c.answer.new.sink) c.args.steps.now
    (ap (λ (s : SetupValue). s.schema) c.setup.view_is) (sym c.asks_of.ensures ∙ c.in-Leader.is) (c.answer.ensures.replied c.args.steps.now)
