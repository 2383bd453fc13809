use Rattle.std.proofs.Common.{◌∙◌, [], None}
use Rattle.tb_model.specs.Schemas.{shape_of}
use Rattle.tb_mirror.proofs.Answering.{answered, owner_party, owner_role, still_owner}
use Rattle.tb_mirror.proofs.board_chain.BoardChain.answer_custodian.Goals as goal

pub answer-requires-clause-own : goal.answer-requires-clause-own
answer-requires-clause-own g c = λ κs within_κs. owner_party g.B.Named.name (shape_of c.args.setting.now.setup.now.schema) c.args.self.now.custody.party c.requires.own

pub returns-clause-own : goal.returns-clause-own
returns-clause-own g c =
    let shape = shape_of c.args.setting.now.setup.now.schema in
    still_owner g.B.Named.name shape c.answer.new.party (c.answer.ensures.answered.goes_on.who ∙ owner_role g.B.Named.name shape c.args.self.now.custody.party c.requires.own) c.answer.ensures.own

pub returns-clause-same : goal.returns-clause-same
returns-clause-same g c =
    let setup = c.args.setting.now.setup.now in
    (answered g.B.Named.name (shape_of setup.schema) setup c.answer.new.party c.args.line.now c.answer.result (g.K.Sink.faults c.args.sink.now) (g.K.Sink.faults c.answer.new.sink)
    (g.K.Sink.taken c.args.sink.now) (g.K.Sink.taken c.answer.new.sink) c.args.steps.now c.answer.new.steps [] None c.args.self.now.custody.party c.requires.own c.requires.asks c.answer.ensures.answered).0

pub returns-clause-replied : goal.returns-clause-replied
returns-clause-replied g c = λ window message.
    let setup = c.args.setting.now.setup.now in
    (answered g.B.Named.name (shape_of setup.schema) setup c.answer.new.party c.args.line.now c.answer.result (g.K.Sink.faults c.args.sink.now) (g.K.Sink.faults c.answer.new.sink)
    (g.K.Sink.taken c.args.sink.now) (g.K.Sink.taken c.answer.new.sink) c.args.steps.now c.answer.new.steps window message c.args.self.now.custody.party c.requires.own c.requires.asks c.answer.ensures.answered).1
