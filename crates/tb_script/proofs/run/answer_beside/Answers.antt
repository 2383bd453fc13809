use Rattle.std.proofs.Common.{◌∙◌, subst}
use Rattle.tb_board.specs.Holders.{HolderValue}
use Rattle.tb_front.specs.Holders.{IsLater}
use Rattle.tb_model.specs.Schemas.{shape_of}
use Rattle.tb_session.specs.Parties.{seen_by}
use Rattle.tb_session.proofs.Analysts.{analyst_behind, party_front}
use Rattle.tb_script.proofs.Running.{beside, stays_analyst}
use Rattle.tb_script.proofs.run.answer_beside.Goals as goal

pub confirm-requires-clause-own : goal.confirm-requires-clause-own
confirm-requires-clause-own g c = party_front g.B.Named.name (shape_of c.args.lanes.now.setup.now.schema) c.answer-done.new.party c.answer-done.ensures.own

pub returns-clause-replied : goal.returns-clause-replied
returns-clause-replied g c =
    let is = c.answer-done.ensures.answered in
    let writer = g.O.Owner.writer c.args.owner.now in
    let analyst = stays_analyst g.B.Named.name (shape_of c.args.lanes.now.setup.now.schema) writer c.args.party.now c.tell.new.party c.answer-done.new.party c.tell.ensures.learns is.goes_on c.answer-done.ensures.own in
    let behind = analyst_behind g.B.Named.name (shape_of c.args.lanes.now.setup.now.schema) (g.O.Owner.writer c.tell.new.self) c.answer-done.new.party analyst c.confirm.ensures.behind in
    let at = g.O.Owner.state c.args.owner.now in
    record {
      reply = is.reply;
      step = (
        c.confirm.ensures.same.1 ∙ c.tell.ensures.same.1,
        beside c.args.lanes.now.setup.now g.B.Named.name (g.O.Owner.shape c.args.lanes.now.own.now) (g.O.Owner.base at) (g.O.Owner.chain at) writer c.args.party.now c.tell.new.party c.answer-done.new.party c.args.line.now is.reply
            (g.met.O.Owner.written c.args.lanes.now.own.now c.args.owner.now c.requires.ready) c.tell.ensures.learns is.goes_on is.step
            (subst (λ (w : HolderValue). IsLater (seen_by c.answer-done.new.party) w) c.tell.ensures.same.0 behind),
      );
      written = is.written;
      cost = is.cost;
    }
