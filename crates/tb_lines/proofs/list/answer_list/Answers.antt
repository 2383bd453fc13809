use Rattle.std.proofs.Common.{ap, arith, refl, subst, List, ℕ}
use Rattle.tb_lines.specs.Lists.{StepBy}
use Rattle.tb_lines.specs.Outputs.{AtPrice, charged}
use Rattle.tb_lines.proofs.Listing.{answered-all, answered-cut, answered-more, answered-none, same_line}
use Rattle.tb_lines.proofs.list.answer_list.Goals as goal

pub loop-i-init : goal.loop-i-init
loop-i-init g c = record {
  ready = c.begin.ensures.ready;
  count = omega arith;
  so_far = answered-none (AtPrice (StepBy (g.T.LineList.Asks c.args.lines.now) g.T.LineList.text (g.A.Answerer.Step c.args.setting.now)))
      (charged (g.A.Answerer.fresh (g.A.Answerer.state c.args.party.now)) c.args.steps.now) (charged (g.A.Answerer.state c.begin.new.self) c.args.steps.now)
      (g.K.Sink.taken c.args.sink.now) (ap (λ s. charged s c.args.steps.now) c.begin.ensures.state);
}

pub answer-requires-clause-may : goal.answer-requires-clause-may
answer-requires-clause-may g c = let (line, here, asks) = c.who-who.ensures in c.requires.may line c.who-who.result asks

pub returns-in-Failed-clause-answered : goal.returns-in-Failed-clause-answered
returns-in-Failed-clause-answered g c =
    let h = c.in-Failed.ensures.replied in
    let (line, here, asks, is) = same_line (g.T.LineList.Asks c.args.lines.now) g.T.LineList.text (g.T.LineList.lines c.args.lines.now) c.loop-i.i c.who-who.result c.line-line.result.now c.who-who.ensures c.line-line.ensures.text in
    let step = subst (λ (t : List ℕ). g.A.Answerer.Step c.args.setting.now c.who-who.result (g.A.Answerer.state c.loop-i.party) t h.reply (g.A.Answerer.state c.answer.new.self)) is h.step in
    answered-cut (AtPrice (StepBy (g.T.LineList.Asks c.args.lines.now) g.T.LineList.text (g.A.Answerer.Step c.args.setting.now))) (g.T.LineList.lines c.args.lines.now) c.loop-i.i (omega arith) c.loop-i.invariant.so_far
    line h.reply here ((c.who-who.result, asks, step), h.cost) (h.written.part refl)

pub loop-i-preserved : goal.loop-i-preserved
loop-i-preserved g c =
    let h = c.in-All.ensures.replied in
    let (line, here, asks, is) = same_line (g.T.LineList.Asks c.args.lines.now) g.T.LineList.text (g.T.LineList.lines c.args.lines.now) c.loop-i.i c.who-who.result c.line-line.result.now c.who-who.ensures c.line-line.ensures.text in
    let step = subst (λ (t : List ℕ). g.A.Answerer.Step c.args.setting.now c.who-who.result (g.A.Answerer.state c.loop-i.party) t h.reply (g.A.Answerer.state c.answer.new.self)) is h.step in
    record {
      ready = c.in-All.ensures.ready;
      count = omega (arith, c.loop-i.invariant.count, h.written.count);
      so_far = answered-more (AtPrice (StepBy (g.T.LineList.Asks c.args.lines.now) g.T.LineList.text (g.A.Answerer.Step c.args.setting.now))) (g.T.LineList.lines c.args.lines.now) c.loop-i.i (omega arith) c.loop-i.invariant.so_far
          line h.reply here ((c.who-who.result, asks, step), h.cost) (h.written.all refl);
    }

pub returns-clause-answered : goal.returns-clause-answered
returns-clause-answered g c =
    answered-all (AtPrice (StepBy (g.T.LineList.Asks c.args.lines.now) g.T.LineList.text (g.A.Answerer.Step c.args.setting.now))) (g.T.LineList.lines c.args.lines.now) c.loop-i.i _ _ _ _ (omega arith) c.loop-i.invariant.so_far
