use Rattle.std.proofs.Common.{◌∙◌, subst, get_or, arith}
use Rattle.std.proofs.lemmas.List.Elements.{All-set}
use Rattle.tb_board.specs.Custodians.{CustodianValue}
use Rattle.tb_lanes.specs.declared.lane.Lane.{Lane}
use Rattle.tb_lanes.specs.Lanes.{IsTold}
use Rattle.tb_session.specs.Parties.{IsAnalystOf}
use Rattle.tb_serve.proofs.Each.{half_more, half_whole}
use Rattle.tb_lanes.proofs.telling.tell_lanes.Goals as goal

pub loop-lane-preserved : goal.loop-lane-preserved
loop-lane-preserved g c =
    let inv = c.loop-lane.invariant in
    let shape = c.args.custodian.now.writer.start.shape in
    let lane = get_or c.loop-lane.lanes c.loop-lane.lane-index c.lane-item.result in
    let told = subst (λ (k : CustodianValue). IsTold k.pass lane c.tell_lane.new.lane) inv.same c.tell_lane.ensures.told in
    let analyst = subst (λ (k : CustodianValue). IsAnalystOf g.B.Named.name k.writer.start.shape c.tell_lane.new.lane.party) inv.same
    c.tell_lane.ensures.analyst in record {
      same = c.tell_lane.ensures.same ∙ inv.same;
      analysts = All-set (λ (l : Lane g.row.G.Denot). IsAnalystOf g.B.Named.name shape l.party) c.loop-lane.lanes c.loop-lane.lane-index
          c.tell_lane.new.lane analyst inv.analysts;
      told = half_more (λ _. IsTold c.args.custodian.now.pass) c.args.lanes.now c.loop-lane.lanes c.loop-lane.lane-index c.lane-item.result
          c.tell_lane.new.lane (omega (arith, c.loop-lane-test.true, c.loop-lane.auto.lanes)) inv.told told;
    }

pub returns-clause-told : goal.returns-clause-told
returns-clause-told g c =
    half_whole (λ _. IsTold c.args.custodian.now.pass) c.args.lanes.now c.loop-lane.lanes c.loop-lane.lane-index c.loop-lane.invariant.told
    c.loop-lane.auto.lanes (omega (arith, c.loop-lane-test.false, c.loop-lane.auto.lanes))
