use Rattle.std.proofs.Common.{◌∙◌, ◌<◌, length, sym, subst, get_or, arith}
use Rattle.std.proofs.lemmas.List.Elements.{All-set}
use Rattle.tb_board.specs.Custodians.{CustodianValue}
use Rattle.tb_lanes.specs.declared.lane.Lane.{Lane}
use Rattle.tb_lanes.specs.Lanes.{IsConfirmed}
use Rattle.tb_session.specs.Parties.{IsAnalystOf}
use Rattle.tb_serve.proofs.Each.{half_more, half_whole}
use Rattle.tb_lanes.proofs.telling.confirm_lanes.Goals as goal

pub loop-lane-preserved : goal.loop-lane-preserved
loop-lane-preserved g c =
    let inv = c.loop-lane.invariant in
    let shape = c.args.custodian.now.writer.start.shape in
    let lane = get_or c.loop-lane.lanes c.loop-lane.lane-index c.lane-item.result in
    let below : c.loop-lane.lane-index < length c.loop-lane.lanes = omega (arith, c.loop-lane-test.true, c.loop-lane.auto.lanes) in
    let confirmed = subst (λ (k : CustodianValue). IsConfirmed k.writer lane c.confirm_lane.new.lane) inv.same
    c.confirm_lane.ensures.confirmed in
    let analyst = subst (λ (l : Lane g.row.G.Denot). IsAnalystOf g.B.Named.name shape l.party) (sym confirmed.same)
    (inv.analysts c.loop-lane.lane-index c.lane-item.result below) in record {
      same = c.confirm_lane.ensures.same ∙ inv.same;
      analysts = All-set (λ (l : Lane g.row.G.Denot). IsAnalystOf g.B.Named.name shape l.party) c.loop-lane.lanes c.loop-lane.lane-index
          c.confirm_lane.new.lane analyst inv.analysts;
      confirmed = half_more (λ _. IsConfirmed c.args.custodian.now.writer) c.args.lanes.now c.loop-lane.lanes c.loop-lane.lane-index
          c.lane-item.result c.confirm_lane.new.lane below inv.confirmed confirmed;
    }

pub returns-clause-confirmed : goal.returns-clause-confirmed
returns-clause-confirmed g c =
    half_whole (λ _. IsConfirmed c.args.custodian.now.writer) c.args.lanes.now c.loop-lane.lanes c.loop-lane.lane-index
    c.loop-lane.invariant.confirmed c.loop-lane.auto.lanes (omega (arith, c.loop-lane-test.false, c.loop-lane.auto.lanes))
