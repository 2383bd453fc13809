use Rattle.std.proofs.Common.{◌∙◌}
use Rattle.tb_script.proofs.Running.{one_more}
use Rattle.tb_script.proofs.run.analysts.Goals as goal

pub loop-preserved : goal.loop-preserved
loop-preserved g c =
    let at = g.O.Owner.state c.loop.owner in
    record {
      ready = c.analyst-party.ensures.ready;
      same = c.analyst-party.ensures.same.1 ∙ c.loop.invariant.same;
      analysts = one_more g.B.Named.name (g.O.Owner.shape c.args.setting.now) (g.O.Owner.base at) (g.O.Owner.chain at) (g.O.Owner.writer c.loop.owner) c.loop.counter c.loop.parties.items c.push.new.self.items c.analyst-party.result
          (g.met.O.Owner.written c.args.setting.now c.loop.owner c.loop.invariant.ready) c.analyst-party.ensures.party c.in_ok-push.ensures.items c.loop.invariant.analysts;
    }
