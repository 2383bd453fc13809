use Rattle.tb_script.proofs.Running.{owned-cut, owned-done}
use Rattle.tb_script.proofs.run.run_owned.Goals as goal
use Rattle.tb_script.proofs.run.run_owned.Goals.{in-All, in-Failed}

pub returns-clause-run : goal.returns-clause-run
returns-clause-run g c =
    let setup = c.args.setting.now.setup.now in
    let own = g.O.Owner.Step c.args.own_setting.now in
    elim c.match-answer_list.branch [
      | in-All w ↦
          owned-done setup c.args.script.now g.O.Owner.base g.O.Owner.chain own g.O.Owner.fresh (g.O.Owner.state c.args.owner) (g.O.Owner.state c.analysts.new.owner) c.args.steps.now _ c.args.script.now.lines c.match-answer_list.end _ _ c.in-Ok.ensures.same w.end-is w.in-All.ensures.answered
      | in-Failed w ↦
          owned-cut setup c.args.script.now g.O.Owner.base g.O.Owner.chain own g.O.Owner.fresh (g.O.Owner.state c.args.owner) (g.O.Owner.state c.analysts.new.owner) c.args.steps.now _ c.args.script.now.lines c.match-answer_list.end _ _ c.in-Ok.ensures.same w.end-is w.in-Failed.ensures.answered
    ]
