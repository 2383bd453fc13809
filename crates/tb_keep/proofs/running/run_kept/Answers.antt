use Rattle.tb_keep.proofs.KeptRunning.{kept_run, none_held, unwritten}
use Rattle.tb_keep.proofs.running.run_kept.Goals as goal

pub returns-clause-run : goal.returns-clause-run
returns-clause-run g c =
    kept_run g.W.WriteAhead.Continues g.met.W.WriteAhead.continues_itself g.met.W.WriteAhead.continues_on g.W.WriteAhead.live g.W.WriteAhead.faults g.W.WriteAhead.StandsFor c.args.setting.now.setup.now c.args.script.now.lines _ _ _ _
    (none_held c.args.owner.keeper.party.custody.party c.args.owner.keeper.ahead c.requires.none) c.run_owned.result.0 c.run_owned.ensures.run

pub returns-clause-unwritten : goal.returns-clause-unwritten
returns-clause-unwritten g c = λ is.
    unwritten g.W.WriteAhead.Continues g.met.W.WriteAhead.continues_itself g.met.W.WriteAhead.continues_on g.W.WriteAhead.live g.W.WriteAhead.faults g.W.WriteAhead.StandsFor c.args.setting.now.setup.now c.args.script.now.lines _ _ _ _ c.run_owned.result.0 c.run_owned.ensures.run is
