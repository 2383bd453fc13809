use Rattle.std.proofs.Common.{ap}
use Rattle.tb_session.specs.Parties.{role_of, seen_by, state_of}
use Rattle.tb_session.specs.PartySessions.{with_none_held}
use Rattle.tb_session.specs.declared.party.Party.{Party}
use Rattle.tb_script.proofs.Running.{run-owned}
use Rattle.tb_script.proofs.run.run_script.Goals as goal

pub returns-clause-run : goal.returns-clause-run
returns-clause-run g c =
    let is = c.new-owner.ensures in
    run-owned c.args.setup.now c.new-owner.result.party c.run_owned-end.result.1.party c.args.custodian.writer (g.K.Sink.taken c.args.sink.now) (g.K.Sink.taken c.run_owned-end.new.sink) c.args.steps.now c.run_owned-end.new.steps
    (ap (λ (p : Party). role_of (with_none_held p)) is)
    (ap (λ (p : Party). state_of (with_none_held p)) is)
    (ap (λ (p : Party). (seen_by (with_none_held p)).start.base) is)
    c.args.script.now.lines c.run_owned-end.result.0 c.run_owned-end.ensures.run
