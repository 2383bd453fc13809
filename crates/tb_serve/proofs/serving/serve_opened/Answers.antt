use Rattle.std.proofs.Common.{ap, ℕ, subst}
use Rattle.tb_board.specs.Custodians.{CustodianValue}
use Rattle.tb_session.specs.Parties.{seen_by}
use Rattle.tb_serve.proofs.Wholes.{all_served}
use Rattle.tb_serve.specs.Reports.{report}
use Rattle.tb_serve.specs.Serves.{IsEnded, final_status, output}
use Rattle.tb_serve.proofs.serving.serve_opened.Goals as goal

pub returns-clause-served : goal.returns-clause-served
returns-clause-served g c =
    let first = c.new-board.ensures.custodian in
    let after = c.serve_from-owner.new.ports in (
      (seen_by c.serve_from-owner.result.party).list,
      all_served c.args.setup.now c.args.opening.start.base c.args.sessions c.new-board.result.1 c.new-owner.result.party c.serve_from-owner.result.party c.args.ports.now after
          c.new-owner.ensures (ap (λ (k : CustodianValue). k.writer.start.base) first) (ap (λ (k : CustodianValue). k.writer.list) first) c.serve_from-owner.ensures.left.same_length c.serve_from-owner.ensures.first c.serve_from-owner.ensures.others,
      subst (λ (n : ℕ). IsEnded (report c.args.places after n) (final_status after) (output (g.O.Sink.taken c.args.out.now) (g.O.Sink.taken c.end_with_report.new.out) (g.O.Sink.faults c.args.out.now) (g.O.Sink.faults c.end_with_report.new.out)) c.end_with_report.result)
          c.release-release.ensures c.end_with_report.ensures.ended,
    )
