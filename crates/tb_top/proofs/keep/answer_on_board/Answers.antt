use Rattle.std.proofs.Common.{ap, refl, inl, inr}
use Rattle.tb_base.specs.declared.status.Status.TheVariants as status
use Rattle.tb_keep.specs.declared.journal_run.KeepEnd.TheVariants as keep_end
use Rattle.tb_top.specs.KeepOutputs.{disk_line, journal_line}
use Rattle.tb_top.proofs.Boards.{fault-on-board, kept-on-board, line-later}
use Rattle.tb_top.proofs.keep.answer_on_board.Goals as goal

pub returns-in-Ran-clause-answered : goal.returns-in-Ran-clause-answered
returns-in-Ran-clause-answered g c =
    let run = c.in-Ran.ensures in
    kept-on-board c.args.over.now.setup.now c.args.opening _ c.new-board.ensures.custodian c.requires.first c.args.script.now c.in-Ran.end _ _
    c.end_run.ensures.count run.count (λ is. run.failed (ap keep_end.Ran is)) run.run c.end_run.ensures.ended

pub returns-in-Refused-clause-answered : goal.returns-in-Refused-clause-answered
returns-in-Refused-clause-answered g c =
    let fault = c.in-Refused.fault in
    let (none, left, told) = c.in-Refused.ensures.run in
    inr (
      none.1,
      inr (
        status.Journal,
        journal_line fault,
        inl (fault, fault-on-board c.args.over.now.setup.now c.args.opening _ c.new-board.ensures.custodian c.requires.first _ fault told, left, refl, refl),
        line-later (journal_line fault) status.Journal _ c.in-Refused.ensures.count c.end_refused.ensures.count none.0
            c.end_refused.ensures.ended,
      ),
    )

pub returns-clause-answered : goal.returns-clause-answered
returns-clause-answered g c =
    let (none, stood) = c.in-DiskFault.ensures.run in
    inr (
      none.1,
      inr (
        status.DiskFault,
        disk_line,
        inr (c.in-DiskFault.ensures.disk_failed refl, stood, refl, refl),
        line-later disk_line status.DiskFault _ c.in-DiskFault.ensures.count c.end_by_disk.ensures.count none.0
            c.end_by_disk.ensures.ended,
      ),
    )
