use Rattle.std.proofs.Common.{subst, ℕ, List, Option, refl, inl, inr, ⊎_elim}
use Rattle.tb_base.specs.declared.status.Status.TheVariants as status
use Rattle.tb_journal.proofs.Beginning.{as-one-now}
use Rattle.tb_keep.specs.JournalRuns.{JournalRun}
use Rattle.tb_serve.specs.Serves.{output}
use Rattle.tb_top.specs.KeepOutputs.{IsKeepRun, disk_line}
use Rattle.tb_top.specs.Asking.{census_over}
use Rattle.tb_top.proofs.Boards.{answered-earlier}
use Rattle.tb_top.proofs.keep.keep_opened.Goals as goal

pub returns-in-All : goal.returns-in-All
returns-in-All g c =
    let saw : Option (List ℕ) → ℕ → ℕ → (List ℕ → Type 0) → JournalRun = λ content faults moment could_leave. record {
      content = content;
      content_after = g.D.Disk.content c.answer_on_board.new.disk;
      moment = moment;
      could_leave = could_leave;
      may_leave = g.D.Disk.may_leave c.answer_on_board.new.disk;
      left_since = g.D.Disk.left_since c.answer_on_board.new.disk;
      faults = faults;
      faults_after = g.D.Disk.faults c.answer_on_board.new.disk;
      steps = c.args.steps.now;
      steps_after = c.answer_on_board.new.steps;
      taken = g.O.Sink.taken c.args.out.now;
      taken_after = g.O.Sink.taken c.answer_on_board.new.out;
    } in
    let out = output (g.O.Sink.taken c.args.out.now) (g.O.Sink.taken c.answer_on_board.new.out) (g.O.Sink.faults c.args.out.now)
    (g.O.Sink.faults c.answer_on_board.new.out) in
    let script = c.args.kept.now.script.now in
    let content = g.D.Disk.content c.attach.new.self in
    let now = saw content (g.D.Disk.faults c.attach.new.self) (g.D.Disk.moment c.attach.new.self) (g.D.Disk.may_leave c.attach.new.self) in
    let could_leave = g.D.Disk.could_leave c.args.disk.now c.args.kept.now.journal.now in
    let moment = g.D.Disk.moment c.args.disk.now in
    let census = census_over c.args.over.now.setup.now c.args.opening.start.base in
    subst (λ (told : Option (List ℕ)). IsKeepRun census script c.answer_on_board.result out (saw told (g.D.Disk.faults c.args.disk.now) moment could_leave))
    (c.in-All.ensures.found refl)
    (answered-earlier census script c.answer_on_board.result out now (g.D.Disk.faults c.args.disk.now)
    c.in-All.ensures.count c.answer_on_board.ensures.disk_count could_leave c.in-All.ensures.left moment c.in-All.ensures.later
    (λ image left. ⊎_elim (λ was. inl (c.in-All.ensures.any_moment image was)) (λ since. inr since)
    (c.answer_on_board.ensures.past.nothing_else moment image c.in-All.ensures.later left)) c.answer_on_board.ensures.answered)

pub returns-in-Failed : goal.returns-in-Failed
returns-in-Failed g c =
    let could_leave = g.D.Disk.could_leave c.args.disk.now c.args.kept.now.journal.now in
    inr (
      refl,
      inr (
        status.DiskFault,
        disk_line,
        inr (c.in-Failed.ensures.failed refl, λ file told image left. as-one-now could_leave image (c.in-Failed.ensures.any_moment image left), refl, refl),
        c.end_by_disk.ensures.ended,
      ),
    )
