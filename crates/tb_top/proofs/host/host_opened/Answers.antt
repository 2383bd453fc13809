use Rattle.std.proofs.Common.{refl, inl, inr, ⊎_elim, subst, ℕ, List, Option, arith}
use Rattle.tb_journal.proofs.Beginning.{as-one-now}
use Rattle.tb_keep.specs.Seen.{JournalSeen}
use Rattle.tb_serve.specs.Serves.{output}
use Rattle.tb_top.specs.HostOutputs.{IsHostRun}
use Rattle.tb_top.specs.Asking.{census_over}
use Rattle.tb_top.specs.Services.{ports_of}
use Rattle.tb_top.proofs.Hosting.{run-earlier}
use Rattle.tb_top.proofs.host.host_opened.Goals as goal

pub returns-in-All : goal.returns-in-All
returns-in-All g c =
    let census = census_over c.args.over.now.setup.now c.args.opening.start.base in
    let service = c.args.hosted.now.service.now in
    let before = ports_of service c.args.net.now in
    let after = ports_of service c.host_on_board.new.net in
    let out = output (g.O.Sink.taken c.args.out.now) (g.O.Sink.taken c.host_on_board.new.out) (g.O.Sink.faults c.args.out.now)
    (g.O.Sink.faults c.host_on_board.new.out) in
    let told : Option (List ℕ) → JournalSeen = λ content. record {
      content = content;
      content_after = g.D.Disk.content c.host_on_board.new.disk;
      moment = g.D.Disk.moment c.args.disk.now;
      could_leave = g.D.Disk.could_leave c.args.disk.now c.args.hosted.now.journal.now;
      may_leave = g.D.Disk.may_leave c.host_on_board.new.disk;
      left_since = g.D.Disk.left_since c.host_on_board.new.disk;
      faults = g.D.Disk.faults c.args.disk.now;
      faults_after = g.D.Disk.faults c.host_on_board.new.disk;
    } in
    let run = run-earlier census service before after _ out c.host_on_board.result (g.D.Disk.faults c.args.disk.now) c.in-All.ensures.count
    c.host_on_board.ensures.disk_count (g.D.Disk.could_leave c.args.disk.now c.args.hosted.now.journal.now) (c.in-All.ensures.left)
    (g.D.Disk.moment c.args.disk.now) c.in-All.ensures.later
    (λ image left. ⊎_elim (λ was. inl (c.in-All.ensures.any_moment image was)) (λ since. inr since)
    (c.host_on_board.ensures.past.nothing_else (g.D.Disk.moment c.args.disk.now) image c.in-All.ensures.later left)) c.host_on_board.ensures.run in (
      omega (arith, c.requires.there),
      c.host_on_board.ensures.rest,
      inr (subst (λ content. IsHostRun census service before after (told content) out c.host_on_board.result) (c.in-All.ensures.found refl) run),
    )

pub returns-in-Failed : goal.returns-in-Failed
returns-in-Failed g c = (
  omega (arith, c.requires.there),
  refl,
  inr (inr (inr (inl (refl, c.in-Failed.ensures.failed refl, λ file h image left. as-one-now (g.D.Disk.could_leave c.args.disk.now c.args.hosted.now.journal.now) image (c.in-Failed.ensures.any_moment image left), c.end_by_disk.ensures.ended)))),
)
