use Rattle.std.proofs.Common.{refl, sym, ◌∙◌}
use Rattle.tb_disk.proofs.Past.{past-call}
use Rattle.tb_disk.proofs.Quietly.{quiet-call}
use Rattle.tb_disk.proofs.Telling.{Leads-stay}
use Rattle.tb_journal.proofs.Beginning.{begins-not, looked, stop-quiet}
use Rattle.tb_journal.proofs.opening.read_header.Goals as goal

pub returns-in-All-clause-begins : goal.returns-in-All-clause-begins
returns-in-All-clause-begins g c = record {
  opens = λ is. Leads-stay _ _ _ c.read_at.ensures.same (λ file told. looked file _ (c.requires.long file told) (λ image left. c.requires.durable file told image (c.read_at.ensures.stop image left)));
  ours = λ is file told long. sym (c.in-All.ensures.bytes refl file told) ∙ c.judge.ensures.ours is;
  foreign = λ is file told. ((c.requires.long file told).0, λ same. c.judge.ensures.foreign is (c.in-All.ensures.bytes refl file told ∙ same));
  untouched = λ _. c.read_at.ensures.same;
  durable = λ _ file told image left. c.requires.durable file told image (c.read_at.ensures.stop image left);
  any_moment = stop-quiet g.D.Disk.content g.D.Disk.may_leave g.D.Disk.moment g.D.Disk.left_since c.args.disk.now c.read_at.new.self
      (quiet-call g.D.Disk.content g.D.Disk.may_leave g.D.Disk.moment g.D.Disk.left_since c.args.disk.now c.read_at.new.self g.met.D.Disk.counts_now (g.met.D.Disk.only_now c.args.disk.now) c.read_at.ensures.same c.read_at.ensures.stop c.read_at.ensures.time);
  past = past-call g.D.Disk.may_leave g.D.Disk.moment g.D.Disk.left_since g.met.D.Disk.counts_now c.args.disk.now (g.met.D.Disk.only_now c.args.disk.now) c.read_at.new.self c.read_at.ensures.time;
}

pub returns-in-Failed-clause-begins : goal.returns-in-Failed-clause-begins
returns-in-Failed-clause-begins g c =
    begins-not g.D.Disk.content g.D.Disk.may_leave g.D.Disk.moment g.D.Disk.left_since c.args.disk.now c.read_at.new.self _ refl
    (quiet-call g.D.Disk.content g.D.Disk.may_leave g.D.Disk.moment g.D.Disk.left_since c.args.disk.now c.read_at.new.self g.met.D.Disk.counts_now (g.met.D.Disk.only_now c.args.disk.now) c.read_at.ensures.same c.read_at.ensures.stop c.read_at.ensures.time)
