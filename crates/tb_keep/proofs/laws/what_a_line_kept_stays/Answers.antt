use Rattle.tb_keep.proofs.Staying.{lines_stay_kept, lines_stay_published}
use Rattle.tb_keep.proofs.laws.what_a_line_kept_stays.Goals as goal

pub returns-clause-kept : goal.returns-clause-kept
returns-clause-kept g c = λ disk live faults. lines_stay_kept disk g.D.Disk.content g.D.Disk.may_leave g.D.Disk.moment g.D.Disk.left_since g.met.D.Disk.only_now g.W.WriteAhead.Continues g.met.W.WriteAhead.continues_itself g.met.W.WriteAhead.continues_on live faults

pub returns-clause-published : goal.returns-clause-published
returns-clause-published g c = λ disk live faults. lines_stay_published disk g.D.Disk.content g.D.Disk.may_leave g.D.Disk.moment g.D.Disk.left_since g.met.D.Disk.only_now g.W.WriteAhead.Continues g.met.W.WriteAhead.continues_itself g.met.W.WriteAhead.continues_on live faults
