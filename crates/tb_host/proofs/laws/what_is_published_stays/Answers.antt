use Rattle.tb_host.proofs.Durable.{stays_published}
use Rattle.tb_host.proofs.laws.what_is_published_stays.Goals as goal

pub returns : goal.returns
returns g c = λ disk live faults. stays_published disk g.D.Disk.content g.D.Disk.may_leave g.D.Disk.moment g.D.Disk.left_since g.met.D.Disk.only_now g.W.WriteAhead.Continues g.met.W.WriteAhead.continues_itself g.met.W.WriteAhead.continues_on live faults
