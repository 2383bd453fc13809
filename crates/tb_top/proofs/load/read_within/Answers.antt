use Rattle.std.proofs.Common.{refl}
use Rattle.tb_top.proofs.LoadSteps.{Loads-unread}
use Rattle.tb_top.proofs.load.read_within.Goals as goal

pub returns-in-Failed-clause-loads : goal.returns-in-Failed-clause-loads
returns-in-Failed-clause-loads g c =
    Loads-unread (λ bytes. bytes.items) c.args.most c.args.file c.args.name.now c.read.ensures.count c.read.ensures.same
    (c.in-Failed.ensures.failed refl) c.read.ensures.reading
