use Rattle.tb_schema.proofs.Taking.{inserted}
use Rattle.tb_schema.proofs.RecodeTaking.{recode-pushed}
use Rattle.tb_schema.proofs.recodes.push_recode.Goals as goal

pub returns : goal.returns
returns c =
    recode-pushed c.args.recodes.now.entries c.insert.new.self.entries c.in_ok-name.name c.args.recode c.args.name.now c.in_ok-name.ensures.ok
    (inserted c.args.recodes.now c.insert.new.self.entries c.in_ok-name.name c.args.recode c.args.name.now c.in_ok-name.ensures.ok c.requires c.in_ok-insert.ensures.entries)
