use Rattle.tb_schema.proofs.Kept.{nothing-read}
use Rattle.tb_schema.proofs.recodes.RecodesFileFileFormat.start.Goals as goal

pub returns-clause-known : goal.returns-clause-known
returns-clause-known c = rw c.new.ensures.empty (nothing-read c.args.self.now.schema.now c.soundness.ensures)
