use Rattle.tb_schema.proofs.Reading.{sound-read}
use Rattle.tb_schema.proofs.schema.Schema.read_recodes.Goals as goal

pub with_recodes-requires : goal.with_recodes-requires
with_recodes-requires c = sound-read c.args.self c.args.file.now c.in-Ok.recodes c.soundness.ensures c.in-Ok.ensures.ok
