use Rattle.std.proofs.Common.{◌∙◌, sym}
use Rattle.tb_schema.proofs.RecodeTaking.{whole}
use Rattle.tb_schema.proofs.recodes.RecodesFileFileFormat.finish.Goals as goal

pub returns-in-None-clause-ok : goal.returns-in-None-clause-ok
returns-in-None-clause-ok c = rw (← c.so_far.view_is) (whole c.so_far.inside.recodes.entries (sym c.first_partial.ensures ∙ c.in-None.is))
