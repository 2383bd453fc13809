use Rattle.std.proofs.Common.{ap, ◌∙◌}
use Rattle.std.specs.Arc.{arc_value}
use Rattle.tb_io.proofs.Written.{written_as}
use Rattle.tb_text.specs.PreparedTables.{prepared_text}
use Rattle.tb_text.proofs.prepared.PreparedTable.write.Goals as goal

pub returns : goal.returns
returns g c = written_as {w = c.write.result} (ap (λ r. prepared_text c.self.inside.prepared r c.deref-2.result.now) c.deref.ensures ∙ ap (λ xs. prepared_text c.self.inside.prepared (arc_value c.self.inside.rules) xs) c.deref-2.ensures.value ∙ c.self.view_is) c.write.ensures
