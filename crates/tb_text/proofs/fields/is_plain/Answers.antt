use Rattle.std.proofs.Common.{ap}
use Rattle.std.specs.Prelude.{not}
use Rattle.tb_text.specs.Lines.{calls_for_quotes}
use Rattle.tb_text.proofs.fields.is_plain.Goals as goal

pub returns : goal.returns
unfolding calls_for_quotes
returns c = ap not c.any_calls.ensures
