use Rattle.std.proofs.Common.{subst}
use Rattle.tb_describe.specs.Descriptions.{Describes}
use Rattle.tb_describe.specs.Told.{description_text}
use Rattle.tb_model.specs.Setups.{SetupValue}
use Rattle.tb_session.proofs.answering.describe_setup.Goals as goal

pub returns : goal.returns
returns c = subst (λ (s : SetupValue). Describes s.schema c.args.line.now (description_text c.describe.result)) c.setup.view_is c.describe.ensures
