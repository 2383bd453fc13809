use Rattle.std.proofs.Common.{subst}
use Rattle.std.specs.Prelude.{IfErr, IfOk}
use Rattle.tb_model.specs.Setups.{SetupValue}
use Rattle.tb_query.specs.Faults.{IsRefused, Reads}
use Rattle.tb_query.specs.Over.{IsOver}
use Rattle.tb_tables.proofs.query.read.Goals as goal

pub returns : goal.returns
returns c = record {
  read = subst (λ (s : SetupValue). IfOk c.read_query.result (Reads s.schema c.args.line.now)) c.setup.view_is c.read_query.ensures.read;
  over = subst (λ (s : SetupValue). IfOk c.read_query.result (IsOver s.schema)) c.setup.view_is c.read_query.ensures.over;
  refused = subst (λ (s : SetupValue). IfErr c.read_query.result (IsRefused s.schema c.args.line.now)) c.setup.view_is c.read_query.ensures.refused;
}
