use Rattle.tb_revise.proofs.SyntaxRules.{syntax_by_rules}
use Rattle.tb_revise.proofs.laws.syntax_by_rules.Goals as goal

pub returns : goal.returns
returns c = syntax_by_rules
