use Rattle.std.proofs.Common.{◌∙◌, arith}
use Rattle.tb_pages.proofs.NumberLemmas.{none_below, some_below}
use Rattle.tb_pages.proofs.number.PageNumber.get.Goals as goal

pub returns-then-self-eq0 : goal.returns-then-self-eq0
returns-then-self-eq0 c = none_below c.self.inside.above c.if-self-eq0.true ∙ c.self.view_is

pub returns : goal.returns
returns c = some_below c.self.inside.above (λ e. omega (arith, c.if-self-eq0.false, e)) ∙ c.self.view_is
