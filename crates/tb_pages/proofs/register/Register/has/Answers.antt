use Rattle.std.proofs.Common.{◌∙◌, ap}
use Rattle.std.specs.Prelude.{is_some}
use Rattle.tb_pages.proofs.PageFinds.{has_page}
use Rattle.tb_pages.proofs.register.Register.has.Goals as goal

pub returns : goal.returns
returns c = c.is_some.ensures ∙ ap is_some c.page_of.ensures ∙ has_page c.args.self.now.pages c.args.person
