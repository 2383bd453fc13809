use Rattle.std.proofs.Common.{sym, ap, ◌∙◌}
use Rattle.std.specs.Prelude.{is_some}
use Rattle.tb_base.specs.Persons.{has_person}
use Rattle.tb_model.specs.Pages.{PageValue}
use Rattle.tb_pages.specs.Pages.{no_page}
use Rattle.tb_pages.proofs.PageFinds.{has_page, page_at}
use Rattle.tb_pages.proofs.register.Register.find.Goals as goal

pub unwrap-page-requires : goal.unwrap-page-requires
unwrap-page-requires c = ap is_some c.page_of.ensures ∙ has_page c.args.self.now.pages c.args.person ∙ c.requires.there

pub find-place-requires : goal.find-place-requires
find-place-requires c =
    let at = page_at c.args.person c.args.self.now.pages c.unwrap-page.result c.requires.register.distinct (sym c.page_of.ensures ∙ c.unwrap-page.ensures) in record {
      page = at.within;
      there = ap (λ (p : PageValue). has_person p.records c.args.person) (at.at no_page) ∙ at.here;
    }

pub returns : goal.returns
returns c = record { page = sym c.page_of.ensures ∙ c.unwrap-page.ensures; place = c.find-place.ensures }
