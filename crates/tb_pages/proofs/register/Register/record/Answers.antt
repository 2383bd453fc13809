use Rattle.std.proofs.Common.{sym, ap, ◌∙◌, get_or, Some}
use Rattle.tb_pages.proofs.Changed.{stands, found_there}
use Rattle.tb_pages.proofs.register.Register.record.Goals as goal

pub page-requires : goal.page-requires
page-requires c = (stands c.requires.register.distinct c.requires.spot).page.within

pub returns : goal.returns
returns c =
    let s = stands c.requires.register.distinct c.requires.spot in
    found_there s ∙ ap Some (sym (c.index-page-spot.is ∙ ap (λ rs. get_or rs c.args.spot.place c.index-page-spot.result) c.page.ensures ∙ s.place.at c.index-page-spot.result))
