use Rattle.std.proofs.Common.{◌∙◌, subst, List}
use Rattle.tb_base.specs.declared.records.Record.{Record}
use Rattle.tb_pages.specs.Stocks.{IsFirst}
use Rattle.tb_release.proofs.First.{first_is, first_kept}
use Rattle.tb_release.proofs.release.Release.first.Goals as goal

pub zero-requires : goal.zero-requires
zero-requires c =
    let stock = c.in_ok-stock.stock in
    let first = subst (λ (rs : List Record). IsFirst rs stock) c.into_list.ensures.all c.in_ok-stock.ensures in
    first_kept c.args.people stock c.args.most c.args.rules first c.into_list.ensures.distinct c.requires.few c.requires.within

pub returns : goal.returns
returns c =
    let stock = c.in_ok-stock.stock in
    let first = subst (λ (rs : List Record). IsFirst rs stock) c.into_list.ensures.all c.in_ok-stock.ensures in
    c.in_ok-first.ensures ∙ first_is c.args.most c.args.rules c.args.people stock first c.requires.none_set c.requires.all_shown
