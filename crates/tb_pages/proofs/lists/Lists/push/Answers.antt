use Rattle.std.proofs.Common.{◌≡◌, ◌%◌, ap, sym, ◌∙◌, subst, arith, length}
use Rattle.std.specs.FinMap.{get, insert}
use Rattle.std.proofs.lemmas.Result.{on_ok_weaker}
use Rattle.std.proofs.lemmas.List.{length-map}
use Rattle.tb_pages.specs.declared.book.TheConstants.{SHARDS}
use Rattle.tb_pages.specs.Books.{AreLists, entries_of}
use Rattle.tb_pages.proofs.BookLemmas.{same_shards, either_way}
use Rattle.tb_pages.proofs.ListLemmas.{lists_seen_after, lists_book_after}
use Rattle.tb_pages.proofs.lists.Lists.push.Goals as goal

pub invariant_of-self : goal.invariant_of-self
invariant_of-self c =
    let items = c.self.inside.lists.items in
    let k = c.args.entry.person % SHARDS in
    let long : length items ≡ SHARDS = sym (length-map items entries_of) ∙ c.self.invariant.shards.all in
    either_way c.push_to.result c.push_to.ensures.ok c.push_to.ensures.err
    (λ pushed. lists_seen_after entries_of items c.index_mut.result.now c.push_to.new.list c.args.entry c.self.invariant (omega arith) c.index_mut.ensures.value (ap (λ b. get b c.args.entry.person) c.self.view_is ∙ c.requires) pushed)
    (λ same. subst AreLists (sym (same_shards entries_of items k c.index_mut.result.now c.push_to.new.list (omega arith) c.index_mut.ensures.value same)) c.self.invariant)

pub returns : goal.returns
returns c =
    let items = c.self.inside.lists.items in
    on_ok_weaker c.push_to.result
    (λ pushed. lists_book_after entries_of items c.index_mut.result.now c.push_to.new.list c.args.entry c.self.invariant (omega arith) c.index_mut.ensures.value (ap (λ b. get b c.args.entry.person) c.self.view_is ∙ c.requires) pushed
    ∙ ap (λ b. insert b c.args.entry.person c.args.entry) c.self.view_is) c.push_to.ensures.ok
