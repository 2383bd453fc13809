use Rattle.std.proofs.Common.{ap, sym, ◌∙◌, subst, arith}
use Rattle.tb_pages.specs.Books.{AreLists, book_of}
use Rattle.tb_pages.proofs.BookLemmas.{empty_book}
use Rattle.tb_pages.proofs.ListLemmas.{none_lists}
use Rattle.tb_pages.proofs.lists.Lists.with_room.Goals as goal

pub invariant_of-result : goal.invariant_of-result
invariant_of-result c = subst AreLists (sym c.loop-i.invariant) (none_lists c.loop-i.i (omega (arith, c.loop-i.auto.i-end, c.loop-i-test.false)))

pub returns : goal.returns
returns c = ap book_of c.loop-i.invariant ∙ empty_book c.loop-i.i
