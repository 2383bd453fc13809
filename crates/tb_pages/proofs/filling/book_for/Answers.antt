use Rattle.std.proofs.Common.{◌≡◌, ◌<◌, length, take, List, sym, subst, arith, refl}
use Rattle.std.proofs.lemmas.List.{take_all}
use Rattle.tb_model.specs.Pages.{PageValue}
use Rattle.tb_pages.specs.Books.{Book}
use Rattle.tb_pages.specs.Fillings.{AreBooked}
use Rattle.tb_pages.proofs.Filled.{none_booked, page_booked, page_distinct, page_new}
use Rattle.tb_pages.proofs.filling.book_for.Goals as goal

pub note-requires-clause-distinct : goal.note-requires-clause-distinct
note-requires-clause-distinct c =
    let within : c.loop-i.i < length c.args.pages.now = omega (arith, c.loop-i-test.true, c.len-i-end.ensures) in
    page_distinct c.args.pages.now c.loop-i.i c.page.result.now within c.requires.distinct c.page.ensures

pub note-requires-clause-new : goal.note-requires-clause-new
note-requires-clause-new c =
    let within : c.loop-i.i < length c.args.pages.now = omega (arith, c.loop-i-test.true, c.len-i-end.ensures) in
    page_new c.args.pages.now c.loop-i.i c.page.result.now c.loop-i.lists within c.requires.distinct c.page.ensures c.loop-i.invariant

pub loop-i-init : goal.loop-i-init
loop-i-init c = none_booked c.in_ok-lists.lists c.in_ok-lists.ensures

pub loop-i-preserved : goal.loop-i-preserved
loop-i-preserved c =
    let within : c.loop-i.i < length c.args.pages.now = omega (arith, c.loop-i-test.true, c.len-i-end.ensures) in
    page_booked c.args.pages.now c.loop-i.i c.loop-i.i c.page.result.now c.loop-i.lists c.note.new.lists within refl c.requires.distinct c.page.ensures c.loop-i.invariant c.in_ok-note.ensures

pub returns : goal.returns
returns c =
    let pages = c.args.pages.now in
    let all : take c.loop-i.i pages ≡ pages = take_all c.loop-i.i pages (omega (arith, c.loop-i-test.false, c.len-i-end.ensures)) in
    subst (λ (b : Book). AreBooked pages b) (sym c.in_ok-book.ensures) (subst (λ (ps : List PageValue). AreBooked ps c.loop-i.lists) all c.loop-i.invariant)
