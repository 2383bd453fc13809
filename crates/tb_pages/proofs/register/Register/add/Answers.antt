use Rattle.std.proofs.Common.{arith, ◌+◌, ◌<◌, ◌≤◌, length, refl, sym, subst, List}
use Rattle.tb_pages.specs.declared.register.Register.{Register}
use Rattle.tb_pages.specs.declared.pages.TheConstants.{PAGES}
use Rattle.tb_model.specs.Pages.{PageValue}
use Rattle.tb_pages.proofs.PageFinds.{grown}
use Rattle.tb_pages.proofs.RoomLemmas.{one_page_more}
use Rattle.tb_pages.proofs.Changed.{add_made}
use Rattle.tb_pages.proofs.register.Register.add.Goals as goal

pub last-at-requires : goal.last-at-requires
last-at-requires c = record {
  some = subst (λ (ps : List PageValue). 0 < length ps) (sym c.in_ok-add.ensures) (grown c.args.stamp c.args.one c.args.self.now.pages);
  few =
      let more = one_page_more c.args.stamp c.args.one c.args.self.now.pages in
      let room = c.requires.room in
      subst (λ (ps : List PageValue). length ps ≤ PAGES) (sym c.in_ok-add.ensures) (omega arith);
}

pub of-page-requires : goal.of-page-requires
of-page-requires c =
    let more = one_page_more c.args.stamp c.args.one c.args.self.now.pages in
    let room = c.requires.room in
    let few : length c.add.new.self ≤ PAGES = subst (λ (ps : List PageValue). length ps ≤ PAGES) (sym c.in_ok-add.ensures) (omega arith) in
    omega (arith, c.last-at.ensures, few)

pub returns : goal.returns
returns c =
    let new : Register = record { pages = c.add.new.self; book = c.set.new.self; living = c.args.self.now.living + 1 } in
    add_made c.args.stamp c.args.one c.args.self.now new c.last-at.result c.requires.register c.requires.new c.in_ok-add.ensures c.last-at.ensures (rw c.of-page.ensures at c.in_ok-set.ensures.ok) refl
