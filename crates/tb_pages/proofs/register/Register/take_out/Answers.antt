use Rattle.std.proofs.Common.{◌-◌, refl, sym, ap, ◌∙◌}
use Rattle.std.specs.Prelude.{is_some}
use Rattle.tb_pages.specs.declared.register.Register.{Register}
use Rattle.tb_pages.proofs.BookLemmas.{has_entry}
use Rattle.tb_pages.proofs.Changed.{stands, take_made, person_there, some_living}
use Rattle.tb_pages.proofs.register.Register.take_out.Goals as goal

pub take_out-requires : goal.take_out-requires
take_out-requires c = record {
  page = (stands c.requires.register.distinct c.requires.spot).page.within;
  place = c.requires.spot.place.within;
}

pub unwrap-key-requires : goal.unwrap-key-requires
unwrap-key-requires c = ap is_some c.get.ensures ∙ has_entry c.args.self.now.book c.args.person c.args.spot.page (c.requires.register.placed c.args.person ∙ c.requires.spot.page)

pub returns : goal.returns
returns c =
    let new : Register = record { pages = c.take_out.new.self; book = c.set.new.self; living = c.args.self.now.living - 1 } in
    take_made c.args.stamp c.args.person c.args.self.now new c.args.spot c.in_ok-before.before c.unwrap-key.result c.requires.register c.requires.spot
    c.in_ok-before.ensures.taken c.in_ok-before.ensures.new (sym c.get.ensures ∙ c.unwrap-key.ensures) (rw c.none-page.ensures at c.in_ok-set.ensures.ok) refl

pub overflow_sub-self : goal.overflow_sub-self
overflow_sub-self c = some_living c.args.self.now c.args.person c.requires.register (person_there c.requires.spot)
