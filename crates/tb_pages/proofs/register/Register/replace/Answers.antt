use Rattle.std.proofs.Common.{refl}
use Rattle.tb_pages.specs.declared.register.Register.{Register}
use Rattle.tb_pages.proofs.Changed.{stands, replace_made}
use Rattle.tb_pages.proofs.register.Register.replace.Goals as goal

pub replace-requires : goal.replace-requires
replace-requires c = record {
  page = (stands c.requires.register.distinct c.requires.spot).page.within;
  place = c.requires.spot.place.within;
}

pub returns : goal.returns
returns c =
    let new : Register = record { pages = c.replace.new.self; book = c.args.self.now.book; living = c.args.self.now.living } in
    replace_made c.args.stamp c.args.one c.args.self.now new c.args.spot c.in_ok-before.before c.requires.register c.requires.spot
    c.in_ok-before.ensures.taken c.in_ok-before.ensures.new refl refl
