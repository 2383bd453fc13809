use Rattle.std.proofs.Common.{sym, ap, ◌∙◌}
use Rattle.std.specs.Option.{option_map}
use Rattle.tb_pages.specs.declared.shard.Entry.{Entry}
use Rattle.tb_pages.proofs.BookLemmas.{get-keys_in}
use Rattle.tb_pages.proofs.register.Register.key_of.Goals as goal

pub returns-in-Some : goal.returns-in-Some
returns-in-Some c =
    ap (option_map (λ (e : Entry). e.key)) (sym c.in-Some.is ∙ c.get.ensures) ∙ sym (get-keys_in c.args.self.now.book c.args.person)

pub returns-in-None : goal.returns-in-None
returns-in-None c =
    ap (option_map (λ (e : Entry). e.key)) (sym c.in-None.is ∙ c.get.ensures) ∙ sym (get-keys_in c.args.self.now.book c.args.person)
