use Rattle.std.proofs.Common.{◌∙◌, ap, not, rules}
use Rattle.std.proofs.lemmas.Fn.{filter_same}
use Rattle.tb_follow.specs.Windows.{has, without}
use Rattle.tb_follow.specs.declared.message.Message.{Message}
use Rattle.tb_follow.proofs.window.Window.remove.Goals as goal

pub returns : goal.returns
returns c =
    filter_same _ (λ (m : Message). not (has c.args.number m)) _ (λ x b f' h. search rules) c.self.inside.list.items c.retain.new.self.items c.retain.ensures.filtered
    ∙ ap (without c.args.number) c.self.view_is
