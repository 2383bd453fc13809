use Rattle.std.proofs.Common.{◌∙◌, ap, ap₂, ◌++◌, ◌∷◌, [], map}
use Rattle.std.proofs.lemmas.List.{map-append}
use Rattle.std.specs.Prelude.{codes}
use Rattle.clap.specs.Words.{app_of}
use Rattle.tb_command.specs.Forms.{form_value}
use Rattle.tb_command.specs.Positions.{positions_of}
use Rattle.tb_words.specs.Positions.{command_with}
use Rattle.tb_words.proofs.Built.{map_twice}
use Rattle.tb_words.proofs.positions.commands.Goals as goal

pub returns : goal.returns
returns c =
    ap (map app_of) c.in_ok-push-in-Ok.ensures.items ∙ map-append app_of c.in_ok-commands.commands.items (c.in-Ok.one ∷ [])
    ∙ ap₂ (λ xs ys. xs ++ ys)
    (c.in_ok-commands.ensures ∙ map_twice (λ f. command_with f.name (positions_of f)) form_value c.all_forms.result.now
    ∙ ap (map (λ f. command_with f.name (positions_of f))) c.all_forms.ensures)
    (ap (λ t. t ∷ []) (c.in-Ok.ensures ∙ ap (command_with (codes "gen")) c.of_gen.ensures))
