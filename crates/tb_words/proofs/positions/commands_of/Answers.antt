use Rattle.std.proofs.Common.{◌∙◌, ap, [], map}
use Rattle.std.proofs.lemmas.List.{take_all}
use Rattle.clap.specs.Words.{app_of}
use Rattle.tb_command.specs.Forms.{form_value}
use Rattle.tb_command.specs.Positions.{positions_of}
use Rattle.tb_words.specs.Positions.{command_with}
use Rattle.tb_words.proofs.Built.{one_more_value}
use Rattle.tb_words.proofs.positions.commands_of.Goals as goal

pub loop-form-init : goal.loop-form-init
loop-form-init c = ap (map app_of) c.in_ok-commands.ensures.items

pub loop-form-preserved : goal.loop-form-preserved
loop-form-preserved c =
    one_more_value app_of (λ f. command_with f.name.now (positions_of (form_value f))) [] c.loop-form.commands.items _ c.in-Ok.one
    c.args.forms.now c.loop-form.form-index _ c.in_ok-push-in-Ok.ensures.items c.loop-form-test.true c.loop-form.invariant c.in-Ok.ensures

pub returns : goal.returns
returns c =
    c.loop-form.invariant
    ∙ ap (map (λ f. command_with f.name.now (positions_of (form_value f)))) (take_all c.loop-form.form-index c.args.forms.now c.loop-form-test.false)
