use Rattle.std.proofs.Common.{◌≡◌, map, take}
use Rattle.clap.specs.Words.{app_of}
use Rattle.tb_command.specs.Forms.{form_value}
use Rattle.tb_command.specs.Positions.{positions_of}
use Rattle.tb_words.specs.Positions.{command_with}
use Rattle.tb_words.proofs.positions.commands_of.Given as goal

-- the commands so far
abbrev pub invariant-loop-form : goal.invariant-loop-form
invariant-loop-form l =
    map app_of l.commands.items ≡ map (λ f. command_with f.name.now (positions_of (form_value f))) (take l.form-index l.forms)
