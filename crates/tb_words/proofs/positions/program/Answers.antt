use Rattle.std.proofs.Common.{◌≡◌, ap, true}
use Rattle.clap.specs.Words.{App, app_of}
use Rattle.tb_words.specs.Positions.{bare_program}
use Rattle.tb_words.proofs.Built.{program_of}
use Rattle.tb_words.proofs.positions.program.Goals as goal

pub returns : goal.returns
returns c =
    let bare : app_of c.disable_help_subcommand.result ≡ bare_program =
    rw (c.disable_help_subcommand.ensures, c.disable_help_flag.ensures, c.no_binary_name.ensures)
    (ap (λ (a : App). record a {
      top = record a.top { no_binary_name = true; disable_help_flag = true; disable_help_subcommand = true };
    }) c.new.ensures.app) in
    program_of c.subcommands.result c.disable_help_subcommand.result c.in_ok-commands.commands.items
    c.subcommands.ensures bare c.in_ok-commands.ensures
