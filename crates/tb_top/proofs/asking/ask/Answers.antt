use Rattle.std.proofs.Common.{◌∙◌, ap, sym, refl, true≢false}
use Rattle.std.proofs.lemmas.Result.{err_from_is_err_and}
use Rattle.tb_command.specs.Commands.{asks_to_generate}
use Rattle.tb_command.specs.declared.command.Command.{Command}
use Rattle.tb_top.specs.Asking.{asked_over}
use Rattle.tb_top.specs.InputFiles.{command_files}
use Rattle.tb_top.specs.Loading.{Loads, asked_value}
use Rattle.tb_top.proofs.AskingSteps.{is_command, loads_nothing, not_none, same_asked}
use Rattle.tb_top.proofs.asking.ask.Goals as goal

pub in_positions-requires : goal.in_positions-requires
in_positions-requires g c =
    rw c.words.ensures (is_command c.args.arguments.now c.in-Some.command.now (sym c.in-Some.ensures))

pub returns-in-None-clause-loads : goal.returns-in-None-clause-loads
returns-in-None-clause-loads g c = λ command named. absurd (not_none c.args.arguments.now command (sym c.in-None.ensures) named)

pub returns-in-None-clause-generated : goal.returns-in-None-clause-generated
returns-in-None-clause-generated g c = λ h. absurd (true≢false (sym h ∙ ap asks_to_generate (sym c.in-None.ensures)))

pub returns-in_err-in_positions-in-Some-clause-usage : goal.returns-in_err-in_positions-in-Some-clause-usage
returns-in_err-in_positions-in-Some-clause-usage g c = λ none.
    absurd (not_none c.args.arguments.now c.in-Some.command.now none (sym c.in-Some.ensures))

pub returns-in_err-in_positions-in-Some-clause-loads : goal.returns-in_err-in_positions-in-Some-clause-loads
returns-in_err-in_positions-in-Some-clause-loads g c = λ command named.
    let p = err_from_is_err_and c.from_residual.result c.from_residual.ensures.1 in
    rw (p.1, p.2) (loads_nothing asked_value (asked_over command) (command_files command) _ refl refl)

pub returns-in_err-in_positions-in-Some-clause-generated : goal.returns-in_err-in_positions-in-Some-clause-generated
returns-in_err-in_positions-in-Some-clause-generated g c = λ h.
    let p = err_from_is_err_and c.from_residual.result c.from_residual.ensures.1 in rw (p.1, p.2) refl

pub returns-in_ok-in_positions-in-Some-clause-usage : goal.returns-in_ok-in_positions-in-Some-clause-usage
returns-in_ok-in_positions-in-Some-clause-usage g c = λ none. absurd (not_none c.args.arguments.now c.in-Some.command.now none (sym c.in-Some.ensures))

pub returns-in_ok-in_positions-in-Some-clause-kind : goal.returns-in_ok-in_positions-in-Some-clause-kind
returns-in_ok-in_positions-in-Some-clause-kind g c = rw (sym c.in-Some.ensures) c.load.ensures.kind

pub returns-in_ok-in_positions-in-Some-clause-ports : goal.returns-in_ok-in_positions-in-Some-clause-ports
returns-in_ok-in_positions-in-Some-clause-ports g c = rw (sym c.in-Some.ensures) c.load.ensures.ports

pub returns-in_ok-in_positions-in-Some-clause-keeps : goal.returns-in_ok-in_positions-in-Some-clause-keeps
returns-in_ok-in_positions-in-Some-clause-keeps g c = rw (sym c.in-Some.ensures) c.load.ensures.keeps

pub returns-in_ok-in_positions-in-Some-clause-loads : goal.returns-in_ok-in_positions-in-Some-clause-loads
returns-in_ok-in_positions-in-Some-clause-loads g c =
    same_asked c.args.arguments.now (λ (k : Command). Loads _ 0 (command_files k) asked_value (asked_over k) c.load.result) c.in-Some.command.now
    (sym c.in-Some.ensures) c.load.ensures.loads

pub returns-in_ok-in_positions-in-Some-clause-generated : goal.returns-in_ok-in_positions-in-Some-clause-generated
returns-in_ok-in_positions-in-Some-clause-generated g c = λ h. c.load.ensures.generated (sym (ap asks_to_generate (sym c.in-Some.ensures)) ∙ h)
