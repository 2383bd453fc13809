use Rattle.std.proofs.Common.{◌≡◌, [], ap, refl}
use Rattle.std.specs.Prelude.{is_some}
use Rattle.std.proofs.lemmas.Result.{IfOk-weaker}
use Rattle.tb_command.specs.Commands.{owner_journal}
use Rattle.tb_top.specs.Asking.{generated_asked, is_keep}
use Rattle.tb_top.specs.Loading.{asked_value, reading}
use Rattle.tb_top.proofs.Generating.{loads-none, no-units-alone}
use Rattle.tb_top.proofs.load.load.Goals as goal

pub returns-in-Over-clause-keeps : goal.returns-in-Over-clause-keeps
returns-in-Over-clause-keeps g c =
    rw c.in-Over.is (IfOk-weaker c.load_task.result (λ asked. asked.owner ≡ c.in-Over.task.owner)
    (λ asked. is_keep (asked_value asked) ≡ is_some (owner_journal c.in-Over.task.owner))
    (λ asked same. ap (λ o. is_some (owner_journal o)) same) c.load_task.ensures.owner)

pub returns-in-Gen-clause-loads : goal.returns-in-Gen-clause-loads
returns-in-Gen-clause-loads g c =
    rw c.in-Gen.is (loads-none asked_value (generated_asked c.in-Gen.population) c.load_generated.result
    (reading g.F.Files.content g.F.Files.faults g.F.Files.readings c.args.files.now c.args.files.now) refl refl refl
    (no-units-alone [] c.load_generated.result c.load_generated.ensures.accepted) c.load_generated.ensures.makes)
