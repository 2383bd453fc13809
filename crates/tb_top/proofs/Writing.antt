-- What a call keeps that wrote an output of what was asked for.
use Rattle.std.proofs.Common.{◌≡◌, ◌⊎◌, ◌∙◌, sym, ap, subst, ℕ, List, All, ◌++◌, take, drop, Option, Some, Ok, inl, inr}
use Rattle.std.specs.Prelude.{IfSome}
use Rattle.std.proofs.lemmas.List.{take-append-drop}
use Rattle.tb_base.specs.declared.status.Status.{Status}
use Rattle.tb_base.specs.declared.status.Status.TheVariants as status
use Rattle.tb_serve.specs.Stages.{IsFresh}
use Rattle.tb_command.specs.declared.command.Command.{Command}
use Rattle.tb_top.specs.Asking.{AskedValue, asked_of}
use Rattle.tb_top.specs.Calls.{Call}
use Rattle.tb_command.specs.Commands.{command_of}
use Rattle.tb_endings.specs.Endings.{IsLineWritten}
use Rattle.tb_top.specs.Outputs.{IsOutput}
use Rattle.tb_top.specs.Promises.{IsByInput, IsPriced, IsWhole, Keeps, defined_status}
use Rattle.tb_top.proofs.DiskKept.{KeepsDisk}
use Rattle.tb_top.proofs.PortLemmas.{same-idle}
use Rattle.tb_top.proofs.Telling.{where_told}

-- what is written with Done, of which all was taken, or a beginning where a write failed
module _ (call : Call) (command : Command) (asked : AskedValue) (s : Status) (text : List ℕ) (named : command_of call.words ≡ Some command)
    (told : IfSome call.content (λ at. asked_of at call.words ≡ Ok asked))
    (output : IsOutput asked call.ports call.ports_after status.Done text)
    (priced : IfSome call.content (λ at. (call.steps_after ≡ call.steps) ⊎ IsPriced call at s)) (fresh : All IsFresh call.ports)
    (same : call.ports_after ≡ call.ports) (disk : KeepsDisk call s) where
  whole_output : (at : List ℕ → Option (List ℕ)) → asked_of at call.words ≡ Ok asked → IsWhole call at status.Done text
  whole_output at h = (asked, h, output)

  pub keeps_by_written : IsLineWritten status.Done text s call.write_faults call.write_faults_after call.taken call.taken_after → Keeps call s
  keeps_by_written (inl (is, took)) = record {
    text = where_told _ _ call.content (λ at h. (text, inl (rw is (whole_output at h)), took)) told;
    usage = λ h. cc;
    words = λ h. cc;
    read_fault = λ h. cc;
    write_fault = λ h. cc;
    net_fault = λ h. cc;
    disk_fault = λ h. cc;
    journal = λ h. cc;
    units = λ h. cc;
    exact = where_told _ _ call.content (λ at h. inl (is ∙ sym (ap defined_status h))) told;
    price = priced;
    generated = λ h. inl is;
    idle = same-idle call.ports call.ports_after same fresh;
    others = λ h. same;
    kept = disk.kept;
    hosted = disk.hosted;
    still = disk.still;
    alone = λ h. absurd (subst IsByInput is h);
    unbegun = disk.unbegun;
  }
  keeps_by_written (inr (is, failed, part)) = record {
    text = where_told _ _ call.content (λ at h.
        let whole : IsWhole call at status.Done (take part.0 text ++ drop part.0 text) = rw (take-append-drop part.0 text) (whole_output at h) in
        (take part.0 text, inr (is, (status.Done, drop part.0 text, whole)), part.1)) told;
    usage = λ h. cc;
    words = λ h. cc;
    read_fault = λ h. cc;
    write_fault = λ h. failed;
    net_fault = λ h. cc;
    disk_fault = λ h. cc;
    journal = λ h. cc;
    units = λ h. cc;
    exact = where_told _ _ call.content (λ at h. inr (inr (inr (inl (is, failed))))) told;
    price = priced;
    generated = λ h. inr (inl is);
    idle = same-idle call.ports call.ports_after same fresh;
    others = λ h. same;
    kept = disk.kept;
    hosted = disk.hosted;
    still = disk.still;
    alone = λ h. absurd (subst IsByInput is h);
    unbegun = disk.unbegun;
  }
