-- What the arguments ask for, before and after the files are read.
use Rattle.std.proofs.Common.{◌≡◌, ◌∙◌, ap, sym, subst, refl, ℕ, List, All, Option, Some, None, Result, Ok, Err, true, arith}
use Rattle.std.specs.Prelude.{is_some}
use Rattle.tb_base.specs.declared.status.Status.{Status}
use Rattle.tb_serve.specs.Stages.{IsFresh}
use Rattle.tb_words.specs.Words.{IsCommand}
use Rattle.tb_command.specs.declared.command.Command.{Command}
use Rattle.tb_endings.specs.declared.endings.End.{End}
use Rattle.tb_endings.specs.declared.endings.End.TheVariants as end
use Rattle.tb_top.specs.Asking.{AskedValue, Contents, asked_over, is_keep, is_service}
use Rattle.tb_top.specs.Calls.{Call}
use Rattle.tb_command.specs.Commands.{asks_to_generate, asks_to_keep, asks_to_serve, command_of}
use Rattle.tb_top.specs.InputFiles.{NamedFile, command_files}
use Rattle.tb_top.specs.KeepOutputs.{IsStill}
use Rattle.tb_top.specs.Loading.{Loads, Reading}
use Rattle.tb_top.specs.Promises.{Keeps}
use Rattle.tb_top.proofs.Finishing.{IsAnsweredBy, IsToldBy, keeps_by_load, keeps_by_task, keeps_by_usage, reading_of}
use Rattle.tb_top.proofs.Telling.{always_told}

-- words that name a command are a command's
pub is_command : (words : List (List ℕ)) (command : Command) → command_of words ≡ Some command → IsCommand words
is_command words command named = ap is_some named

-- no words do both
pub not_none : (words : List (List ℕ)) (command : Command) → command_of words ≡ None → command_of words ≡ Some command → ⊥
not_none words command none named = let bad : None ≡ Some command = sym none ∙ named in cc

-- what is true of the command that words name is true of each that they name
pub same_asked : (words : List (List ℕ)) (P : Command → Type 0) (command : Command) → command_of words ≡ Some command → P command
    → (other : Command) → command_of words ≡ Some other → P other
same_asked words P command is holds other named =
    let both : Some command ≡ Some other = sym is ∙ named in
    let same : command ≡ other = cc in
    subst P same holds

-- no file was read yet, and memory ran out
pub loads_nothing : {A B : Type 0} (view : A → B) (defined : Contents → Result B End) (files : List NamedFile) (saw : Reading)
    → saw.content_after ≡ saw.content → saw.faults_after ≡ saw.faults → Loads saw 0 files view defined (Err end.Memory)
loads_nothing view defined files saw content faults = record {
  usage = λ k. cc;
  count = omega (arith, faults);
  same = content;
  gives = always_told _ saw.content (λ at contents held ne. absurd (ne refl));
  risen = λ file k. cc;
  within = λ file k. cc;
  last = λ file k. cc;
  units = λ k. cc;
  all = λ x k. cc;
}

-- what was asked for was answered
pub keeps_asked : {A : Type 0} (view : A → AskedValue) (call : Call) (after : Option (List ℕ → Option (List ℕ))) (x : A) (s : Status)
    → (command_of call.words ≡ None → Ok x ≡ Err end.Usage)
    → ((command : Command) → command_of call.words ≡ Some command
    → Loads (reading_of call after) 0 (command_files command) view (asked_over command) (Ok x))
    → is_service (view x) ≡ asks_to_serve (command_of call.words) → is_keep (view x) ≡ asks_to_keep (command_of call.words)
    → All IsFresh call.ports → IsAnsweredBy call (view x) s → Keeps call s
keeps_asked view call after x s usage loads serves keeps fresh answered = go (command_of call.words) refl
  where
    go : (o : Option Command) → command_of call.words ≡ o → Keeps call s
    go None none = let bad = usage none in cc
    go (Some command) named =
        keeps_by_task view call after command x s named (loads command named) (serves ∙ ap asks_to_serve named) (keeps ∙ ap asks_to_keep named)
        fresh answered

abbrev failed : (A : Type 0) → End → Result A End
failed A e = Err e

-- or the run ended before
pub keeps_unasked : {A : Type 0} (view : A → AskedValue) (call : Call) (after : Option (List ℕ → Option (List ℕ))) (e : End) (s : Status)
    → (command_of call.words ≡ None → failed A e ≡ Err end.Usage)
    → ((command : Command) → command_of call.words ≡ Some command
    → Loads (reading_of call after) 0 (command_files command) view (asked_over command) (Err e))
    → (asks_to_generate (command_of call.words) ≡ true → e ≡ end.Memory)
    → call.steps_after ≡ call.steps → All IsFresh call.ports → call.ports_after ≡ call.ports → IsStill call.disk → IsToldBy call e s
    → Keeps call s
keeps_unasked view call after e s usage loads accepted free fresh same still told = go (command_of call.words) refl
  where
    go : (o : Option Command) → command_of call.words ≡ o → Keeps call s
    go None none =
        let is = usage none in
        let ended : e ≡ end.Usage = cc in
        keeps_by_usage call s none free fresh same still (subst (λ x. IsToldBy call x s) ended told)
    go (Some command) named = keeps_by_load view call after command e s named (loads command named) accepted free fresh same still told
