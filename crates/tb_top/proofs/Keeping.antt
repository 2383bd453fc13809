-- What a call keeps that answered a script with a journal.
use Rattle.std.proofs.Common.{◌≡◌, ◌≢◌, ◌⊎◌, ◌∙◌, sym, ap, subst, refl, ℕ, ◌+◌, ◌≤◌, List, All, Option, Some, Ok, inl, inr, true}
use Rattle.std.specs.Prelude.{IfSome}
use Rattle.tb_base.specs.declared.status.Status.{Status}
use Rattle.tb_base.specs.declared.status.Status.TheVariants as status
use Rattle.tb_io.proofs.TakenLemmas.{TookPart-all}
use Rattle.tb_keep.proofs.SomeKeptReplies.{kept-all, kept-part}
use Rattle.tb_keep.specs.JournalRuns.{JournalRun, seen_of}
use Rattle.tb_keep.specs.Seen.{StandsAsBefore}
use Rattle.tb_lines.specs.Outputs.{ReplyValue, price_of, text_of}
use Rattle.tb_script.specs.Scripts.{ScriptValue}
use Rattle.tb_serve.specs.Serves.{IsEnded}
use Rattle.tb_serve.specs.Stages.{IsFresh}
use Rattle.tb_command.specs.declared.command.Command.{Command}
use Rattle.tb_command.specs.declared.command.Command.TheVariants as command
use Rattle.tb_endings.specs.declared.endings.End.TheVariants as end
use Rattle.tb_top.specs.Asking.{AskedValue, CensusValue, asked_of, asked_with, base_of}
use Rattle.tb_top.specs.declared.asked.AskedLines.TheVariants as lines
use Rattle.tb_command.specs.declared.command.Owner.TheVariants as owner
use Rattle.tb_top.specs.Calls.{Call, journal_seen, output_of}
use Rattle.tb_command.specs.Commands.{asks_to_generate, asks_to_keep, command_of}
use Rattle.tb_endings.specs.Endings.{last_line}
use Rattle.tb_top.specs.KeepOutputs.{AreKeepLinesAnswered, AreKeepReplies, HasFailed, IsKeepAnswered, IsKeepLine, IsStill}
use Rattle.tb_top.specs.Outputs.{IsBegun}
use Rattle.tb_top.specs.Promises.{IsPriced, IsSomeLastLine, IsWhole, Keeps}
use Rattle.tb_top.proofs.DiskKept.{AreAnsweredFor, IsUnspoiledFor, answered-on-disk, ended-in-script}
use Rattle.tb_top.proofs.PortLemmas.{all-unserved, same-idle}
use Rattle.tb_top.proofs.Serving.{IsFinal, keeps_by_final}
use Rattle.tb_top.proofs.Telling.{where_told}
use Rattle.tb_top.proofs.Writing.{keeps_by_written}

-- a command that asks for a journal asks for no generated population
keeps-alone : (c : Command) → asks_to_keep (Some c) ≡ true → asks_to_generate (Some c) ≡ true → ⊥
keeps-alone (command.Over task) keeps generates = cc
keeps-alone (command.Gen population) keeps generates = cc

module _ (call : Call) (command : Command) (census : CensusValue) (journal : List ℕ) (script : ScriptValue) (s : Status)
    (named : command_of call.words ≡ Some command) (keeps : asks_to_keep (Some command) ≡ true)
    (told : IfSome call.content (λ at. asked_of at call.words ≡ Ok (asked_with census (owner.Journal journal) (lines.Script script))))
    (fresh : All IsFresh call.ports) (same : call.ports_after ≡ call.ports) where
  abbrev asked : AskedValue
  asked = asked_with census (owner.Journal journal) (lines.Script script)

  abbrev saw : JournalRun
  saw = journal_seen call journal

  asks : asks_to_keep (command_of call.words) ≡ true
  asks = ap asks_to_keep named ∙ keeps

  -- of whatever name and script that are asked for, which are these
  answered_as : AreKeepLinesAnswered census script s (output_of call) saw → AreAnsweredFor call s asked
  answered_as answered name other its_owner its_lines =
      let one : journal ≡ name = cc in
      let two : script ≡ other = cc in
      rw (← one, ← two) answered

  unspoiled_as : IsStill call.disk ⊎ StandsAsBefore (seen_of saw) → IsUnspoiledFor call asked
  unspoiled_as unspoiled name its_owner =
      let one : journal ≡ name = cc in
      rw (← one) unspoiled

  -- the counter rose by no more than the replies' price
  priced_by : (replies : List ReplyValue) → AreKeepReplies census script replies → call.steps_after ≤ call.steps + price_of replies
      → IsBegun asked s replies call.taken call.taken_after
      → IfSome call.content (λ at. (call.steps_after ≡ call.steps) ⊎ IsPriced call at s)
  priced_by replies answers cost begun = where_told _ _ call.content (λ at h. inr (asked, h, (replies, answers, begun, cost))) told

  -- its lines were answered
  by_lines : AreKeepLinesAnswered census script s (output_of call) saw → Keeps call s
  by_lines (inl (is, lines)) =
      let (replies, are, took, cost) = kept-all census.setup (base_of census) script.lines _ _ _ _ lines.kept.run in
      let answers : AreKeepReplies census script replies = (lines.batches, lines.first_moment, lines.first_faults, lines.recovered.follow, are) in
      keeps_by_written call command asked s (text_of replies) named told (refl, (replies, answers, refl))
      (priced_by replies answers cost (λ m. cc, TookPart-all call.taken call.taken_after (text_of replies) took)) fresh same
      (answered-on-disk call asked s told refl asks (answered_as (inl (is, lines)))) (inl (is, took))
  by_lines (inr (is, rose, lines)) =
      let (replies, are, part, cost) = kept-part census.setup (base_of census) script.lines _ _ _ _ lines.kept.run in
      let answers : AreKeepReplies census script replies = (lines.batches, lines.first_moment, lines.first_faults, lines.recovered.follow, are) in
      keeps_by_written call command asked s (text_of replies) named told (refl, (replies, answers, refl))
      (priced_by replies answers cost (λ m. cc, part)) fresh same
      (answered-on-disk call asked s told refl asks (answered_as (inr (is, rose, lines)))) (inr (is, rose, part))

  -- none was, and a last line was written
  by_last_line : (final : Status) (text : List ℕ) → IsFinal final → final ≢ status.NetFault → (final ≡ status.DiskFault → HasFailed call.disk)
      → ((at : List ℕ → Option (List ℕ)) → asked_of at call.words ≡ Ok asked → IsWhole call at final text) → IsSomeLastLine final text
      → call.steps_after ≡ call.steps → IsStill call.disk ⊎ StandsAsBefore (seen_of saw) → IsEnded text final (output_of call) s → Keeps call s
  by_last_line final text is net failed whole line free unspoiled ended =
      keeps_by_final call command asked s final text named told free is (λ h. absurd (net h)) (λ h. (keeps, inl (failed h))) (λ h. keeps)
      (same-idle call.ports call.ports_after same fresh) (λ h. same) (λ h. absurd (keeps-alone command keeps h)) whole
      (ended-in-script call asked s final text told refl asks free (unspoiled_as unspoiled) line ended) ended

  -- that of a journal's file that is refused, or of a disk that failed
  by_journal_line : (final : Status) (text : List ℕ) → IsKeepLine census saw final text → call.steps_after ≡ call.steps
      → IsEnded text final (output_of call) s → Keeps call s
  by_journal_line final text (inl (fault, refused, left, is, line)) free ended =
      by_last_line final text (subst IsFinal (sym is) tt) (λ h. cc) (λ h. cc)
      (λ at h. subst (λ x. IsWhole call at x text) (sym is)
      (census, journal, (lines.Script script, h), inl (fault, refused, left, refl, line)))
      (inr (inl (fault, is, line))) free (inr left.ever) ended
  by_journal_line final text (inr (failed, stood, is, line)) free ended =
      by_last_line final text (subst IsFinal (sym is) tt) (λ h. cc) (λ h. failed)
      (λ at h. subst (λ x. IsWhole call at x text) (sym is) (inl (census, journal, (lines.Script script, h), inr (failed, stood, refl, line))))
      (inr (inr (is, line))) free (inr stood) ended

  -- memory ran out
  by_memory : call.steps_after ≡ call.steps → IsStill call.disk ⊎ StandsAsBefore (seen_of saw)
      → IsEnded (last_line end.Memory) status.Memory (output_of call) s → Keeps call s
  by_memory free unspoiled ended =
      by_last_line status.Memory (last_line end.Memory) tt (λ h. cc) (λ h. cc)
      (λ at h. (inl refl, all-unserved call.ports call.ports_after same)) (inl (end.Memory, refl, refl)) free unspoiled ended

  -- a run that came to a script with a journal keeps all
  pub keeps_by_keep : IsKeepAnswered census script journal s (output_of call) call.disk call.steps call.steps_after → Keeps call s
  keeps_by_keep (inl (free, still, ended)) = by_memory free (inl still) ended
  keeps_by_keep (inr (inl lines)) = by_lines lines
  keeps_by_keep (inr (inr (free, inl (stood, ended)))) = by_memory free (inr stood) ended
  keeps_by_keep (inr (inr (free, inr (final, text, line, ended)))) = by_journal_line final text line free ended
