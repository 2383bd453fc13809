-- What a call keeps of its disk.
use Rattle.std.proofs.Common.{◌≡◌, ◌⊎◌, ◌∙◌, sym, ap, subst, refl, ℕ, List, Bool, Option, Ok, Err, inl, inr, true, false, true≢false}
use Rattle.std.specs.Prelude.{IfSome}
use Rattle.tb_base.specs.declared.status.Status.{Status}
use Rattle.tb_top.specs.Asking.{AskedValue, asked_of, asked_with, is_keep, is_service}
use Rattle.tb_top.specs.declared.asked.AskedLines.{AskedLines}
use Rattle.tb_top.specs.declared.asked.AskedLines.TheVariants as lines
use Rattle.tb_command.specs.declared.command.Owner.TheVariants as owner
use Rattle.tb_top.specs.Calls.{Call, journal_seen, output_of}
use Rattle.tb_command.specs.Commands.{asks_to_keep, command_of}
use Rattle.tb_top.specs.HostOutputs.{IsHostAnswered}
use Rattle.tb_top.specs.KeepOutputs.{AreKeepLinesAnswered, IsStill}
use Rattle.tb_top.specs.Promises.{IsHostKept, IsJournalKept, IsSomeLastLine}
use Rattle.tb_endings.specs.declared.endings.End.{End}
use Rattle.tb_command.specs.ServicePorts.{Service}
use Rattle.tb_script.specs.Scripts.{ScriptValue}
use Rattle.tb_keep.specs.JournalRuns.{seen_of}
use Rattle.tb_keep.specs.Seen.{StandsAsBefore}
use Rattle.tb_top.proofs.Telling.{always_told, where_told}
use Rattle.tb_serve.specs.Serves.{IsEnded}

-- where nothing is asked for the disk was left alone
abbrev IsUnbegun : Call → (List ℕ → Option (List ℕ)) → Type 0
IsUnbegun call at = (e : End) → asked_of at call.words ≡ Err e → IsStill call.disk

-- something was
asked-for : (call : Call) (asked : AskedValue) → IfSome call.content (λ at. asked_of at call.words ≡ Ok asked)
    → IfSome call.content (λ at. IsUnbegun call at)
asked-for call asked told = where_told _ _ call.content (λ at h e k. cc) told

-- where a journal is asked for its batches are kept, and else the disk was left alone
pub record KeepsDisk (call : Call) (s : Status) : Type 0 where
  pub unbegun : IfSome call.content (λ at. IsUnbegun call at)
  pub kept : IfSome call.content (λ at. IsJournalKept call at s)
  pub hosted : IfSome call.content (λ at. IsHostKept call at s)
  pub still : asks_to_keep (command_of call.words) ≡ false → IsStill call.disk

-- whether the lines of a script are asked for, one after another
abbrev pub is_script : AskedLines → Bool
is_script (lines.Script script) = true
is_script (lines.Lanes script) = false
is_script (lines.Ports service) = false
is_script (lines.Sums population script) = false

-- no script with a journal was asked for, or no sessions with one
module _ (call : Call) (asked : AskedValue) (s : Status) (told : IfSome call.content (λ at. asked_of at call.words ≡ Ok asked)) where
  no_keep : (is_keep asked ≡ false) ⊎ (is_script asked.lines ≡ false) → IfSome call.content (λ at. IsJournalKept call at s)
  no_keep other = where_told _ _ call.content (λ at h census journal script k.
      let same : asked ≡ asked_with census (owner.Journal journal) (lines.Script script) = cc in
      elim other [
        | inl none ↦ absurd (true≢false (sym (ap is_keep same) ∙ none))
        | inr none ↦ absurd (true≢false (sym (ap (λ (x : AskedValue). is_script x.lines) same) ∙ none))
      ]) told

  no_host : (is_keep asked ≡ false) ⊎ (is_service asked ≡ false) → IfSome call.content (λ at. IsHostKept call at s)
  no_host other = where_told _ _ call.content (λ at h census journal service k.
      let same : asked ≡ asked_with census (owner.Journal journal) (lines.Ports service) = cc in
      elim other [
        | inl none ↦ absurd (true≢false (sym (ap is_keep same) ∙ none))
        | inr none ↦ absurd (true≢false (sym (ap is_service same) ∙ none))
      ]) told

-- nothing with a journal was asked for: no journal, or neither a script nor sessions
abbrev pub IsNoJournal : AskedValue → Type 0
IsNoJournal asked = (is_keep asked ≡ false) ⊎ ((is_script asked.lines ≡ false) × (is_service asked ≡ false))

no_script : (asked : AskedValue) → IsNoJournal asked → (is_keep asked ≡ false) ⊎ (is_script asked.lines ≡ false)
no_script asked (inl none) = inl none
no_script asked (inr (script, service)) = inr script

no_sessions : (asked : AskedValue) → IsNoJournal asked → (is_keep asked ≡ false) ⊎ (is_service asked ≡ false)
no_sessions asked (inl none) = inl none
no_sessions asked (inr (script, service)) = inr service

-- something else was asked for
pub left-alone : (call : Call) (asked : AskedValue) (s : Status) → IsNoJournal asked
    → IfSome call.content (λ at. asked_of at call.words ≡ Ok asked) → IsStill call.disk → KeepsDisk call s
left-alone call asked s other told alone = record {
  unbegun = always_told _ call.content (λ at e h. alone);
  kept = no_keep call asked s told (no_script asked other);
  hosted = no_host call asked s told (no_sessions asked other);
  still = λ h. alone;
}

-- so it was before the task
pub ended-before : (call : Call) (s final : Status) (text : List ℕ) → call.steps_after ≡ call.steps → call.ports_after ≡ call.ports
    → IsStill call.disk → IsSomeLastLine final text → IsEnded text final (output_of call) s → KeepsDisk call s
ended-before call s final text free same still line ended = record {
  unbegun = always_told _ call.content (λ at e h. still);
  kept = always_told _ call.content (λ at census journal script asked. inr (free, inl still, (final, text, line, ended)));
  hosted = always_told _ call.content (λ at census journal service asked. inr (same, still, (final, text, line, ended)));
  still = λ h. still;
}

-- the disk was left alone, or stops left nothing that stands for anything else, with a journal of
-- whatever name is asked for
abbrev pub IsUnspoiledFor : Call → AskedValue → Type 0
IsUnspoiledFor call asked =
    (journal : List ℕ) → asked.owner ≡ owner.Journal journal
    → IsStill call.disk ⊎ StandsAsBefore (seen_of (journal_seen call journal))

-- or in a script with a journal
pub ended-in-script : (call : Call) (asked : AskedValue) (s final : Status) (text : List ℕ)
    → IfSome call.content (λ at. asked_of at call.words ≡ Ok asked) → is_service asked ≡ false
    → asks_to_keep (command_of call.words) ≡ true → call.steps_after ≡ call.steps → IsUnspoiledFor call asked
    → IsSomeLastLine final text → IsEnded text final (output_of call) s → KeepsDisk call s
ended-in-script call asked s final text told other keeps free unspoiled line ended = record {
  unbegun = asked-for call asked told;
  kept = where_told _ _ call.content (λ at h census journal script k.
      let same : asked ≡ asked_with census (owner.Journal journal) (lines.Script script) = cc in
      inr (free, unspoiled journal (ap (λ (x : AskedValue). x.owner) same), (final, text, line, ended))) told;
  hosted = no_host call asked s told (inr other);
  still = λ h. absurd (true≢false (sym keeps ∙ h));
}

-- the lines of a script with a journal were answered, where that was asked for
abbrev pub AreAnsweredFor : Call → Status → AskedValue → Type 0
AreAnsweredFor call s asked =
    (journal : List ℕ) → (script : ScriptValue) → asked.owner ≡ owner.Journal journal → asked.lines ≡ lines.Script script
    → AreKeepLinesAnswered asked.census script s (output_of call) (journal_seen call journal)

pub answered-on-disk : (call : Call) (asked : AskedValue) (s : Status) → IfSome call.content (λ at. asked_of at call.words ≡ Ok asked)
    → is_service asked ≡ false → asks_to_keep (command_of call.words) ≡ true → AreAnsweredFor call s asked → KeepsDisk call s
answered-on-disk call asked s told other keeps answered = record {
  unbegun = asked-for call asked told;
  kept = where_told _ _ call.content (λ at h census journal script k.
      let same : asked ≡ asked_with census (owner.Journal journal) (lines.Script script) = cc in
      inl (subst (AreAnsweredFor call s) same answered journal script refl refl)) told;
  hosted = no_host call asked s told (inr other);
  still = λ h. absurd (true≢false (sym keeps ∙ h));
}

-- sessions with a journal were served, where that was asked for
abbrev pub AreServedFor : Call → Status → AskedValue → Type 0
AreServedFor call s asked =
    (journal : List ℕ) → (service : Service) → asked.owner ≡ owner.Journal journal → asked.lines ≡ lines.Ports service
    → IsHostAnswered asked.census service journal call.ports call.ports_after s (output_of call) call.disk

pub served-on-disk : (call : Call) (asked : AskedValue) (s : Status) → IfSome call.content (λ at. asked_of at call.words ≡ Ok asked)
    → is_script asked.lines ≡ false → asks_to_keep (command_of call.words) ≡ true → AreServedFor call s asked → KeepsDisk call s
served-on-disk call asked s told none keeps served = record {
  unbegun = asked-for call asked told;
  kept = no_keep call asked s told (inr none);
  hosted = where_told _ _ call.content (λ at h census journal service k.
      let same : asked ≡ asked_with census (owner.Journal journal) (lines.Ports service) = cc in
      inl (subst (AreServedFor call s) same served journal service refl refl)) told;
  still = λ h. absurd (true≢false (sym keeps ∙ h));
}
