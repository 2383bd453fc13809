-- What a script's run over a new board says of what was asked for.
use Rattle.std.proofs.Common.{◌≡◌, ◌⊎◌, ◌∙◌, ap, subst, sym, ℕ, ◌≤◌, List, [], Option, inl, inr, refl, arith}
use Rattle.std.specs.Prelude.{codes}
use Rattle.tb_base.specs.declared.status.Status.{Status}
use Rattle.tb_base.specs.declared.status.Status.TheVariants as status
use Rattle.tb_board.specs.Custodians.{CustodianValue, OpeningValue, first_custodian}
use Rattle.tb_disk.specs.Images.{WhereTold}
use Rattle.tb_io.proofs.FaultLemmas.{HasRisen-earlier, HasRisen-later}
use Rattle.tb_io.specs.Faults.{HasRisen}
use Rattle.tb_io.specs.Taken.{Took, TookPart}
use Rattle.tb_model.specs.Releases.{ReleaseValue}
use Rattle.tb_model.specs.Setups.{SetupValue}
use Rattle.tb_rows.specs.FaultNames.{FaultNameValue}
use Rattle.tb_script.proofs.Running.{run-all, run-part}
use Rattle.tb_script.specs.Runs.{IsLaneReply, IsRun}
use Rattle.tb_script.specs.Scripts.{ScriptLine, ScriptValue}
use Rattle.tb_script.specs.declared.run.RunEnd.{RunEnd}
use Rattle.tb_script.specs.declared.run.RunEnd.TheVariants as run_end
use Rattle.tb_serve.specs.Serves.{Output, output}
use Rattle.tb_serve.specs.Serves as serves
use Rattle.tb_keep.specs.JournalRuns.{AreLinesKept, IsJournalFault, IsJournalRun, JournalRun, seen_of}
use Rattle.tb_keep.specs.declared.recovery.JournalFault.{JournalFault}
use Rattle.tb_keep.specs.declared.journal_run.KeepEnd.TheVariants as keep_end
use Rattle.tb_lines.specs.Outputs.{AreReplies, ReplyValue, charged, text_of}
use Rattle.tb_session.specs.Parties.{state_at}
use Rattle.tb_top.specs.Asking.{CensusValue, base_of}
use Rattle.tb_endings.specs.Endings.{IsEnded, IsRunEnded, fault_line, last_line, status_of}
use Rattle.tb_top.specs.KeepOutputs.{IsKeepLine, IsKeepRun, journal_fault_at, journal_fault_name, journal_line}
use Rattle.tb_top.specs.Asking.{census_over}
use Rattle.tb_top.specs.Loading.{IsBase}
use Rattle.tb_top.specs.Outputs.{AreScriptReplies, IsScriptAnswered}
use Rattle.tb_endings.specs.declared.endings.End.{End}
use Rattle.tb_endings.specs.declared.endings.End.TheVariants as end
use Rattle.tb_top.proofs.Earlier.{stands-earlier, stays-earlier, until-earlier}

-- replies from what the custodian of a new board had seen are answers to what was asked for
pub answers-on-board : (setup : SetupValue) (opening : OpeningValue) (custodian : CustodianValue) (script : ScriptValue) (replies : List ReplyValue)
    → custodian ≡ first_custodian opening → IsBase opening.start.base
    → AreReplies (IsLaneReply setup custodian.writer.start.base) (state_at custodian.writer []) script.lines replies
    → AreScriptReplies (census_over setup opening.start.base) script replies
answers-on-board setup opening custodian script replies made first are =
    let P : CustodianValue → Type 0 = λ c. AreReplies (IsLaneReply setup c.writer.start.base) (state_at c.writer []) script.lines replies in
    let Q : ReleaseValue → Type 0 = λ base. AreReplies (IsLaneReply setup base) (record { chain = []; held = [] }) script.lines replies in
    subst Q first (subst P made are)

-- a run that ended so from some moment on ended so from an earlier one, if nothing was taken between
pub ended-later : (e : End) {s : Status} {f between f' : ℕ} {t mid : Option (List ℕ)} (t' : Option (List ℕ)) → f ≤ between → between ≤ f' → mid ≡ t
    → IsEnded e s between f' mid t' → IsEnded e s f f' t t'
ended-later e {s} {f} {between} {f'} t' le up same h =
    let P : Option (List ℕ) → Type 0 = λ x. IsEnded e s between f' x t' in
    elim (subst P same h) [
      | inl all ↦ inl all
      | inr part ↦ inr (part.0, HasRisen-earlier f between f' le part.1 up, part.2)
    ]

-- how a script's run over the new board of a census ended, and then the whole run
pub run-on-board : (setup : SetupValue) (opening : OpeningValue) (custodian : CustodianValue) (script : ScriptValue) (e : RunEnd) {s : Status} {f between f' : ℕ} (t mid t' : Option (List ℕ)) (steps steps' : ℕ)
    → custodian ≡ first_custodian opening → IsBase opening.start.base → between ≤ f' → f ≤ between → (e ≡ run_end.WriteFault → HasRisen f between)
    → IsRun setup custodian.writer.start.base script.lines e (charged (state_at custodian.writer []) steps) steps' t mid → IsRunEnded e s between f' mid t'
    → IsScriptAnswered (AreScriptReplies (census_over setup opening.start.base) script) s f f' t t' steps steps'
run-on-board setup opening custodian script run_end.Done t mid t' steps steps' made first up le failed run (is, still, same) =
    let all = run-all setup _ script.lines _ _ _ _ run in
    inl (
      is,
      (
        all.0,
        answers-on-board setup opening custodian script all.0 made first all.1,
        subst (λ (x : Option (List ℕ)). Took t x (text_of all.0)) (sym same) all.2,
        all.3,
      ),
    )
run-on-board setup opening custodian script run_end.WriteFault {s} {f} {between} {f'} t mid t' steps steps' made first up le failed run (is, still, same) =
    let part = run-part setup _ script.lines _ _ _ _ run in
    inr (inl (
      is,
      HasRisen-later f between f' (failed refl) up,
      (
        part.0,
        answers-on-board setup opening custodian script part.0 made first part.1,
        subst (λ (x : Option (List ℕ)). TookPart t x (text_of part.0)) (sym same) part.2,
        part.3,
      ),
    ))
run-on-board setup opening custodian script run_end.Memory t mid t' steps steps' made first up le failed (none, still) ended =
    inr (inr (still, ended-later end.Memory t' le up none ended))

-- ---- with a journal

-- a last line that was written, as it is told elsewhere
pub ended-so : (e : End) (s : Status) (f f' : ℕ) (t t' : Option (List ℕ)) → IsEnded e s f f' t t'
    → serves.IsEnded (last_line e) (status_of e) (output t t' f f') s
ended-so e s f f' t t' (inl all) = inl all
ended-so e s f f' t t' (inr (is, rose, part)) = inr (is, part, rose)

-- that of a journal's file, by the parts of its fault's name
pub refused-line : (fault : JournalFault) (name : FaultNameValue) (number at : ℕ) (word : List ℕ) → name ≡ journal_fault_name fault
    → number ≡ name.number → word ≡ name.word → at ≡ journal_fault_at fault
    → fault_line (codes "journal") (record { number = number; word = word }) at ≡ journal_line fault
refused-line fault name number at word is one two three = rw (one, two, three, is) refl

-- one that was written from some moment on was so from an earlier one, if nothing was taken between
pub line-later : (text : List ℕ) (final : Status) {s : Status} {f between f' : ℕ} {t mid : Option (List ℕ)} (t' : Option (List ℕ)) → f ≤ between → between ≤ f' → mid ≡ t
    → serves.IsEnded text final (output mid t' between f') s → serves.IsEnded text final (output t t' f f') s
line-later text final {s} {f} {between} {f'} t' le up same h =
    let P : Option (List ℕ) → Type 0 = λ x. serves.IsEnded text final (output x t' between f') s in
    elim (subst P same h) [
      | inl all ↦ inl all
      | inr part ↦ inr (part.0, part.1, HasRisen-earlier f between f' le part.2 up)
    ]

-- a run with a journal over the new board of a census
module _ (setup : SetupValue) (opening : OpeningValue) (custodian : CustodianValue) (made : custodian ≡ first_custodian opening)
    (first : IsBase opening.start.base) where
  pub same-base : custodian.writer.start.base ≡ base_of (census_over setup opening.start.base)
  same-base = ap (λ (c : CustodianValue). c.writer.start.base) made ∙ first

  -- what became of its lines
  lines-on-board : (lines : List ScriptLine) (e : RunEnd) (saw : JournalRun) → IsJournalRun setup custodian.writer.start.base lines (keep_end.Ran e) saw
      → IsJournalRun setup (base_of (census_over setup opening.start.base)) lines (keep_end.Ran e) saw
  lines-on-board lines e saw run =
      let P : ReleaseValue → Type 0 = λ base. IsJournalRun setup base lines (keep_end.Ran e) saw in
      subst P same-base run

  -- and how the whole run then ended
  pub kept-on-board : (script : ScriptValue) (e : RunEnd) {s : Status} {f between f' : ℕ} (t' : Option (List ℕ)) (saw : JournalRun) → between ≤ f' → f ≤ between
      → (e ≡ run_end.WriteFault → HasRisen f between) → IsJournalRun setup custodian.writer.start.base script.lines (keep_end.Ran e) saw
      → IsRunEnded e s between f' saw.taken_after t'
      → IsKeepRun (census_over setup opening.start.base) script s (output saw.taken t' f f') (record saw { taken_after = t' })
  kept-on-board script run_end.Done t' saw up le failed run (is, still, same) = inl (inl (
    is,
    subst (λ (x : Option (List ℕ)). AreLinesKept setup (base_of (census_over setup opening.start.base)) script.lines run_end.Done (record saw { taken_after = x })) (sym same)
        (lines-on-board script.lines run_end.Done saw run),
  ))
  kept-on-board script run_end.WriteFault {s} {f} {between} {f'} t' saw up le failed run (is, still, same) = inl (inr (
    is,
    HasRisen-later f between f' (failed refl) up,
    subst (λ (x : Option (List ℕ)). AreLinesKept setup (base_of (census_over setup opening.start.base)) script.lines run_end.WriteFault (record saw { taken_after = x })) (sym same)
        (lines-on-board script.lines run_end.WriteFault saw run),
  ))
  kept-on-board script run_end.Memory t' saw up le failed (none, left) ended =
      inr (none.1, inl (left.ever, line-later (last_line end.Memory) status.Memory t' le up none.0 (ended-so end.Memory _ _ _ _ _ ended)))

  -- the fault of its journal's file
  pub fault-on-board : (content : Option (List ℕ)) (fault : JournalFault)
      → WhereTold content (λ file. IsJournalFault setup custodian.writer.start.base file fault)
      → WhereTold content (λ file. IsJournalFault setup (base_of (census_over setup opening.start.base)) file fault)
  fault-on-board content fault told = λ file h.
      subst (λ (base : ReleaseValue). IsJournalFault setup base file fault) same-base (told file h)

-- what was seen is told from an earlier moment on
module _ (census : CensusValue) (script : ScriptValue) (s : Status) (out : Output) (saw : JournalRun) (faults : ℕ) (le : faults ≤ saw.faults)
    (up : saw.faults ≤ saw.faults_after) (could_leave : List ℕ → Type 0) (could : (image : List ℕ) → saw.could_leave image → could_leave image)
    (moment : ℕ) (later : moment ≤ saw.moment) (came : (image : List ℕ) → saw.left_since moment image → could_leave image ⊎ saw.left_since saw.moment image) where
  abbrev then : JournalRun
  then = record saw { moment = moment; could_leave = could_leave; faults = faults }

  lines-earlier : (end : RunEnd) → AreLinesKept census.setup (base_of census) script.lines end saw
      → AreLinesKept census.setup (base_of census) script.lines end then
  lines-earlier end h = record {
    batches = h.batches;
    recovered = h.recovered;
    first_moment = h.first_moment;
    first_faults = h.first_faults;
    since = omega (arith, le, h.since);
    until = until-earlier (seen_of saw) faults could_leave could moment came later h.first_moment h.until;
    kept = record { last = h.kept.last; run = h.kept.run; left = h.kept.left; ever = h.kept.ever; counted = h.kept.counted };
  }

  line-earlier : (final : Status) (text : List ℕ) → IsKeepLine census saw final text → IsKeepLine census then final text
  line-earlier final text (inl (fault, refused, left, is, line)) = inl (
    fault,
    refused,
    stays-earlier (seen_of saw) faults could_leave could moment came left,
    is,
    line,
  )
  line-earlier final text (inr (rose, stood, is, line)) = inr (
    HasRisen-earlier faults saw.faults saw.faults_after le rose up,
    stands-earlier (seen_of saw) faults could_leave could moment came stood,
    is,
    line,
  )

  pub answered-earlier : IsKeepRun census script s out saw → IsKeepRun census script s out then
  answered-earlier (inl (inl (is, lines))) = inl (inl (is, lines-earlier run_end.Done lines))
  answered-earlier (inl (inr (is, rose, lines))) = inl (inr (is, rose, lines-earlier run_end.WriteFault lines))
  answered-earlier (inr (free, inl (stood, ended))) =
      inr (free, inl (stands-earlier (seen_of saw) faults could_leave could moment came stood, ended))
  answered-earlier (inr (free, inr (final, text, line, ended))) = inr (free, inr (final, text, line-earlier final text line, ended))
