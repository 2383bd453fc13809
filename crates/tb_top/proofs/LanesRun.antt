-- What a call keeps that answered the lanes of a script at the same time.
use Rattle.std.proofs.Common.{◌≡◌, ◌≢◌, ◌⊎◌, refl, subst, sym, ℕ, ◌≤◌, List, [], ◌++◌, All, Option, Some, Ok, inl, inr}
use Rattle.std.specs.Prelude.{IfSome}
use Rattle.tb_base.specs.declared.status.Status.{Status}
use Rattle.tb_base.specs.declared.status.Status.TheVariants as status
use Rattle.tb_board.specs.Custodians.{CustodianValue, OpeningValue, first_custodian}
use Rattle.tb_io.proofs.FaultLemmas.{HasRisen-earlier, HasRisen-later}
use Rattle.tb_io.proofs.TakenLemmas.{Took-append, TookPart-append}
use Rattle.tb_io.specs.Faults.{HasRisen}
use Rattle.tb_io.specs.Taken.{Took, TookPart}
use Rattle.tb_ahead.specs.Publishing.{after_seeing}
use Rattle.tb_lanes.specs.Phases.{AreLanesRun, PhasesGo, Progress, begun_with}
use Rattle.tb_model.specs.Releases.{ReleaseValue}
use Rattle.tb_model.specs.Setups.{SetupValue}
use Rattle.tb_script.specs.Scripts.{ScriptValue}
use Rattle.tb_script.specs.declared.run.RunEnd.{RunEnd}
use Rattle.tb_script.specs.declared.run.RunEnd.TheVariants as run_end
use Rattle.tb_session.specs.Parties.{state_at}
use Rattle.tb_serve.specs.Serves.{output}
use Rattle.tb_serve.specs.Serves as serves
use Rattle.tb_serve.specs.Stages.{IsFresh}
use Rattle.tb_top.specs.Asking.{CensusValue, asked_of, asked_with}
use Rattle.tb_top.specs.declared.asked.AskedLines.TheVariants as lines
use Rattle.tb_command.specs.declared.command.Owner.{Owner}
use Rattle.tb_top.specs.Calls.{Call}
use Rattle.tb_command.specs.Commands.{command_of}
use Rattle.tb_endings.specs.Endings.{IsEnded, IsRunEnded, last_line}
use Rattle.tb_top.specs.KeepOutputs.{IsStill}
use Rattle.tb_top.specs.LaneOutputs.{AreLanesAnswered, IsLanesText, IsTextOfPhases}
use Rattle.tb_top.specs.Asking.{census_over}
use Rattle.tb_top.specs.Loading.{IsBase}
use Rattle.tb_top.specs.Promises.{IsWhole, Keeps}
use Rattle.tb_command.specs.declared.command.Command.{Command}
use Rattle.tb_endings.specs.declared.endings.End.TheVariants as end
use Rattle.tb_top.proofs.DiskKept.{left-alone}
use Rattle.tb_top.proofs.PortLemmas.{all-unserved, same-idle}
use Rattle.tb_top.proofs.Serving.{IsFinal, keeps_by_final}

-- such a text has a final status
lanes_final : (census : CensusValue) (script : ScriptValue) (s : Status) (text : List ℕ) → IsLanesText census script s text → IsFinal s
lanes_final census script s text (inl (done, phases)) = rw done tt
lanes_final census script s text (inr (memory, cut)) = rw memory tt

lanes_status : (census : CensusValue) (script : ScriptValue) (s : Status) (text : List ℕ) → IsLanesText census script s text
    → (s ≡ status.Done) ⊎ (s ≡ status.Memory)
lanes_status census script s text (inl (done, phases)) = inl done
lanes_status census script s text (inr (memory, cut)) = inr memory

no_fault : (s : Status) → (s ≡ status.Done) ⊎ (s ≡ status.Memory) → (s ≢ status.NetFault) × (s ≢ status.DiskFault) × (s ≢ status.Journal)
no_fault s (inl done) = (λ h. cc, λ h. cc, λ h. cc)
no_fault s (inr memory) = (λ h. cc, λ h. cc, λ h. cc)

-- and is what a run with it writes
lanes_whole : (call : Call) (at : List ℕ → Option (List ℕ)) (census : CensusValue) (by : Owner) (script : ScriptValue) (s : Status) (text : List ℕ)
    → asked_of at call.words ≡ Ok (asked_with census by (lines.Lanes script)) → call.ports_after ≡ call.ports → IsLanesText census script s text
    → IsWhole call at s text
lanes_whole call at census by script s text asked same (inl (done, phases)) = rw done (asked_with census by (lines.Lanes script), asked, (refl, phases))
lanes_whole call at census by script s text asked same (inr (memory, cut)) =
    rw memory (inr (asked_with census by (lines.Lanes script), asked, cut), all-unserved call.ports call.ports_after same)

-- a run that came to its lanes keeps all
pub keeps_by_lanes : (call : Call) (command : Command) (census : CensusValue) (by : Owner) (script : ScriptValue) (s : Status)
    → command_of call.words ≡ Some command → IfSome call.content (λ at. asked_of at call.words ≡ Ok (asked_with census by (lines.Lanes script)))
    → call.steps_after ≡ call.steps → All IsFresh call.ports → call.ports_after ≡ call.ports → IsStill call.disk
    → AreLanesAnswered census script s call.write_faults call.write_faults_after call.taken call.taken_after → Keeps call s
keeps_by_lanes call command census by script s named told free fresh same still (final, text, is, ended) =
    let one = lanes_status census script final text is in
    let none = no_fault final one in
    keeps_by_final call command (asked_with census by (lines.Lanes script)) s final text named told free (lanes_final census script final text is)
    (λ net. absurd (none.0 net)) (λ disk. absurd (none.1 disk)) (λ journal. absurd (none.2 journal)) (same-idle call.ports call.ports_after same fresh) (λ h. same)
    (λ h. one) (λ at asked. lanes_whole call at census by script final text asked same is)
    (left-alone call (asked_with census by (lines.Lanes script)) s (inr (refl, refl)) told still) ended

-- ---- over a new board

-- phases from where its custodian stood are those of the census
phases-on-board : (setup : SetupValue) (opening : OpeningValue) (custodian : CustodianValue) (script : ScriptValue) (n : ℕ) (last : Progress)
    → custodian ≡ first_custodian opening → IsBase opening.start.base
    → PhasesGo setup custodian.writer.start.base script n (begun_with (state_at custodian.writer [])) last
    → IsTextOfPhases (census_over setup opening.start.base) script n last.text
phases-on-board setup opening custodian script n last made first go =
    let P : CustodianValue → Type 0 = λ c. PhasesGo setup c.writer.start.base script n (begun_with (state_at c.writer [])) last in
    let Q : ReleaseValue → Type 0 = λ base. PhasesGo setup base script n (begun_with (after_seeing [])) last in
    (last, subst Q first (subst P made go), refl)

-- the line that tells that memory ran out, after a text
pub ended-after : {s : Status} {f between f' : ℕ} (t mid t' : Option (List ℕ)) (before : List ℕ) → f ≤ between → between ≤ f' → Took t mid before
    → IsEnded end.Memory s between f' mid t' → serves.IsEnded (before ++ last_line end.Memory) status.Memory (output t t' f f') s
ended-after t mid t' before le up took (inl (is, line)) = inl (is, Took-append t mid t' before (last_line end.Memory) took line)
ended-after {f} {between} {f'} t mid t' before le up took (inr (is, rose, part)) =
    inr (is, TookPart-append t mid t' before (last_line end.Memory) took part, HasRisen-earlier f between f' le rose up)

-- how a run of lanes over the new board of a census ended, and then the whole run
pub lanes-on-board : (setup : SetupValue) (opening : OpeningValue) (custodian : CustodianValue) (script : ScriptValue) (e : RunEnd) {s : Status} {f between f' : ℕ} (t mid t' : Option (List ℕ))
    → custodian ≡ first_custodian opening → IsBase opening.start.base → between ≤ f' → f ≤ between → (e ≡ run_end.WriteFault → HasRisen f between)
    → AreLanesRun setup custodian.writer.start.base script e (state_at custodian.writer []) t mid → IsRunEnded e s between f' mid t'
    → AreLanesAnswered (census_over setup opening.start.base) script s f f' t t'
lanes-on-board setup opening custodian script run_end.Done t mid t' made first up le failed (last, go, took) (is, still, same) = (
  status.Done,
  last.text,
  inl (refl, phases-on-board setup opening custodian script _ last made first go),
  inl (is, subst (λ (x : Option (List ℕ)). Took t x last.text) (sym same) took),
)
lanes-on-board setup opening custodian script run_end.WriteFault {s} {f} {between} {f'} t mid t' made first up le failed (last, go, part) (is, still, same) = (
  status.Done,
  last.text,
  inl (refl, phases-on-board setup opening custodian script _ last made first go),
  inr (is, subst (λ (x : Option (List ℕ)). TookPart t x last.text) (sym same) part, HasRisen-later f between f' (failed refl) up),
)
lanes-on-board setup opening custodian script run_end.Memory t mid t' made first up le failed (n, last, few, go, took) ended = (
  status.Memory,
  last.text ++ last_line end.Memory,
  inr (refl, (n, last.text, few, phases-on-board setup opening custodian script n last made first go, refl)),
  ended-after _ _ _ last.text le up took ended,
)
