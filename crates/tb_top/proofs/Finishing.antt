-- What a call keeps, from how the run ended and what was taken of its text.
use Rattle.std.proofs.Common.{◌≡◌, ◌≢◌, ◌⊎◌, ◌∙◌, sym, ap, subst, refl, ℕ, ◌+◌, ◌<◌, ◌≤◌, List, All, ◌++◌, length, take, drop, Option, Some, None, Ok, Err, inl, inr, true, true≢false}
use Rattle.std.specs.Prelude.{IfSome}
use Rattle.std.proofs.lemmas.List.{take-append-drop}
use Rattle.tb_base.specs.declared.status.Status.{Status}
use Rattle.tb_base.specs.declared.status.Status.TheVariants as status
use Rattle.tb_endings.specs.declared.endings.Input.{Input}
use Rattle.tb_endings.specs.declared.endings.Input.TheVariants as input
use Rattle.tb_endings.specs.declared.endings.End.{End}
use Rattle.tb_endings.specs.declared.endings.End.TheVariants as end
use Rattle.tb_command.specs.declared.command.Command.{Command}
use Rattle.tb_command.specs.declared.command.Command.TheVariants as command
use Rattle.tb_command.specs.declared.command.Inputs.{Inputs}
use Rattle.tb_top.specs.Asking.{AskedValue, CensusValue, asked_of, asked_over, asked_with, contents_at, is_keep, is_service}
use Rattle.tb_top.specs.declared.asked.AskedLines.{AskedLines}
use Rattle.tb_top.specs.declared.asked.AskedLines.TheVariants as lines
use Rattle.tb_command.specs.declared.command.Lines.{Lines}
use Rattle.tb_command.specs.declared.command.Lines.TheVariants as named_lines
use Rattle.tb_command.specs.declared.command.Owner.{Owner}
use Rattle.tb_command.specs.declared.command.Owner.TheVariants as owner
use Rattle.tb_command.specs.declared.command.Task.{Task}
use Rattle.tb_command.specs.declared.command.UnitFiles.{UnitFiles}
use Rattle.tb_top.specs.Calls.{Call, HasTaken, IsReadTo, NetFailed, ReadFailed, WriteFailed, output_of}
use Rattle.tb_command.specs.Commands.{asks_to_generate, asks_to_keep, asks_to_serve, command_of}
use Rattle.tb_top.specs.InputFiles.{asks_for_dwellings, command_files, counted_files, have_dwellings, lines_files, task_files}
use Rattle.tb_endings.specs.Endings.{IsEnded, IsLineWritten, last_line, status_of}
use Rattle.tb_top.specs.KeepOutputs.{IsStill}
use Rattle.tb_top.specs.Loading.{Hold, Loads, Reading}
use Rattle.tb_command.specs.Populations.{Population}
use Rattle.tb_top.specs.Promises.{EndsBy, HasDiskCause, IsByInput, IsCaused, IsDefined, IsLastLine, IsPriced, IsTextOf, IsWhole, Keeps, defined_status}
use Rattle.tb_top.specs.Outputs.{AreAnswers, AreScriptReplies, IsAnswered, IsBegun, IsGenAnswered, IsOutput, IsScriptAnswered}
use Rattle.tb_top.specs.Summaries.{summary_line}
use Rattle.tb_top.specs.Summing.{most_counted}
use Rattle.tb_top.proofs.Boards.{ended-so}
use Rattle.tb_top.proofs.DiskKept.{KeepsDisk, ended-before, left-alone}
use Rattle.tb_top.proofs.Hosting.{keeps_by_host}
use Rattle.tb_top.proofs.Keeping.{keeps_by_keep}
use Rattle.tb_top.proofs.PortLemmas.{all-unserved, same-idle}
use Rattle.tb_top.proofs.LanesRun.{keeps_by_lanes}
use Rattle.tb_top.proofs.Mirroring.{keeps_by_mirror}
use Rattle.tb_top.proofs.Serving.{keeps_by_service}
use Rattle.tb_top.proofs.Telling.{always_told, where_told}
use Rattle.tb_top.proofs.Writing.{keeps_by_written}
use Rattle.tb_script.specs.Scripts.{ScriptValue}
use Rattle.tb_serve.specs.Stages.{IsFresh}
use Rattle.tb_lines.specs.Outputs.{ReplyValue, price_of, text_of}
use Rattle.tb_io.proofs.TakenLemmas.{TookPart-all}
use Rattle.tb_io.specs.Taken.{TookPart}

-- what the sink took of the last line of an end, and the status
abbrev pub IsToldBy : Call → End → Status → Type 0
IsToldBy call e s = IsEnded e s call.write_faults call.write_faults_after call.taken call.taken_after

-- the statuses of ends
abbrev IsOfEnd : Status → Type 0
IsOfEnd status.Done = ⊥
IsOfEnd status.Usage = Unit {0}
IsOfEnd status.Schema = Unit {0}
IsOfEnd status.Perturbation = Unit {0}
IsOfEnd status.Microdata = Unit {0}
IsOfEnd status.Script = Unit {0}
IsOfEnd status.ReadFault = Unit {0}
IsOfEnd status.WriteFault = ⊥
IsOfEnd status.Memory = Unit {0}
IsOfEnd status.NetFault = ⊥
IsOfEnd status.Journal = ⊥
IsOfEnd status.DiskFault = ⊥
IsOfEnd status.Units = Unit {0}

of_end : (e : End) → IsOfEnd (status_of e)
of_end end.Usage = tt
of_end (end.TooLong input.Classes) = tt
of_end (end.TooLong input.Recodes) = tt
of_end (end.TooLong input.Ptable) = tt
of_end (end.TooLong input.People) = tt
of_end (end.TooLong input.Dwellings) = tt
of_end (end.TooLong input.Links) = tt
of_end (end.TooLong input.Script) = tt
of_end (end.Unread file) = tt
of_end (end.Refused input.Classes name at) = tt
of_end (end.Refused input.Recodes name at) = tt
of_end (end.Refused input.Ptable name at) = tt
of_end (end.Refused input.People name at) = tt
of_end (end.Refused input.Dwellings name at) = tt
of_end (end.Refused input.Links name at) = tt
of_end (end.Refused input.Script name at) = tt
of_end (end.BadLine at) = tt
of_end end.Memory = tt

-- an end is memory's, or has another status
memory_or_not : (e : End) → (e ≡ end.Memory) ⊎ ((e ≢ end.Memory) × (status_of e ≢ status.Memory))
memory_or_not end.Usage = inr (λ h. cc, λ h. cc)
memory_or_not (end.TooLong input.Classes) = inr (λ h. cc, λ h. cc)
memory_or_not (end.TooLong input.Recodes) = inr (λ h. cc, λ h. cc)
memory_or_not (end.TooLong input.Ptable) = inr (λ h. cc, λ h. cc)
memory_or_not (end.TooLong input.People) = inr (λ h. cc, λ h. cc)
memory_or_not (end.TooLong input.Dwellings) = inr (λ h. cc, λ h. cc)
memory_or_not (end.TooLong input.Links) = inr (λ h. cc, λ h. cc)
memory_or_not (end.TooLong input.Script) = inr (λ h. cc, λ h. cc)
memory_or_not (end.Unread file) = inr (λ h. cc, λ h. cc)
memory_or_not (end.Refused input.Classes name at) = inr (λ h. cc, λ h. cc)
memory_or_not (end.Refused input.Recodes name at) = inr (λ h. cc, λ h. cc)
memory_or_not (end.Refused input.Ptable name at) = inr (λ h. cc, λ h. cc)
memory_or_not (end.Refused input.People name at) = inr (λ h. cc, λ h. cc)
memory_or_not (end.Refused input.Dwellings name at) = inr (λ h. cc, λ h. cc)
memory_or_not (end.Refused input.Links name at) = inr (λ h. cc, λ h. cc)
memory_or_not (end.Refused input.Script name at) = inr (λ h. cc, λ h. cc)
memory_or_not (end.BadLine at) = inr (λ h. cc, λ h. cc)
memory_or_not end.Memory = inl refl

module _ (call : Call) (at : List ℕ → Option (List ℕ)) (same : call.ports_after ≡ call.ports) where
  -- a last line is the text of its status
  whole_by_status : (s : Status) (text : List ℕ) → IsOfEnd s → s ≢ status.Memory → IsLastLine call at s text → IsWhole call at s text
  whole_by_status status.Done text of m h = absurd of
  whole_by_status status.Usage text of m h = h
  whole_by_status status.Schema text of m h = h
  whole_by_status status.Perturbation text of m h = h
  whole_by_status status.Microdata text of m h = h
  whole_by_status status.Script text of m h = h
  whole_by_status status.ReadFault text of m h = h
  whole_by_status status.WriteFault text of m h = absurd of
  whole_by_status status.Memory text of m h = absurd (m refl)
  whole_by_status status.NetFault text of m h = absurd of
  whole_by_status status.Journal text of m h = absurd of
  whole_by_status status.DiskFault text of m h = absurd of
  whole_by_status status.Units text of m h = h

  whole_by_end : (e : End) → (e ≢ end.Memory → EndsBy call at e) → IsWhole call at (status_of e) (last_line e)
  whole_by_end e ends = elim (memory_or_not e) [
    | inl memory ↦ rw memory (inl refl, all-unserved call.ports call.ports_after same)
    | inr (other, other_status) ↦ whole_by_status (status_of e) (last_line e) (of_end e) other_status (e, ends other, refl, refl)
  ]

  text_by_end : (e : End) (s : Status) → (e ≢ end.Memory → EndsBy call at e) → IsToldBy call e s →
      (bytes : List ℕ) × IsTextOf call at s bytes × HasTaken call bytes
  text_by_end e s ends (inl (is, took)) = (last_line e, inl (rw is (whole_by_end e ends)), took)
  text_by_end e s ends (inr (is, rose, part)) =
      let line = last_line e in
      let whole : IsWhole call at (status_of e) (take part.0 line ++ drop part.0 line) = rw (take-append-drop part.0 line)
      (whole_by_end e ends) in
      (take part.0 line, inr (is, (status_of e, drop part.0 line, whole)), part.1)

  -- the defined status, Memory or a fault of the outside
  defined_by_end : (e : End) (s : Status) → s ≡ status_of e → (e ≢ end.Memory → EndsBy call at e) →
      ((file : Input) → e ≡ end.Unread file → ReadFailed call) → IsDefined call at s
  defined_by_end end.Memory s is ends rose = inr (inl is)
  defined_by_end (end.Unread file) s is ends rose = inr (inr (inl (is, rose file refl)))
  defined_by_end end.Usage s is ends rose = let (by, caused, still) = ends (λ h. cc) in inl (is ∙ sym (ap defined_status by))
  defined_by_end (end.TooLong file) s is ends rose = let (by, caused, still) = ends (λ h. cc) in inl (is ∙ sym (ap defined_status by))
  defined_by_end (end.Refused file name n) s is ends rose = let (by, caused, still) = ends (λ h. cc) in inl (is ∙ sym (ap defined_status by))
  defined_by_end (end.BadLine n) s is ends rose = let (by, caused, still) = ends (λ h. cc) in inl (is ∙ sym (ap defined_status by))

  exact_by_end : (e : End) (s : Status) → (e ≢ end.Memory → EndsBy call at e) → ((file : Input) → e ≡ end.Unread file → ReadFailed call)
      → IsToldBy call e s → IsDefined call at s
  exact_by_end e s ends rose (inl (is, took)) = defined_by_end e s is ends rose
  exact_by_end e s ends rose (inr (is, failed, part)) = inr (inr (inr (inl (is, failed))))

status-usage : (e : End) → status_of e ≡ status.Usage → e ≡ end.Usage
status-usage end.Usage h = refl
status-usage (end.TooLong input.Classes) h = cc
status-usage (end.TooLong input.Recodes) h = cc
status-usage (end.TooLong input.Ptable) h = cc
status-usage (end.TooLong input.People) h = cc
status-usage (end.TooLong input.Dwellings) h = cc
status-usage (end.TooLong input.Links) h = cc
status-usage (end.TooLong input.Script) h = cc
status-usage (end.Unread file) h = cc
status-usage (end.Refused input.Classes name at) h = cc
status-usage (end.Refused input.Recodes name at) h = cc
status-usage (end.Refused input.Ptable name at) h = cc
status-usage (end.Refused input.People name at) h = cc
status-usage (end.Refused input.Dwellings name at) h = cc
status-usage (end.Refused input.Links name at) h = cc
status-usage (end.Refused input.Script name at) h = cc
status-usage (end.BadLine at) h = cc
status-usage end.Memory h = cc

status-read : (e : End) → status_of e ≡ status.ReadFault → (file : Input) × (e ≡ end.Unread file)
status-read end.Usage h = cc
status-read (end.TooLong input.Classes) h = cc
status-read (end.TooLong input.Recodes) h = cc
status-read (end.TooLong input.Ptable) h = cc
status-read (end.TooLong input.People) h = cc
status-read (end.TooLong input.Dwellings) h = cc
status-read (end.TooLong input.Links) h = cc
status-read (end.TooLong input.Script) h = cc
status-read (end.Unread file) h = (file, refl)
status-read (end.Refused input.Classes name at) h = cc
status-read (end.Refused input.Recodes name at) h = cc
status-read (end.Refused input.Ptable name at) h = cc
status-read (end.Refused input.People name at) h = cc
status-read (end.Refused input.Dwellings name at) h = cc
status-read (end.Refused input.Links name at) h = cc
status-read (end.Refused input.Script name at) h = cc
status-read (end.BadLine at) h = cc
status-read end.Memory h = cc

module _ (call : Call) (e : End) (s : Status) (usage : e ≡ end.Usage → command_of call.words ≡ None)
    (words : command_of call.words ≡ None → e ≡ end.Usage)
    (rose : (file : Input) → e ≡ end.Unread file → ReadFailed call) (ends : IfSome call.content (λ at. e ≢ end.Memory → EndsBy call at e))
    (accepted : asks_to_generate (command_of call.words) ≡ true → e ≡ end.Memory)
    (priced : IfSome call.content (λ at. (call.steps_after ≡ call.steps) ⊎ IsPriced call at s)) (fresh : All IsFresh call.ports)
    (same : call.ports_after ≡ call.ports) (disk : KeepsDisk call s) (units : status_of e ≡ status.Units → asks_for_dwellings (command_of call.words) ≡ true)
    (alone : e ≢ end.Memory → IsStill call.disk) where
  usage_told : IsToldBy call e s → s ≡ status.Usage → (command_of call.words ≡ None) × HasTaken call (last_line end.Usage)
  usage_told (inl (is, took)) h = let u = status-usage e (sym is ∙ h) in (usage u, subst (λ x. HasTaken call (last_line x)) u took)
  usage_told (inr (is, failed, part)) h = cc

  words_told : IsToldBy call e s → command_of call.words ≡ None → (s ≡ status.Usage) ⊎ (s ≡ status.WriteFault)
  words_told (inl (is, took)) h = inl (is ∙ ap status_of (words h))
  words_told (inr (is, failed, part)) h = inr is

  read_told : IsToldBy call e s → s ≡ status.ReadFault → ReadFailed call
  read_told (inl (is, took)) h = let (file, u) = status-read e (sym is ∙ h) in rose file u
  read_told (inr (is, failed, part)) h = cc

  write_told : IsToldBy call e s → s ≡ status.WriteFault → WriteFailed call
  write_told (inl (is, took)) h = absurd (subst IsOfEnd (sym is ∙ h) (of_end e))
  write_told (inr (is, failed, part)) h = failed

  net_told : IsToldBy call e s → s ≡ status.NetFault → NetFailed call
  net_told (inl (is, took)) h = absurd (subst IsOfEnd (sym is ∙ h) (of_end e))
  net_told (inr (is, failed, part)) h = cc

  disk_told : IsToldBy call e s → s ≡ status.DiskFault → HasDiskCause (command_of call.words) call.disk call.ports call.ports_after (output_of call)
  disk_told (inl (is, took)) h = absurd (subst IsOfEnd (sym is ∙ h) (of_end e))
  disk_told (inr (is, failed, part)) h = cc

  journal_told : IsToldBy call e s → s ≡ status.Journal → asks_to_keep (command_of call.words) ≡ true
  journal_told (inl (is, took)) h = absurd (subst IsOfEnd (sym is ∙ h) (of_end e))
  journal_told (inr (is, failed, part)) h = cc

  units_told : IsToldBy call e s → s ≡ status.Units → asks_for_dwellings (command_of call.words) ≡ true
  units_told (inl (is, took)) h = units (sym is ∙ h)
  units_told (inr (is, failed, part)) h = cc

  generated_told : IsToldBy call e s → asks_to_generate (command_of call.words) ≡ true → (s ≡ status.Done) ⊎ ((s ≡ status.WriteFault) ⊎ (s ≡ status.Memory))
  generated_told (inl (is, took)) h = inr (inr (is ∙ ap status_of (accepted h)))
  generated_told (inr (is, failed, part)) h = inr (inl is)

  alone_told : IsToldBy call e s → IsByInput s → IsStill call.disk
  alone_told (inl (is, took)) h = elim (memory_or_not e) [
    | inl memory ↦ absurd (subst IsByInput (is ∙ ap status_of memory) h)
    | inr (other, other_status) ↦ alone other
  ]
  alone_told (inr (is, failed, part)) h = absurd (subst IsByInput is h)

  -- a run that ends before its task keeps all
  pub keeps_by_end : IsToldBy call e s → Keeps call s
  keeps_by_end told = record {
    text = where_told _ _ call.content (λ at by. text_by_end call at same e s by told) ends;
    usage = usage_told told;
    words = words_told told;
    read_fault = read_told told;
    write_fault = write_told told;
    net_fault = net_told told;
    disk_fault = disk_told told;
    journal = journal_told told;
    units = units_told told;
    exact = where_told _ _ call.content (λ at by. exact_by_end call at same e s by rose told) ends;
    price = priced;
    generated = generated_told told;
    idle = same-idle call.ports call.ports_after same fresh;
    others = λ h. same;
    kept = disk.kept;
    hosted = disk.hosted;
    still = disk.still;
    alone = alone_told told;
    unbegun = disk.unbegun;
  }

-- no line was answered
unpriced : (call : Call) (s : Status) → call.steps_after ≡ call.steps → IfSome call.content (λ at. (call.steps_after ≡ call.steps) ⊎ IsPriced call at s)
unpriced call s free = always_told _ call.content (λ at. inl free)

-- no line was answered, nor anything done with the disk
undone : (call : Call) (e : End) (s : Status) → call.steps_after ≡ call.steps → call.ports_after ≡ call.ports → IsToldBy call e s
    → IsStill call.disk → KeepsDisk call s
undone call e s free same told still =
    ended-before call s (status_of e) (last_line e) free same still (inl (e, refl, refl)) (ended-so e s _ _ _ _ told)

-- how a script was answered, and the status
abbrev pub IsScriptAnsweredBy : Call → AskedValue → Status → Type 0
IsScriptAnsweredBy call asked s = IsScriptAnswered (AreAnswers asked) s call.write_faults call.write_faults_after call.taken call.taken_after
    call.steps call.steps_after

-- a run that comes to its script keeps all, where its output is the text of its replies
module _ (call : Call) (command : Command) (asked : AskedValue) (s : Status) (named : command_of call.words ≡ Some command)
    (told : IfSome call.content (λ at. asked_of at call.words ≡ Ok asked)) (fresh : All IsFresh call.ports)
    (same : call.ports_after ≡ call.ports) (disk : KeepsDisk call s)
    (whole : (replies : List ReplyValue) → AreAnswers asked replies → IsOutput asked call.ports call.ports_after status.Done (text_of replies))
    (begun : (replies : List ReplyValue) → s ≢ status.Memory → TookPart call.taken call.taken_after (text_of replies)
    → IsBegun asked s replies call.taken call.taken_after) where
  -- the counter rose by no more than the replies' price
  script_priced : (replies : List ReplyValue) → AreAnswers asked replies → s ≢ status.Memory
      → TookPart call.taken call.taken_after (text_of replies) → call.steps_after ≤ call.steps + price_of replies
      → IfSome call.content (λ at. (call.steps_after ≡ call.steps) ⊎ IsPriced call at s)
  script_priced replies answers some part cost =
      where_told _ _ call.content (λ at h. inr (asked, h, (replies, answers, begun replies some part, cost))) told

  keeps_by_script : IsScriptAnsweredBy call asked s → Keeps call s
  keeps_by_script (inl (is, (replies, answers, took, cost))) =
      keeps_by_written call command asked s (text_of replies) named told (whole replies answers)
      (script_priced replies answers (λ m. cc) (TookPart-all call.taken call.taken_after (text_of replies) took) cost) fresh same disk
      (inl (is, took))
  keeps_by_script (inr (inl (is, failed, (replies, answers, part, cost)))) =
      keeps_by_written call command asked s (text_of replies) named told (whole replies answers)
      (script_priced replies answers (λ m. cc) part cost) fresh same disk (inr (is, failed, part))
  keeps_by_script (inr (inr (free, ended))) =
      keeps_by_end call end.Memory s (λ h. cc) (λ h. cc) (λ file h. cc) (always_told _ call.content (λ at ne. absurd (ne refl)))
      (λ h. refl) (unpriced call s free) fresh same disk (λ h. cc) (λ ne. absurd (ne refl)) ended

-- how a generated population was answered, and the status
abbrev pub IsGenAnsweredBy : Call → Population → CensusValue → ScriptValue → Status → Type 0
IsGenAnsweredBy call population census script s = IsGenAnswered population census script s call.write_faults call.write_faults_after
    call.taken call.taken_after call.steps call.steps_after

-- a run that sums up replies keeps all, whatever of its line was taken
module _ (call : Call) (command : Command) (population : Population) (census : CensusValue) (by : Owner) (script : ScriptValue) (s : Status)
    (named : command_of call.words ≡ Some command)
    (told : IfSome call.content (λ at. asked_of at call.words ≡ Ok (asked_with census by (lines.Sums population script))))
    (fresh : All IsFresh call.ports) (same : call.ports_after ≡ call.ports) (still : IsStill call.disk) where
  abbrev summed : AskedValue
  summed = asked_with census by (lines.Sums population script)

  -- the counter rose by no more than the replies' price
  priced_by : (replies : List ReplyValue) → AreScriptReplies census script replies → call.steps_after ≤ call.steps + price_of replies
      → IsBegun summed s replies call.taken call.taken_after
      → IfSome call.content (λ at. (call.steps_after ≡ call.steps) ⊎ IsPriced call at s)
  priced_by replies answers cost begun =
      where_told _ _ call.content (λ at h. inr (summed, h, (replies, answers, begun, cost))) told

  -- a line was written, or a beginning of it
  begun_line : (replies : List ReplyValue) → IsLineWritten status.Done (summary_line population (text_of replies)) s call.write_faults
      call.write_faults_after call.taken call.taken_after → IsBegun summed s replies call.taken call.taken_after
  begun_line replies (inl (is, took)) = inl (λ m. cc, TookPart-all call.taken call.taken_after (summary_line population (text_of replies)) took)
  begun_line replies (inr (is, failed, part)) = inl (λ m. cc, part)

  -- the text of the replies has more bytes than are counted
  begun_long : (replies : List ReplyValue) → most_counted < length (text_of replies) → IsToldBy call end.Memory s
      → IsBegun summed s replies call.taken call.taken_after
  begun_long replies long (inl (is, took)) = inr (long, TookPart-all call.taken call.taken_after (last_line end.Memory) took)
  begun_long replies long (inr (is, failed, part)) = inr (long, part)

  -- a run that comes to a generated population keeps all
  keeps_by_gen : IsGenAnsweredBy call population census script s → Keeps call s
  keeps_by_gen (inl (replies, answers, cost, inl written)) =
      keeps_by_written call command summed s (summary_line population (text_of replies)) named told (refl, (replies, answers, refl))
      (priced_by replies answers cost (begun_line replies written)) fresh same
      (left-alone call summed s (inr (refl, refl)) told still) written
  keeps_by_gen (inl (replies, answers, cost, inr (long, ended))) =
      keeps_by_end call end.Memory s (λ h. cc) (λ h. cc) (λ file h. cc) (always_told _ call.content (λ at ne. absurd (ne refl)))
      (λ h. refl) (priced_by replies answers cost (begun_long replies long ended)) fresh same
      (left-alone call summed s (inr (refl, refl)) told still) (λ h. cc) (λ ne. absurd (ne refl)) ended
  keeps_by_gen (inr (free, ended)) =
      keeps_by_end call end.Memory s (λ h. cc) (λ h. cc) (λ file h. cc) (always_told _ call.content (λ at ne. absurd (ne refl)))
      (λ h. refl) (unpriced call s free) fresh same (undone call end.Memory s free same ended still) (λ h. cc) (λ ne. absurd (ne refl)) ended

-- how what is asked for was answered, and the status
abbrev pub IsAnsweredBy : Call → AskedValue → Status → Type 0
IsAnsweredBy call asked s = IsAnswered asked call.ports call.ports_after call.disk s (output_of call) call.steps call.steps_after

-- a run that comes to its task keeps all, by the lines and who owns the chain
keeps_by_lines : (call : Call) (command : Command) (census : CensusValue) (by : Owner) (asked : AskedLines) (s : Status)
    → command_of call.words ≡ Some command
    → is_service (asked_with census by asked) ≡ asks_to_serve (Some command) → is_keep (asked_with census by asked) ≡ asks_to_keep (Some command)
    → IfSome call.content (λ at. asked_of at call.words ≡ Ok (asked_with census by asked)) → All IsFresh call.ports
    → IsAnsweredBy call (asked_with census by asked) s → Keeps call s
keeps_by_lines call command census owner.Custodian (lines.Script script) s named serves keeps told fresh (same, (still, answered)) =
    let asked = asked_with census owner.Custodian (lines.Script script) in
    keeps_by_script call command asked s named told fresh same (left-alone call asked s (inl refl) told still)
    (λ replies are. (refl, (replies, are, refl))) (λ replies some part. (some, part)) answered
keeps_by_lines call command census (owner.Journal journal) (lines.Script script) s named serves keeps told fresh (same, answered) =
    keeps_by_keep call command census journal script s named (sym keeps) told fresh same answered
keeps_by_lines call command census owner.Leader (lines.Script script) s named serves keeps told fresh (same, (still, answered)) =
    let asked = asked_with census owner.Leader (lines.Script script) in
    keeps_by_script call command asked s named told fresh same (left-alone call asked s (inl refl) told still)
    (λ replies are. (refl, (replies, are, refl))) (λ replies some part. (some, part)) answered
keeps_by_lines call command census by (lines.Lanes script) s named serves keeps told fresh (same, still, free, answered) =
    keeps_by_lanes call command census by script s named told free fresh same still answered
keeps_by_lines call command census owner.Custodian (lines.Ports service) s named serves keeps told fresh (free, (still, answered)) =
    keeps_by_service call command census service s named (sym serves) told free fresh still answered
keeps_by_lines call command census (owner.Journal journal) (lines.Ports service) s named serves keeps told fresh (free, answered) =
    keeps_by_host call command census journal service s named (sym serves) (sym keeps) told free fresh answered
keeps_by_lines call command census owner.Leader (lines.Ports service) s named serves keeps told fresh (free, (still, answered)) =
    keeps_by_mirror call command census service s named (sym serves) told free fresh still answered
keeps_by_lines call command census by (lines.Sums population script) s named serves keeps told fresh (same, still, answered) =
    keeps_by_gen call command population census by script s named told fresh same still answered

keeps_by_answer : (call : Call) (command : Command) (asked : AskedValue) (s : Status) → command_of call.words ≡ Some command
    → is_service asked ≡ asks_to_serve (Some command) → is_keep asked ≡ asks_to_keep (Some command)
    → IfSome call.content (λ at. asked_of at call.words ≡ Ok asked) → All IsFresh call.ports → IsAnsweredBy call asked s → Keeps call s
keeps_by_answer call command asked = keeps_by_lines call command asked.census asked.owner asked.lines

-- what a call saw of its files
abbrev pub reading_of : Call → Option (List ℕ → Option (List ℕ)) → Reading
reading_of call after = record {
  content = call.content;
  content_after = after;
  faults = call.read_faults;
  faults_after = call.read_faults_after;
  readings = call.readings;
  readings_after = call.readings_after;
}

same_command : (words : List (List ℕ)) (command other : Command) → command_of words ≡ Some command → command_of words ≡ Some other
    → command ≡ other
same_command words command other h k = cc

caused : (call : Call) (command : Command) (e : End) → command_of call.words ≡ Some command →
    ((file : Input) → e ≡ end.Unread file → ReadFailed call)
    → ((file : Input) → e ≡ end.Unread file → IsReadTo (command_files command) file call.readings call.readings_after) → IsCaused call e
caused call command (end.Unread file) named rose last = (
  rose file refl,
  λ other h. subst (λ (c : Command). IsReadTo (command_files c) file call.readings call.readings_after)
      (same_command call.words command other named h) (last file refl),
)
caused call command end.Usage named rose last = tt
caused call command (end.TooLong file) named rose last = tt
caused call command (end.Refused file name at) named rose last = tt
caused call command (end.BadLine at) named rose last = tt
caused call command end.Memory named rose last = tt

-- a command's contents hold its files: each is the first at its place of reading
module _ (at : List ℕ → Option (List ℕ)) (classes ptable people : List ℕ) (threshold : ℕ) where
  abbrev inputs_of : Option (List ℕ) → Inputs
  inputs_of recodes = record { classes = classes; recodes = recodes; ptable = ptable; people = people; threshold = threshold }

  abbrev Holds : Inputs → Option UnitFiles → Lines → Type 0
  Holds inputs units lines =
      Hold at (counted_files inputs units ++ lines_files lines) (contents_at at (counted_files inputs units ++ lines_files lines))

  holds-task : (recodes : Option (List ℕ)) (units : Option UnitFiles) (lines : Lines) → Holds (inputs_of recodes) units lines
  holds-task None None (named_lines.Script name) = (refl, (refl, (refl, (refl, tt))))
  holds-task None None (named_lines.Lanes name) = (refl, (refl, (refl, (refl, tt))))
  holds-task None None (named_lines.Ports service) = (refl, (refl, (refl, tt)))
  holds-task (Some r) None (named_lines.Script name) = (refl, (refl, (refl, (refl, (refl, tt)))))
  holds-task (Some r) None (named_lines.Lanes name) = (refl, (refl, (refl, (refl, (refl, tt)))))
  holds-task (Some r) None (named_lines.Ports service) = (refl, (refl, (refl, (refl, tt))))
  holds-task None (Some u) (named_lines.Script name) = (refl, (refl, (refl, (refl, (refl, (refl, tt))))))
  holds-task None (Some u) (named_lines.Lanes name) = (refl, (refl, (refl, (refl, (refl, (refl, tt))))))
  holds-task None (Some u) (named_lines.Ports service) = (refl, (refl, (refl, (refl, (refl, tt)))))
  holds-task (Some r) (Some u) (named_lines.Script name) = (refl, (refl, (refl, (refl, (refl, (refl, (refl, tt)))))))
  holds-task (Some r) (Some u) (named_lines.Lanes name) = (refl, (refl, (refl, (refl, (refl, (refl, (refl, tt)))))))
  holds-task (Some r) (Some u) (named_lines.Ports service) = (refl, (refl, (refl, (refl, (refl, (refl, tt))))))

holds : (at : List ℕ → Option (List ℕ)) (c : Command) → Hold at (command_files c) (contents_at at (command_files c))
holds at (command.Over task) =
    let inputs = task.inputs in
    holds-task at inputs.classes inputs.ptable inputs.people inputs.threshold inputs.recodes task.units task.lines
holds at (command.Gen population) = tt

-- files of dwellings are a command's only where it asks for them
module _ (classes ptable people : List ℕ) (threshold : ℕ) (by : Owner) where
  abbrev task_of : Option (List ℕ) → Option UnitFiles → Lines → Task
  task_of recodes units lines = record {
    inputs = record { classes = classes; recodes = recodes; ptable = ptable; people = people; threshold = threshold };
    units = units;
    owner = by;
    lines = lines;
  }

  dwellings_in : (recodes : Option (List ℕ)) (units : Option UnitFiles) (lines : Lines) → have_dwellings (task_files (task_of recodes units lines)) ≡ true
      → asks_for_dwellings (Some (command.Over (task_of recodes units lines))) ≡ true
  dwellings_in recodes (Some files) lines h = refl
  dwellings_in None None (named_lines.Script name) h = absurd (true≢false (sym h))
  dwellings_in None None (named_lines.Lanes name) h = absurd (true≢false (sym h))
  dwellings_in None None (named_lines.Ports service) h = absurd (true≢false (sym h))
  dwellings_in (Some r) None (named_lines.Script name) h = absurd (true≢false (sym h))
  dwellings_in (Some r) None (named_lines.Lanes name) h = absurd (true≢false (sym h))
  dwellings_in (Some r) None (named_lines.Ports service) h = absurd (true≢false (sym h))

dwellings-asked : (c : Command) → have_dwellings (command_files c) ≡ true → asks_for_dwellings (Some c) ≡ true
dwellings-asked (command.Over task) h =
    let inputs = task.inputs in
    dwellings_in inputs.classes inputs.ptable inputs.people inputs.threshold task.owner inputs.recodes task.units task.lines h
dwellings-asked (command.Gen population) h = absurd (true≢false (sym h))

-- how loading ended the run
pub keeps_by_load : {A : Type 0} (view : A → AskedValue) (call : Call) (after : Option (List ℕ → Option (List ℕ))) (command : Command)
    (e : End) (s : Status) → command_of call.words ≡ Some command
    → Loads (reading_of call after) 0 (command_files command) view (asked_over command) (Err e)
    → (asks_to_generate (command_of call.words) ≡ true → e ≡ end.Memory) → call.steps_after ≡ call.steps
    → All IsFresh call.ports → call.ports_after ≡ call.ports → IsStill call.disk → IsToldBy call e s → Keeps call s
keeps_by_load view call after command e s named loads accepted free fresh same still told =
    let rose = λ (file : Input) (h : e ≡ end.Unread file). loads.risen file (ap (λ (x : End). Err x) h) in
    let last = λ (file : Input) (h : e ≡ end.Unread file). loads.last file (ap (λ (x : End). Err x) h) in
    keeps_by_end call e s
    (λ h. absurd (loads.usage (ap (λ (x : End). Err x) h))) (λ h. cc) rose
    (where_told _ _ call.content (λ at g ne. (
      rw named
          (g (contents_at at (command_files command)) (holds at command) ne),
      caused call command e named rose last,
      same,
    )) loads.gives)
    accepted (unpriced call s free) fresh same (undone call e s free same told still)
    (λ h. ap asks_for_dwellings named ∙ dwellings-asked command (loads.units h)) (λ ne. still) told

-- other arguments end the run at once
pub keeps_by_usage : (call : Call) (s : Status) → command_of call.words ≡ None → call.steps_after ≡ call.steps → All IsFresh call.ports
    → call.ports_after ≡ call.ports → IsStill call.disk → IsToldBy call end.Usage s → Keeps call s
keeps_by_usage call s none free fresh same still told =
    keeps_by_end call end.Usage s (λ h. none) (λ h. refl) (λ file h. cc)
    (always_told _ call.content (λ at ne. (rw none refl, tt, same)))
    (λ h. absurd (true≢false (sym h ∙ ap asks_to_generate none))) (unpriced call s free) fresh same
    (undone call end.Usage s free same told still) (λ h. cc) (λ ne. still) told

-- files that were all read lead to the task
pub keeps_by_task : {A : Type 0} (view : A → AskedValue) (call : Call) (after : Option (List ℕ → Option (List ℕ))) (command : Command)
    (x : A) (s : Status) → command_of call.words ≡ Some command
    → Loads (reading_of call after) 0 (command_files command) view (asked_over command) (Ok x)
    → is_service (view x) ≡ asks_to_serve (Some command) → is_keep (view x) ≡ asks_to_keep (Some command)
    → All IsFresh call.ports → IsAnsweredBy call (view x) s → Keeps call s
keeps_by_task view call after command x s named loads serves keeps fresh answered =
    keeps_by_answer call command (view x) s named serves keeps
    (where_told _ _ call.content (λ at g. rw named (g (contents_at at (command_files command)) (holds at command))) loads.gives) fresh answered

-- the text of a read fault is the line that names the file of the last reading
pub line_of_read_fault : (call : Call) (at : List ℕ → Option (List ℕ)) (s : Status) (bytes : List ℕ) → IsTextOf call at s bytes
    → s ≡ status.ReadFault
    → (file : Input) × (bytes ≡ last_line (end.Unread file)) ×
    ((command : Command) → command_of call.words ≡ Some command → IsReadTo (command_files command) file call.readings call.readings_after)
line_of_read_fault call at s bytes (inl whole) h =
    let (e, (by, cause, same), is, text) = subst (λ x. IsWhole call at x bytes) h whole in
    let (file, unread) = status-read e is in
    let caused = subst (IsCaused call) unread cause in
    (file, text ∙ ap last_line unread, caused.1)
line_of_read_fault call at s bytes (inr (is, cut)) h = cc

-- and where it is in memory
pub memory_read_fault : (call : Call) (at : List ℕ → Option (List ℕ)) (s : Status) (before after : List ℕ) →
    (bytes : List ℕ) × IsTextOf call at s bytes × (after ≡ before ++ bytes) → s ≡ status.ReadFault
    → (file : Input) × (after ≡ before ++ last_line (end.Unread file)) ×
    ((command : Command) → command_of call.words ≡ Some command → IsReadTo (command_files command) file call.readings call.readings_after)
memory_read_fault call at s before after (bytes, text, took) h =
    let (file, line, last) = line_of_read_fault call at s bytes text h in
    (file, took ∙ ap (λ more. before ++ more) line, last)
