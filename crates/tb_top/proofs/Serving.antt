-- What a call keeps that served sessions.
use Rattle.std.proofs.Common.{◌≡◌, ◌≢◌, ◌⊎◌, ◌∙◌, sym, ap, subst, refl, ℕ, ◌+◌, ◌<◌, ◌≤◌, List, ◌++◌, length, take, drop, get_or, All, Bool, true, false, Option, Some, Ok, inl, inr, arith}
use Rattle.std.specs.Prelude.{IfSome}
use Rattle.std.proofs.lemmas.List.{get_or_default, take-append-drop}
use Rattle.std.proofs.lemmas.List.Folds.{Any-from_list_any}
use Rattle.tb_base.specs.declared.status.Status.{Status}
use Rattle.tb_base.specs.declared.status.Status.TheVariants as status
use Rattle.tb_io.specs.Faults.{HasRisen}
use Rattle.tb_release.specs.Batches.{BatchValue}
use Rattle.tb_serve.specs.Each.{Each}
use Rattle.tb_serve.specs.Places.{number_at}
use Rattle.tb_serve.specs.Ports.{PortValue}
use Rattle.tb_serve.specs.Reports.{memory_line, net_line, report, some_failed}
use Rattle.tb_serve.specs.Serves.{IsEnded, IsPortServed, final_status}
use Rattle.tb_serve.specs.Stages.{HasRisenSome, IsFresh, IsOneNotBound, IsUntouched}
use Rattle.tb_top.specs.Asking.{AskedValue, CensusValue, asked_of, asked_with, base_of, is_keep}
use Rattle.tb_top.specs.declared.asked.AskedLines.TheVariants as lines
use Rattle.tb_command.specs.declared.command.Owner.TheVariants as owner
use Rattle.tb_top.specs.Calls.{Call, HasTaken, NetFailed, output_of}
use Rattle.tb_command.specs.Commands.{asks_to_generate, asks_to_keep, asks_to_serve, command_of}
use Rattle.tb_top.specs.KeepOutputs.{HasFailed, IsStill}
use Rattle.tb_top.specs.Outputs.{IsOutput}
use Rattle.tb_command.specs.ServicePorts.{Service}
use Rattle.tb_top.specs.Promises.{HasDiskCause, IsAskedOutput, IsByInput, IsDefined, IsJournalText, IsTextOf, IsUnkeptReport, IsWhole, Keeps, defined_status}
use Rattle.tb_top.specs.Services.{IsIdle, IsServiceAnswered, places_of}
use Rattle.tb_command.specs.declared.command.Command.{Command}
use Rattle.tb_command.specs.declared.command.Command.TheVariants as command
use Rattle.tb_top.proofs.DiskKept.{KeepsDisk, left-alone}
use Rattle.tb_top.proofs.PortLemmas.{each-idle, each-unserved, each-whole, idle-whole, risen-unbound, risen-whole, take-fresh, unserved}
use Rattle.tb_top.proofs.Telling.{always_told, where_told}

-- the statuses of a task whose last line was written
abbrev pub IsFinal : Status → Type 0
IsFinal status.Done = Unit {0}
IsFinal status.Usage = ⊥
IsFinal status.Schema = ⊥
IsFinal status.Perturbation = ⊥
IsFinal status.Microdata = ⊥
IsFinal status.Script = ⊥
IsFinal status.ReadFault = ⊥
IsFinal status.WriteFault = ⊥
IsFinal status.Memory = Unit {0}
IsFinal status.NetFault = Unit {0}
IsFinal status.Journal = Unit {0}
IsFinal status.DiskFault = Unit {0}
IsFinal status.Units = ⊥

final-task : (s : Status) → IsFinal s → IsByInput s → ⊥
final-task status.Done is by = by
final-task status.Usage is by = is
final-task status.Schema is by = is
final-task status.Perturbation is by = is
final-task status.Microdata is by = is
final-task status.Script is by = is
final-task status.ReadFault is by = is
final-task status.WriteFault is by = is
final-task status.Memory is by = by
final-task status.NetFault is by = by
final-task status.Journal is by = by
final-task status.DiskFault is by = by
final-task status.Units is by = is

-- a task ends with DiskFault by this text: a journal was asked for, and the disk's count rose; or
-- sessions with one were, of which it is the report
abbrev pub EndsByDisk : Call → Command → List ℕ → Type 0
EndsByDisk call command text =
    (asks_to_keep (Some command) ≡ true)
    × (HasFailed call.disk ⊎ ((asks_to_serve (Some command) ≡ true) × IsUnkeptReport call.ports call.ports_after text))

-- a call that came to its task, and whose text is one of a final status
module _ (call : Call) (command : Command) (task : AskedValue) (s final : Status) (text : List ℕ)
    (named : command_of call.words ≡ Some command)
    (told : IfSome call.content (λ at. asked_of at call.words ≡ Ok task)) (free : call.steps_after ≡ call.steps)
    (is_final : IsFinal final) (failed : final ≡ status.NetFault → NetFailed call)
    (disk_failed : final ≡ status.DiskFault → EndsByDisk call command text) (journal : final ≡ status.Journal → asks_to_keep (Some command) ≡ true)
    (idle : All IsIdle call.ports_after) (others : asks_to_serve (Some command) ≡ false → call.ports_after ≡ call.ports)
    (generated : asks_to_generate (Some command) ≡ true → (final ≡ status.Done) ⊎ (final ≡ status.Memory))
    (whole : (at : List ℕ → Option (List ℕ)) → asked_of at call.words ≡ Ok task → IsWhole call at final text) (disk : KeepsDisk call s) where
  text_told : (at : List ℕ → Option (List ℕ)) → asked_of at call.words ≡ Ok task
      → IsEnded text final (output_of call) s → (bytes : List ℕ) × IsTextOf call at s bytes × HasTaken call bytes
  text_told at asked (inl (is, took)) = (text, inl (rw is (whole at asked)), took)
  text_told at asked (inr (is, part, rose)) =
      let all : IsWhole call at final (take part.0 text ++ drop part.0 text) = rw (take-append-drop part.0 text) (whole at asked) in
      (take part.0 text, inr (is, (final, drop part.0 text, all)), part.1)

  defined_told : (at : List ℕ → Option (List ℕ)) → asked_of at call.words ≡ Ok task → (f : Status) → IsFinal f
      → (f ≡ status.NetFault → NetFailed call) → IsWhole call at f text → s ≡ f → IsDefined call at s
  defined_told at asked status.Done final net written is = inl (is ∙ sym (ap defined_status asked))
  defined_told at asked status.Usage final net written is = absurd final
  defined_told at asked status.Schema final net written is = absurd final
  defined_told at asked status.Perturbation final net written is = absurd final
  defined_told at asked status.Microdata final net written is = absurd final
  defined_told at asked status.Script final net written is = absurd final
  defined_told at asked status.ReadFault final net written is = absurd final
  defined_told at asked status.WriteFault final net written is = absurd final
  defined_told at asked status.Memory final net written is = inr (inl is)
  defined_told at asked status.NetFault final net written is = inr (inr (inr (inr (inl (is, net refl)))))
  defined_told at asked status.Journal final net written is =
      inr (inr (inr (inr (inr (inl (text, subst (λ x. IsJournalText call at x text) (sym is) written))))))
  defined_told at asked status.DiskFault final net (inl written) is =
      inr (inr (inr (inr (inr (inl (text, subst (λ x. IsJournalText call at x text) (sym is) written))))))
  defined_told at asked status.DiskFault final net (inr written) is = inr (inr (inr (inr (inr (inr (is, (text, written)))))))
  defined_told at asked status.Units final net written is = absurd final

  -- it has no other status than the final one and WriteFault
  never : (other : Status) → IsEnded text final (output_of call) s → other ≢ status.WriteFault → (IsFinal other → ⊥) → s ≢ other
  never other (inl (is, took)) write none h = none (subst IsFinal (sym is ∙ h) is_final)
  never other (inr (is, part, rose)) write none h = write (sym h ∙ is)

  -- nor is it one that the arguments, a file or a reading decides
  by_input_never : IsEnded text final (output_of call) s → IsByInput s → ⊥
  by_input_never (inl (is, took)) h = final-task final is_final (subst IsByInput is h)
  by_input_never (inr (is, part, rose)) h = subst IsByInput is h

  exact_told : (at : List ℕ → Option (List ℕ)) → IsEnded text final (output_of call) s
      → asked_of at call.words ≡ Ok task → IsDefined call at s
  exact_told at (inl (is, took)) asked = defined_told at asked final is_final failed (whole at asked) is
  exact_told at (inr (is, part, rose)) asked = inr (inr (inr (inl (is, rose))))

  write_told : IsEnded text final (output_of call) s → s ≡ status.WriteFault → HasRisen call.write_faults call.write_faults_after
  write_told (inl (is, took)) h = absurd (subst IsFinal (sym is ∙ h) is_final)
  write_told (inr (is, part, rose)) h = rose

  net_told : IsEnded text final (output_of call) s → s ≡ status.NetFault → NetFailed call
  net_told (inl (is, took)) h = failed (sym is ∙ h)
  net_told (inr (is, part, rose)) h = cc

  disk_told : IsEnded text final (output_of call) s → s ≡ status.DiskFault
      → HasDiskCause (command_of call.words) call.disk call.ports call.ports_after (output_of call)
  disk_told (inl (is, took)) h =
      let cause = disk_failed (sym is ∙ h) in (
        ap asks_to_keep named ∙ cause.0,
        elim cause.1 [
          | inl failed ↦ inl failed
          | inr hosts ↦ inr (ap asks_to_serve named ∙ hosts.0, (text, hosts.1, took))
        ],
      )
  disk_told (inr (is, part, rose)) h = cc

  journal_told : IsEnded text final (output_of call) s → s ≡ status.Journal → asks_to_keep (command_of call.words) ≡ true
  journal_told (inl (is, took)) h = ap asks_to_keep named ∙ journal (sym is ∙ h)
  journal_told (inr (is, part, rose)) h = cc

  -- where a generated population is asked for it is Done or Memory
  generated_told : IsEnded text final (output_of call) s → (final ≡ status.Done) ⊎ (final ≡ status.Memory)
      → (s ≡ status.Done) ⊎ ((s ≡ status.WriteFault) ⊎ (s ≡ status.Memory))
  generated_told (inl (is, took)) (inl done) = inl (is ∙ done)
  generated_told (inl (is, took)) (inr memory) = inr (inr (is ∙ memory))
  generated_told (inr (is, part, rose)) one = inr (inl is)

  pub keeps_by_final : IsEnded text final (output_of call) s → Keeps call s
  keeps_by_final ended = record {
    text = where_told _ _ call.content (λ at asked. text_told at asked ended) told;
    usage = λ h. absurd (never status.Usage ended (λ k. cc) (λ x. x) h);
    words = λ h. cc;
    read_fault = λ h. absurd (never status.ReadFault ended (λ k. cc) (λ x. x) h);
    write_fault = write_told ended;
    net_fault = net_told ended;
    disk_fault = disk_told ended;
    journal = journal_told ended;
    units = λ h. absurd (never status.Units ended (λ k. cc) (λ x. x) h);
    exact = where_told _ _ call.content (λ at asked. exact_told at ended asked) told;
    price = always_told _ call.content (λ at. inl free);
    generated = λ h. generated_told ended (generated (ap asks_to_generate (sym named) ∙ h));
    idle = idle;
    others = λ h. others (ap asks_to_serve (sym named) ∙ h);
    kept = disk.kept;
    hosted = disk.hosted;
    still = disk.still;
    alone = λ h. absurd (by_input_never ended h);
    unbegun = disk.unbegun;
  }

-- an output of a final status
pub whole_by_output : (call : Call) (at : List ℕ → Option (List ℕ)) (f : Status) (text : List ℕ)
    → (f ≡ status.Done) ⊎ (f ≡ status.NetFault) → IsAskedOutput call at f text → IsWhole call at f text
whole_by_output call at f text (inl done) h = rw done (subst (λ x. IsAskedOutput call at x text) done h)
whole_by_output call at f text (inr net) h = rw net (subst (λ x. IsAskedOutput call at x text) net h)

-- how served ports end
pub data Ending (ports : List PortValue) : Type 0 where
  Quiet : final_status ports ≡ status.Done → Ending ports
  Loud : final_status ports ≡ status.NetFault → some_failed ports ≡ true → Ending ports

ending_by : (ports : List PortValue) (b : Bool) → some_failed ports ≡ b → Ending ports
ending_by ports true is = Loud (rw is refl) is
ending_by ports false is = Quiet (rw is refl)

pub ending_of : (ports : List PortValue) → Ending ports
ending_of ports = ending_by ports (some_failed ports) refl

pub done_or_net : (ports : List PortValue) → Ending ports → (final_status ports ≡ status.Done) ⊎ (final_status ports ≡ status.NetFault)
done_or_net ports (Quiet done) = inl done
done_or_net ports (Loud net some) = inr net

pub some_by : (ports : List PortValue) → Ending ports → final_status ports ≡ status.NetFault → some_failed ports ≡ true
some_by ports (Quiet done) net = cc
some_by ports (Loud is some) net = some

pub final_is : (f : Status) → (f ≡ status.Done) ⊎ (f ≡ status.NetFault) → IsFinal f
final_is f (inl done) = rw done tt
final_is f (inr net) = rw net tt

pub no_disk_by : (f : Status) → (f ≡ status.Done) ⊎ (f ≡ status.NetFault) → f ≢ status.DiskFault
no_disk_by f (inl done) h = cc
no_disk_by f (inr net) h = cc

pub no_journal_by : (f : Status) → (f ≡ status.Done) ⊎ (f ≡ status.NetFault) → f ≢ status.Journal
no_journal_by f (inl done) h = cc
no_journal_by f (inr net) h = cc

-- the element at a place is the same whatever stands in for one that isn't there
failed_at : (ports : List PortValue) (i : ℕ) (x d : PortValue) → i < length ports → x ≡ get_or ports i x → x.failed ≡ true
    → (get_or ports i d).failed ≡ true
failed_at ports i x d below at failed =
    ap (λ (p : PortValue). p.failed) (get_or_default ports i d x below ∙ sym at) ∙ failed

-- ports of each of which something is true by which it is idle
pub idle-by : (R : ℕ → PortValue → PortValue → Type 0) (ports ports' : List PortValue) → ((i : ℕ) (p q : PortValue) → R i p q → IsIdle q)
    → Each R ports ports' → All IsIdle ports'
idle-by R ports ports' idle each = λ i d below. idle i _ _ (each.at i d (omega (arith, below, each.same_length)))

served-idle : (census : CensusValue) (service : Service) (chain : List BatchValue) (ports ports' : List PortValue)
    → Each (IsPortServed census.setup (base_of census) (places_of service) service.sessions chain) ports ports' → All IsIdle ports'
served-idle census service chain ports ports' each =
    idle-by (IsPortServed census.setup (base_of census) (places_of service) service.sessions chain) ports ports'
    (λ i p q at. record { party = at.party; lines = at.lines }) each

-- some accept failed only where a count rose
pub risen-by : (ports ports' : List PortValue) → length ports' ≡ length ports
    → ((i : ℕ) (d : PortValue) → i < length ports → (get_or ports' i d).failed ≡ true
    → HasRisen (get_or ports i d).listener.faults (get_or ports' i d).listener.faults)
    → some_failed ports' ≡ true → HasRisenSome ports ports'
risen-by ports ports' same rises some =
    let (i, x, below, at, failed) = Any-from_list_any (λ (p : PortValue). p.failed) ports' some in
    let inside : i < length ports = omega (arith, below, same) in
    (i, inside, λ d. rises i d inside (failed_at ports' i x d below (sym at) failed))

failed-risen : (census : CensusValue) (service : Service) (chain : List BatchValue) (ports ports' : List PortValue)
    → Each (IsPortServed census.setup (base_of census) (places_of service) service.sessions chain) ports ports' → some_failed ports' ≡ true
    → HasRisenSome ports ports'
failed-risen census service chain ports ports' each some =
    risen-by ports ports' each.same_length (λ i d inside. (each.at i d inside).sessions.visited.enough.risen) some

-- a command that asks for sessions asks for no generated population
pub serves-alone : (c : Command) → asks_to_serve (Some c) ≡ true → asks_to_generate (Some c) ≡ true → ⊥
serves-alone (command.Over task) serves generates = cc
serves-alone (command.Gen population) serves generates = cc

-- the ports of a service without a journal that was answered, and the others
module _ (call : Call) (command : Command) (task : AskedValue) (service : Service) (s : Status)
    (named : command_of call.words ≡ Some command) (serves : asks_to_serve (Some command) ≡ true) (other : is_keep task ≡ false)
    (told : IfSome call.content (λ at. asked_of at call.words ≡ Ok task)) (free : call.steps_after ≡ call.steps)
    (fresh : All IsFresh call.ports) (long : service.workers + 1 ≤ length call.ports)
    (rest : drop (service.workers + 1) call.ports_after ≡ drop (service.workers + 1) call.ports) (still : IsStill call.disk) where
  abbrev n : ℕ
  n = service.workers + 1

  ours : All IsFresh (take n call.ports)
  ours = take-fresh n call.ports long fresh

  -- sessions are asked for
  no_others : asks_to_serve (Some command) ≡ false → call.ports_after ≡ call.ports
  no_others h = cc

  -- and no generated population or journal is
  not_generated : (final : Status) → asks_to_generate (Some command) ≡ true → (final ≡ status.Done) ⊎ (final ≡ status.Memory)
  not_generated final h = absurd (serves-alone command serves h)

  on_disk : KeepsDisk call s
  on_disk = left-alone call task s (inl other) told still

  -- nothing was accepted
  by_untouched : (text : List ℕ) (final : Status) → IsFinal final → Each (IsUntouched (number_at (places_of service))) (take n call.ports) (take n call.ports_after)
      → (final ≡ status.NetFault → NetFailed call) → final ≢ status.DiskFault → final ≢ status.Journal
      → ((at : List ℕ → Option (List ℕ)) → asked_of at call.words ≡ Ok task → IsWhole call at final text)
      → IsEnded text final (output_of call) s → Keeps call s
  by_untouched text final is each net no_disk no_journal whole ended =
      let idle = idle-whole n call.ports call.ports_after long each.same_length rest fresh (each-idle (number_at (places_of service)) _ _ each ours) in
      keeps_by_final call command task s final text named told free is net (λ h. absurd (no_disk h)) (λ h. absurd (no_journal h)) idle no_others
      (not_generated final) whole on_disk ended

  pub by_memory : Each (IsUntouched (number_at (places_of service))) (take n call.ports) (take n call.ports_after)
      → IsEnded memory_line status.Memory (output_of call) s → Keeps call s
  by_memory each ended =
      let none = each-whole n call.ports call.ports_after long each.same_length rest _ unserved (each-unserved (number_at (places_of service)) _ _ each) in
      by_untouched memory_line status.Memory tt each (λ h. cc) (λ h. cc) (λ h. cc) (λ at asked. (inl refl, none)) ended

  pub by_unbound : Each (IsUntouched (number_at (places_of service))) (take n call.ports) (take n call.ports_after)
      → IsOneNotBound (take n call.ports) (take n call.ports_after)
      → IsOutput task call.ports call.ports_after status.NetFault net_line → IsEnded net_line status.NetFault (output_of call) s → Keeps call s
  by_unbound each one out ended =
      let rose = risen-unbound (take n call.ports) (take n call.ports_after) one in
      by_untouched net_line status.NetFault tt each (λ h. risen-whole n call.ports call.ports_after long each.same_length rest rose) (λ h. cc) (λ h. cc)
      (λ at asked. (task, asked, out)) ended

  -- all ports were served, and the number of this release was reported
  pub by_sessions : (release : ℕ) → length (take n call.ports_after) ≡ length (take n call.ports) → All IsIdle (take n call.ports_after)
      → (some_failed (take n call.ports_after) ≡ true → HasRisenSome (take n call.ports) (take n call.ports_after))
      → IsOutput task call.ports call.ports_after (final_status (take n call.ports_after)) (report (places_of service) (take n call.ports_after) release)
      → IsEnded (report (places_of service) (take n call.ports_after) release) (final_status (take n call.ports_after)) (output_of call) s → Keeps call s
  by_sessions release same idle rises out ended =
      let ports = take n call.ports_after in
      let ending = ending_of ports in
      let text = report (places_of service) ports release in
      keeps_by_final call command task s (final_status ports) text named told free
      (final_is (final_status ports) (done_or_net ports ending))
      (λ h. risen-whole n call.ports call.ports_after long same rest (rises (some_by ports ending h)))
      (λ h. absurd (no_disk_by (final_status ports) (done_or_net ports ending) h)) (λ h. absurd (no_journal_by (final_status ports) (done_or_net ports ending) h))
      (idle-whole n call.ports call.ports_after long same rest fresh idle) no_others
      (not_generated (final_status ports))
      (λ (at : List ℕ → Option (List ℕ)) (asked : asked_of at call.words ≡ Ok task).
      whole_by_output call at (final_status ports) text (done_or_net ports ending) (task, asked, out)) on_disk ended

abbrev served : CensusValue → Service → AskedValue
served census service = asked_with census owner.Custodian (lines.Ports service)

-- a run that served sessions keeps all
pub keeps_by_service : (call : Call) (command : Command) (census : CensusValue) (service : Service) (s : Status)
    → command_of call.words ≡ Some command → asks_to_serve (Some command) ≡ true
    → IfSome call.content (λ at. asked_of at call.words ≡ Ok (served census service)) → call.steps_after ≡ call.steps
    → All IsFresh call.ports → IsStill call.disk
    → IsServiceAnswered census service call.ports call.ports_after s call.write_faults call.write_faults_after call.taken call.taken_after
    → Keeps call s
keeps_by_service call command census service s named serves told free fresh still (long, rest, inl (each, ended)) =
    by_memory call command (served census service) service s named serves refl told free fresh long rest still each ended
keeps_by_service call command census service s named serves told free fresh still (long, rest, inr (inl (each, one, ended))) =
    by_unbound call command (served census service) service s named serves refl told free fresh long rest still each one
    (inr ((each, rest), one, refl, refl)) ended
keeps_by_service call command census service s named serves told free fresh still (long, rest, inr (inr (chain, each, ended))) =
    by_sessions call command (served census service) service s named serves refl told free fresh long rest still (length chain) each.same_length
    (served-idle census service chain _ _ each) (failed-risen census service chain _ _ each) (inl (chain, (each, rest), refl, refl)) ended
