-- What a call keeps that served sessions with a journal.
use Rattle.std.proofs.Common.{◌≡◌, ◌≢◌, ◌⊎◌, ◌∙◌, sym, ap, subst, refl, ℕ, zero, suc, ◌+◌, ◌≤◌, List, length, take, drop, All, Bool, true, false, Option, Some, Result, Ok, inl, inr, arith}
use Rattle.std.specs.Prelude.{IfSome, is_none}
use Rattle.tb_ahead.specs.Keeping.{KeptState}
use Rattle.tb_base.specs.declared.status.Status.{Status}
use Rattle.tb_base.specs.declared.status.Status.TheVariants as status
use Rattle.tb_board.specs.Custodians.{CustodianValue, OpeningValue, first_custodian}
use Rattle.tb_host.specs.Endings.{IsHostReported}
use Rattle.tb_host.specs.Hosting.{Hosts, HostsAll}
use Rattle.tb_host.specs.Sessions.{IsHosted, IsLeftAt}
use Rattle.tb_io.proofs.FaultLemmas.{HasRisen-earlier}
use Rattle.tb_keep.specs.JournalRuns.{after_playing}
use Rattle.tb_keep.specs.Seen.{IsAsItWas, JournalSeen, StandsAsBefore}
use Rattle.tb_keep.specs.declared.recovery.JournalFault.{JournalFault}
use Rattle.tb_model.specs.Releases.{ReleaseValue}
use Rattle.tb_model.specs.Setups.{SetupValue}
use Rattle.tb_serve.specs.Each.{Each}
use Rattle.tb_serve.specs.Places.{number_at}
use Rattle.tb_serve.specs.Ports.{PortValue}
use Rattle.tb_serve.specs.Reports.{memory_line, net_line, some_failed}
use Rattle.tb_serve.specs.Serves.{IsEnded, Output, final_status, output}
use Rattle.tb_serve.specs.Stages.{IsFresh, IsOneNotBound, IsUntouched}
use Rattle.tb_worker.specs.Work.{IsEnough}
use Rattle.tb_top.specs.Asking.{AskedValue, CensusValue, asked_of, asked_with, base_of}
use Rattle.tb_top.specs.declared.asked.AskedLines.TheVariants as lines
use Rattle.tb_command.specs.declared.command.Owner.TheVariants as owner
use Rattle.tb_top.specs.Calls.{Call, NetFailed, output_of}
use Rattle.tb_command.specs.Commands.{asks_to_generate, asks_to_keep, asks_to_serve, command_of}
use Rattle.tb_top.specs.HostOutputs.{IsFileRefused, IsHostAnswered, IsHostOutput, IsHostRun, file_seen, host_report, host_status}
use Rattle.tb_top.specs.KeepOutputs.{HasFailed, IsStill, disk_line, journal_line}
use Rattle.tb_top.specs.Asking.{census_over}
use Rattle.tb_top.specs.Loading.{IsBase}
use Rattle.tb_top.specs.Promises.{IsWhole, Keeps}
use Rattle.tb_command.specs.ServicePorts.{Service}
use Rattle.tb_serve.specs.declared.places.Places.{Places}
use Rattle.tb_top.specs.Services.{IsIdle, places_of, ports_of}
use Rattle.tb_command.specs.declared.command.Command.{Command}
use Rattle.tb_top.proofs.Boards.{same-base}
use Rattle.tb_top.proofs.DiskKept.{KeepsDisk, served-on-disk}
use Rattle.tb_top.proofs.Earlier.{earlier, stands-earlier, stays-earlier, until-earlier}
use Rattle.tb_top.proofs.PortLemmas.{all-same, all-unserved, each-idle, each-unserved, each-whole, idle-whole, risen-unbound, risen-whole, same-idle, take-fresh, unserved}
use Rattle.tb_top.proofs.Serving.{EndsByDisk, IsFinal, done_or_net, ending_of, final_is, keeps_by_final, no_disk_by, risen-by, serves-alone, some_by, whole_by_output}

-- ---- what was seen is told from an earlier moment on

module _ (census : CensusValue) (service : Service) (before after : List PortValue) (saw : JournalSeen) (out : Output) (s : Status)
    (faults : ℕ) (le : faults ≤ saw.faults) (up : saw.faults ≤ saw.faults_after)
    (could_leave : List ℕ → Type 0) (could : (image : List ℕ) → saw.could_leave image → could_leave image)
    (moment : ℕ) (later : moment ≤ saw.moment) (came : (image : List ℕ) → saw.left_since moment image → could_leave image ⊎ saw.left_since saw.moment image) where
  abbrev then : JournalSeen
  then = earlier saw faults could_leave could moment came

  stands : StandsAsBefore saw → StandsAsBefore then
  stands = stands-earlier saw faults could_leave could moment came

  stays : IsAsItWas saw → IsAsItWas then
  stays = stays-earlier saw faults could_leave could moment came

  pub run-earlier : IsHostRun census service before after saw out s → IsHostRun census service before after then out s
  run-earlier (inl (fault, same, left, refused, ended)) = inl (fault, same, stays left, refused, ended)
  run-earlier (inr (inl (none, same))) = inr (inl (none, stays same))
  run-earlier (inr (inr (inl (same, rose, stood, ended)))) =
      inr (inr (inl (same, HasRisen-earlier faults saw.faults saw.faults_after le rose up, stands stood, ended)))
  run-earlier (inr (inr (inr (inl unbound)))) = inr (inr (inr (inl (
    unbound.0,
    record { batches = unbound.1.batches; all = unbound.1.all; left = unbound.1.left; ever = stands unbound.1.ever },
  ))))
  run-earlier (inr (inr (inr (inr all)))) = inr (inr (inr (inr (record {
    batches = all.batches;
    recovered = all.recovered;
    first_moment = all.first_moment;
    first_faults = all.first_faults;
    since = omega (arith, le, all.since);
    until = until-earlier saw faults could_leave could moment came later all.first_moment all.until;
    hosted = record {
      last = all.hosted.last;
      sessions = all.hosted.sessions;
      chain = all.hosted.chain;
      left = all.hosted.left;
      ever = all.hosted.ever;
      counted = all.hosted.counted;
      reported = all.hosted.reported;
    };
    bound = all.bound;
  }))))

-- ---- over the new board of a census

module _ (setup : SetupValue) (opening : OpeningValue) (custodian : CustodianValue) (made : custodian ≡ first_custodian opening)
    (first : IsBase opening.start.base) (service : Service) (before after : List PortValue) (saw : JournalSeen) (out : Output) where
  abbrev census : CensusValue
  census = census_over setup opening.start.base

  -- what was done from what the custodian of the board had seen
  pub hosts-on-board : (places : Places) (workers sessions : ℕ) → places ≡ places_of service → workers ≡ service.workers → sessions ≡ service.sessions
      → (r : Result Status JournalFault)
      → Hosts setup custodian.writer.start.base places sessions (take (workers + 1) before) (take (workers + 1) after) saw out r
      → Hosts setup (base_of census) (places_of service) service.sessions (ports_of service before) (ports_of service after) saw out r
  hosts-on-board places workers sessions one two three r h =
      let P : ReleaseValue → Type 0 = λ base. Hosts setup base (places_of service) service.sessions (ports_of service before) (ports_of service after)
      saw out r in
      subst P (same-base setup opening custodian made first) (rw (sym one, sym two, sym three) h)

-- a last line after which the sink is as it was before
pub line-beside : (text : List ℕ) (final : Status) {s : Status} {f between f' : ℕ} {t mid : Option (List ℕ)} (t' : Option (List ℕ)) → between ≡ f → mid ≡ t
    → IsEnded text final (output mid t' between f') s → IsEnded text final (output t t' f f') s
line-beside text final {s} {f} {f'} {mid} t' faults taken h =
    let P : Option (List ℕ) → ℕ → Type 0 = λ x n. IsEnded text final (output x t' n f') s in
    subst (λ x. P x f) taken (subst (P mid) faults h)

-- ---- the report

reported-as : (live : Bool) (places : Places) (ports : List PortValue) (release : ℕ) (out : Output) (s : Status) → IsHostReported live places ports release out s
    → IsEnded (host_report live places ports release) (host_status live ports) out s
reported-as true places ports release out s h = h
reported-as false places ports release out s h = h

-- ---- the ports

-- enough sessions of each port were served
hosted-enough : (setup : SetupValue) (base : ReleaseValue) (most : ℕ) (first last : KeptState) (i : ℕ) (p q : PortValue)
    → IsHosted setup base most first last i p q → IsEnough most p.listener q.listener q.served q.failed
hosted-enough setup base most first last zero p q h = h.enough
hosted-enough setup base most first last (suc i) p q h = h.visited.enough

left-idle : (places : Places) (ports ports' : List PortValue) → Each (λ i _. IsLeftAt places i) ports ports' → All IsIdle ports'
left-idle places ports ports' each = λ i d below.
    let at = each.at i d (omega (arith, below, each.same_length)) in
    record { party = at.party; lines = at.lines }

module _ (call : Call) (command : Command) (census : CensusValue) (journal : List ℕ) (service : Service) (s : Status)
    (named : command_of call.words ≡ Some command) (serves : asks_to_serve (Some command) ≡ true) (keeps : asks_to_keep (Some command) ≡ true)
    (told : IfSome call.content (λ at. asked_of at call.words ≡ Ok (asked_with census (owner.Journal journal) (lines.Ports service)))) (free : call.steps_after ≡ call.steps)
    (fresh : All IsFresh call.ports) (answered : IsHostAnswered census service journal call.ports call.ports_after s (output_of call) call.disk) where
  abbrev n : ℕ
  n = service.workers + 1

  abbrev task : AskedValue
  task = asked_with census (owner.Journal journal) (lines.Ports service)

  abbrev saw : JournalSeen
  saw = file_seen call.disk journal

  long : n ≤ length call.ports
  long = answered.0

  rest : drop n call.ports_after ≡ drop n call.ports
  rest = answered.1

  ours : All IsFresh (take n call.ports)
  ours = take-fresh n call.ports long fresh

  no_others : asks_to_serve (Some command) ≡ false → call.ports_after ≡ call.ports
  no_others h = cc

  not_generated : (final : Status) → asks_to_generate (Some command) ≡ true → (final ≡ status.Done) ⊎ (final ≡ status.Memory)
  not_generated final h = absurd (serves-alone command serves h)

  on_disk : KeepsDisk call s
  on_disk = served-on-disk call task s told refl (ap asks_to_keep named ∙ keeps)
      (λ name other its_owner its_lines.
      let one : journal ≡ name = cc in
      let two : service ≡ other = cc in
      rw (← one, ← two) answered)

  -- one of its last lines was written
  by_line : (text : List ℕ) (final : Status) → IsFinal final → (final ≡ status.NetFault → NetFailed call)
      → (final ≡ status.DiskFault → EndsByDisk call command text) → All IsIdle call.ports_after
      → ((at : List ℕ → Option (List ℕ)) → asked_of at call.words ≡ Ok task → IsWhole call at final text)
      → IsEnded text final (output_of call) s → Keeps call s
  by_line text final is net disk idle whole ended =
      keeps_by_final call command task s final text named told free is net disk (λ h. keeps) idle no_others (not_generated final) whole on_disk ended

  -- no port changed
  by_same : (text : List ℕ) (final : Status) → IsFinal final → final ≢ status.NetFault → (final ≡ status.DiskFault → HasFailed call.disk)
      → call.ports_after ≡ call.ports
      → ((at : List ℕ → Option (List ℕ)) → asked_of at call.words ≡ Ok task → IsWhole call at final text)
      → IsEnded text final (output_of call) s → Keeps call s
  by_same text final is net disk same whole ended =
      by_line text final is (λ h. absurd (net h)) (λ h. (keeps, inl (disk h))) (same-idle call.ports call.ports_after same fresh) whole ended

  by_memory : call.ports_after ≡ call.ports → IsEnded memory_line status.Memory (output_of call) s → Keeps call s
  by_memory same ended =
      by_same memory_line status.Memory tt (λ h. cc) (λ h. cc) same
      (λ at h. (inl refl, all-unserved call.ports call.ports_after same)) ended

  by_refused : IsFileRefused census (ports_of service call.ports) (ports_of service call.ports_after) saw (output_of call) s → Keeps call s
  by_refused (fault, same, left, refused, ended) =
      by_same (journal_line fault) status.Journal tt (λ h. cc) (λ h. cc) (all-same n call.ports call.ports_after same rest)
      (λ at h. (census, journal, (lines.Ports service, h), inl (fault, refused, left, refl, refl))) ended

  -- nothing was accepted
  by_untouched : (text : List ℕ) (final : Status) → IsFinal final → Each (IsUntouched (number_at (places_of service))) (take n call.ports) (take n call.ports_after)
      → (final ≡ status.NetFault → NetFailed call) → final ≢ status.DiskFault
      → ((at : List ℕ → Option (List ℕ)) → asked_of at call.words ≡ Ok task → IsWhole call at final text)
      → IsEnded text final (output_of call) s → Keeps call s
  by_untouched text final is each net no_disk whole ended =
      let idle = idle-whole n call.ports call.ports_after long each.same_length rest fresh (each-idle (number_at (places_of service)) _ _ each ours) in
      by_line text final is net (λ h. absurd (no_disk h)) idle whole ended

  by_no_memory : Each (IsUntouched (number_at (places_of service))) (take n call.ports) (take n call.ports_after)
      → IsEnded memory_line status.Memory (output_of call) s → Keeps call s
  by_no_memory each ended =
      let none = each-whole n call.ports call.ports_after long each.same_length rest _ unserved (each-unserved (number_at (places_of service)) _ _ each) in
      by_untouched memory_line status.Memory tt each (λ h. cc) (λ h. cc) (λ at h. (inl refl, none)) ended

  by_unbound : Each (IsUntouched (number_at (places_of service))) (take n call.ports) (take n call.ports_after)
      → IsOneNotBound (take n call.ports) (take n call.ports_after) → IsEnded net_line status.NetFault (output_of call) s → Keeps call s
  by_unbound each one ended =
      let rose = risen-unbound (take n call.ports) (take n call.ports_after) one in
      by_untouched net_line status.NetFault tt each (λ h. risen-whole n call.ports call.ports_after long each.same_length rest rose) (λ h. cc)
      (λ at h. (task, h, inr ((each, rest), one, refl, refl))) ended

  -- all ports were served
  module _ (all : HostsAll census.setup (base_of census) (places_of service) service.sessions (take n call.ports) (take n call.ports_after) saw
      (output_of call) s) where
    abbrev last : KeptState
    last = all.hosted.last

    abbrev ports : List PortValue
    ports = take n call.ports_after

    abbrev output_now : (final : Status) (text : List ℕ) → Type 0
    output_now final text = IsHostOutput census service call.ports call.ports_after final text

    output_is : output_now (host_status (is_none last.further) ports)
        (host_report (is_none last.further) (places_of service) ports (length last.state.chain))
    output_is = inl (
      all.batches,
      all.first_moment,
      all.first_faults,
      last,
      all.recovered.follow,
      (
        record {
          same_length = all.bound.same_length;
          at = λ i d below. (all.hosted.sessions.at i d below, all.bound.at i d below);
        },
        rest,
      ),
      refl,
      refl,
    )

    idle_now : All IsIdle call.ports_after
    idle_now = idle-whole n call.ports call.ports_after long all.bound.same_length rest fresh (left-idle (places_of service) _ _ all.bound)

    rises : some_failed ports ≡ true → NetFailed call
    rises some =
        risen-whole n call.ports call.ports_after long all.bound.same_length rest
        (risen-by (take n call.ports) ports all.bound.same_length
        (λ i d below. (hosted-enough census.setup (base_of census) service.sessions (after_playing (base_of census) all.batches all.first_moment all.first_faults)
        last i _ _ (all.hosted.sessions.at i d below)).risen) some)

    by_report : (live : Bool) → output_now (host_status live ports) (host_report live (places_of service) ports (length last.state.chain))
        → IsEnded (host_report live (places_of service) ports (length last.state.chain)) (host_status live ports) (output_of call) s → Keeps call s
    by_report true is ended =
        let ending = ending_of ports in
        let final = final_status ports in
        by_line (host_report true (places_of service) ports (length last.state.chain)) final (final_is final (done_or_net ports ending))
        (λ h. rises (some_by ports ending h)) (λ h. absurd (no_disk_by final (done_or_net ports ending) h)) idle_now
        (λ at h. whole_by_output call at final (host_report true (places_of service) ports (length last.state.chain)) (done_or_net ports ending) (task, h, is)) ended
    by_report false is ended =
        by_line (host_report false (places_of service) ports (length last.state.chain)) status.DiskFault tt (λ h. cc) (λ h. (keeps, inr (serves, (census, service, is)))) idle_now
        (λ at h. inr (task, h, is)) ended

    by_all : Keeps call s
    by_all = by_report (is_none last.further) output_is
        (reported-as (is_none last.further) (places_of service) ports (length last.state.chain) (output_of call) s all.hosted.reported)

  by_run : IsHostRun census service (ports_of service call.ports) (ports_of service call.ports_after) saw (output_of call) s → Keeps call s
  by_run (inl refused) = by_refused refused
  by_run (inr (inl ((each, ended), left))) = by_no_memory each ended
  by_run (inr (inr (inl (same, rose, stands, ended)))) =
      by_same disk_line status.DiskFault tt (λ h. cc) (λ h. rose) (all-same n call.ports call.ports_after same rest)
      (λ at h. inl (census, journal, (lines.Ports service, h), inr (rose, stands, refl, refl))) ended
  by_run (inr (inr (inr (inl ((each, one, ended), recovered))))) = by_unbound each one ended
  by_run (inr (inr (inr (inr all)))) = by_all all

  by_answer : (((ports_of service call.ports_after ≡ ports_of service call.ports) × IsStill call.disk
      × IsEnded memory_line status.Memory (output_of call) s)
      ⊎ IsHostRun census service (ports_of service call.ports) (ports_of service call.ports_after) saw (output_of call) s) → Keeps call s
  by_answer (inl (same, still, ended)) = by_memory (all-same n call.ports call.ports_after same rest) ended
  by_answer (inr run) = by_run run

  pub keeps_by_host : Keeps call s
  keeps_by_host = by_answer answered.2
