-- What a server with a journal does, what it writes, and what is left of the journal's file.
use Rattle.std.specs.Prelude.{◌≡◌, ◌⊎◌, ◌+◌, ◌≤◌, ℕ, List, Bool, is_none, option_map, length, drop, if◌then◌else◌}
use Rattle.tb_ahead.specs.Keeping.{KeptState}
use Rattle.tb_base.specs.declared.status.Status.{Status}
use Rattle.tb_base.specs.declared.status.Status.TheVariants as status
use Rattle.tb_disk.specs.Images.{WhereTold}
use Rattle.tb_host.specs.Endings.{disk_report}
use Rattle.tb_host.specs.Hosting.{HostsUntil}
use Rattle.tb_host.specs.Sessions.{IsHosted, IsLeftAt}
use Rattle.tb_keep.specs.JournalRuns.{IsJournalFault, after_playing}
use Rattle.tb_keep.specs.Playing.{CanAllFollow}
use Rattle.tb_keep.specs.Seen.{IsAsItWas, JournalSeen}
use Rattle.tb_keep.specs.declared.recovery.JournalFault.{JournalFault}
use Rattle.tb_release.specs.declared.edits.Edit.{Edit}
use Rattle.tb_serve.specs.Places.{number_at}
use Rattle.tb_serve.specs.Ports.{PortValue}
use Rattle.tb_serve.specs.Reports.{memory_line, net_line, report}
use Rattle.tb_serve.specs.Serves.{IsEnded, Output, final_status}
use Rattle.tb_serve.specs.Stages.{IsOneNotBound, IsUntouched}
use Rattle.tb_top.specs.Asking.{CensusValue, base_of}
use Rattle.tb_top.specs.KeepOutputs.{DiskSeen, IsStill, journal_line}
use Rattle.tb_command.specs.ServicePorts.{Service}
use Rattle.tb_serve.specs.declared.places.Places.{Places}
use Rattle.tb_top.specs.Services.{EachPort, places_of, ports_of}

-- the status where all was served and written, by whether the journal is live then
abbrev pub host_status : Bool → List PortValue → Status
host_status live ports = if live then final_status ports else status.DiskFault

-- and the report: while the journal is live it is that of a server without one
abbrev pub host_report : Bool → Places → List PortValue → (release : ℕ) → List ℕ
host_report live places ports release =
    if live then report places ports release else disk_report places ports release

-- the sessions of each port were served, those of the first from where the custodian stood first to
-- where he stands then; and its listener is left bound to its number
abbrev pub AreSessionsHosted : CensusValue → Service → (first last : KeptState)
    → (before after : List PortValue) → Type 0
AreSessionsHosted census service first last =
    EachPort service (λ i before after.
    IsHosted census.setup (base_of census) service.sessions first last i before after
    × IsLeftAt (places_of service) i after)

-- a text is what a server with a journal ends with, by its status: how many sessions each port had
-- and how many batches were published, those of the journal's file among them; or, where a listener
-- couldn't be bound, that alone
abbrev pub IsHostOutput : CensusValue → Service → (before after : List PortValue) → Status
    → List ℕ → Type 0
IsHostOutput census service before after s text =
    ((batches : List (List Edit)) × (moment : ℕ) × (faults : ℕ) × (last : KeptState)
    × CanAllFollow census.setup (base_of census) batches
    × AreSessionsHosted census service (after_playing (base_of census) batches moment faults) last
    before after
    × (s ≡ host_status (is_none last.further) (ports_of service after))
    × (text
    ≡ host_report (is_none last.further) (places_of service) (ports_of service after)
    (length last.state.chain)))
    ⊎ (EachPort service (IsUntouched (number_at (places_of service))) before after
    × IsOneNotBound (ports_of service before) (ports_of service after)
    × (s ≡ status.NetFault) × (text ≡ net_line))

-- what is seen of the file of this name on a disk
abbrev pub file_seen : DiskSeen → (journal : List ℕ) → JournalSeen
file_seen disk journal = record {
  content = option_map (λ named. named journal) disk.named;
  content_after = disk.content;
  moment = disk.moment;
  could_leave = disk.could_leave journal;
  may_leave = disk.may_leave;
  left_since = disk.left_since;
  faults = disk.faults;
  faults_after = disk.faults_after;
}

-- the journal's file is refused, for its first fault, and left as it was; no port changed
abbrev pub IsFileRefused : CensusValue → (before after : List PortValue) → JournalSeen → Output
    → Status → Type 0
IsFileRefused census before after saw out s =
    (fault : JournalFault) × (after ≡ before) × IsAsItWas saw
    × WhereTold saw.content (λ file. IsJournalFault census.setup (base_of census) file fault)
    × IsEnded (journal_line fault) status.Journal out s

-- what a server did with the ports that it is to serve, and with the journal's file, once that was
-- attached: it is refused, or all else went its way
abbrev pub IsHostRun : CensusValue → Service → (before after : List PortValue) → JournalSeen
    → Output → Status → Type 0
IsHostRun census service before after saw out s =
    IsFileRefused census before after saw out s
    ⊎ HostsUntil census.setup (base_of census) (places_of service) service.sessions before after saw
    out s

-- A server with a journal was run: there is a port for each worker, and the others stay. Memory
-- was refused before the file was attached, and the disk was left alone; or it couldn't be, or was
-- attached and the server did as told there.
abbrev pub IsHostAnswered : CensusValue → Service → (journal : List ℕ)
    → (before after : List PortValue) → Status → Output → DiskSeen → Type 0
IsHostAnswered census service journal before after s out disk =
    (service.workers + 1 ≤ length before)
    × (drop (service.workers + 1) after ≡ drop (service.workers + 1) before)
    × (((ports_of service after ≡ ports_of service before) × IsStill disk
    × IsEnded memory_line status.Memory out s)
    ⊎ IsHostRun census service (ports_of service before) (ports_of service after)
    (file_seen disk journal) out s)
