-- What a mirror does, and what it writes.
use Rattle.std.specs.Prelude.{◌≡◌, ◌⊎◌, ◌+◌, ◌≤◌, ℕ, List, length, drop}
use Rattle.tb_base.specs.declared.status.Status.{Status}
use Rattle.tb_base.specs.declared.status.Status.TheVariants as status
use Rattle.tb_leader.specs.Lanes.{LaneValue}
use Rattle.tb_mirror.specs.Mirroring.{IsPortMirrored, Mirrors}
use Rattle.tb_serve.specs.Places.{number_at}
use Rattle.tb_serve.specs.Ports.{PortValue}
use Rattle.tb_serve.specs.Reports.{net_line, report}
use Rattle.tb_serve.specs.Serves.{Output, final_status}
use Rattle.tb_serve.specs.Stages.{IsOneNotBound, IsUntouched}
use Rattle.tb_top.specs.Asking.{CensusValue, base_of}
use Rattle.tb_command.specs.ServicePorts.{Service}
use Rattle.tb_top.specs.Services.{EachPort, places_of, ports_of}

-- the sessions of each port were served, those of the first to where the mirror stands then
abbrev pub AreSessionsMirrored : CensusValue → Service → LaneValue
    → (before after : List PortValue) → Type 0
AreSessionsMirrored census service last =
    EachPort service
    (IsPortMirrored census.setup (base_of census) (places_of service) service.sessions last)

-- a text is what a mirror ends with, by its status: how many sessions each port had and how many
-- batches were applied; or, where a listener couldn't be bound, that alone
abbrev pub IsMirrorOutput : CensusValue → Service → (before after : List PortValue) → Status
    → List ℕ → Type 0
IsMirrorOutput census service before after s text =
    ((last : LaneValue) × AreSessionsMirrored census service last before after
    × (s ≡ final_status (ports_of service after))
    × (text
    ≡ report (places_of service) (ports_of service after) (length last.follower.chain.batches)))
    ⊎ (EachPort service (IsUntouched (number_at (places_of service))) before after
    × IsOneNotBound (ports_of service before) (ports_of service after)
    × (s ≡ status.NetFault) × (text ≡ net_line))

-- a mirror was run: there is a port for each worker, and it served, or ended before its first
-- accept
abbrev pub IsMirrorAnswered : CensusValue → Service → (before after : List PortValue) → Status
    → Output → Type 0
IsMirrorAnswered census service before after s out =
    (service.workers + 1 ≤ length before)
    × (drop (service.workers + 1) after ≡ drop (service.workers + 1) before)
    × Mirrors census.setup (base_of census) (places_of service) service.sessions
    (ports_of service before) (ports_of service after) out s
