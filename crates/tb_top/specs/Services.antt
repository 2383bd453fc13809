-- What a service of sessions did, and what it writes.
use Rattle.std.specs.Prelude.{◌≡◌, ◌⊎◌, ◌+◌, ◌≤◌, ℕ, List, Option, None, false, length, take, drop}
use Rattle.tb_base.specs.declared.status.Status.{Status}
use Rattle.tb_base.specs.declared.status.Status.TheVariants as status
use Rattle.tb_release.specs.Batches.{BatchValue}
use Rattle.tb_serve.specs.Each.{Each}
use Rattle.tb_serve.specs.Places.{number_at}
use Rattle.tb_serve.specs.Ports.{PortValue}
use Rattle.tb_serve.specs.Reports.{net_line, report}
use Rattle.tb_serve.specs.Serves.{IsPortServed, Serves, final_status, output}
use Rattle.tb_serve.specs.Stages.{IsOneNotBound, IsUntouched}
use Rattle.tb_top.specs.Asking.{CensusValue, base_of}
use Rattle.tb_command.specs.ServicePorts.{Service}
use Rattle.tb_command.specs.declared.service.Layout.{Layout}
use Rattle.tb_command.specs.declared.service.Layout.TheVariants as layout
use Rattle.tb_serve.specs.declared.places.Places.{Places}
use Rattle.tb_serve.specs.declared.places.Places.TheVariants as place

-- to which numbers the listeners of a service are bound
abbrev pub places_from : Layout → ℕ → Places
places_from layout.Row first = place.Row first
places_from layout.Door first = place.Door first

abbrev pub places_of : Service → Places
places_of service = places_from service.layout service.port

-- the ports of a service: the custodian's, and one for each worker
abbrev pub ports_of : Service → List PortValue → List PortValue
ports_of service ports = take (service.workers + 1) ports

-- what became of each port of a service is told of each; no other port changed
abbrev pub EachPort : Service → (ℕ → PortValue → PortValue → Type 0)
    → (before after : List PortValue) → Type 0
EachPort service R before after =
    Each R (ports_of service before) (ports_of service after)
    × (drop (service.workers + 1) after ≡ drop (service.workers + 1) before)

-- the sessions of each port were served, the custodian's along this chain
abbrev pub AreSessionsServed : CensusValue → Service → List BatchValue
    → (before after : List PortValue) → Type 0
AreSessionsServed census service chain =
    EachPort service
    (IsPortServed census.setup (base_of census) (places_of service) service.sessions chain)

-- a text is what a service ends with, by its status: how many sessions each port had and how many
-- batches were published; or, where a listener couldn't be bound, that alone
abbrev pub IsServiceOutput : CensusValue → Service → (before after : List PortValue) → Status
    → List ℕ → Type 0
IsServiceOutput census service before after s text =
    ((chain : List BatchValue) × AreSessionsServed census service chain before after
    × (s ≡ final_status (ports_of service after))
    × (text ≡ report (places_of service) (ports_of service after) (length chain)))
    ⊎ (EachPort service (IsUntouched (number_at (places_of service))) before after
    × IsOneNotBound (ports_of service before) (ports_of service after)
    × (s ≡ status.NetFault) × (text ≡ net_line))

-- a service was answered: there is a port for each worker, and it served, or ended before its first
-- accept
abbrev pub IsServiceAnswered : CensusValue → Service → (before after : List PortValue) → Status
    → (faults faults' : ℕ) → (taken taken' : Option (List ℕ)) → Type 0
IsServiceAnswered census service before after s faults faults' taken taken' =
    (service.workers + 1 ≤ length before)
    × (drop (service.workers + 1) after ≡ drop (service.workers + 1) before)
    × Serves census.setup (base_of census) (places_of service) service.sessions
    (ports_of service before) (ports_of service after) (output taken taken' faults faults') s

-- no session came or went at a port
pub record IsUnserved (before after : PortValue) : Type 0 where
  pub out : after.listener.is_out ≡ before.listener.is_out
  pub to_come : after.listener.to_come ≡ before.listener.to_come
  pub came_back : after.listener.came_back ≡ before.listener.came_back

-- no one is served at a port
pub record IsIdle (port : PortValue) : Type 0 where
  pub party : port.party ≡ None
  pub lines : port.has_lines ≡ false
