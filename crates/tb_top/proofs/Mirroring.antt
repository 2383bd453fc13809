-- What a call keeps that served sessions as a mirror.
use Rattle.std.proofs.Common.{◌≡◌, refl, ℕ, zero, suc, List, length, All, Some, Ok, true, inl, inr}
use Rattle.std.specs.Prelude.{IfSome}
use Rattle.tb_base.specs.declared.status.Status.{Status}
use Rattle.tb_leader.specs.Lanes.{LaneValue}
use Rattle.tb_mirror.specs.Mirroring.{HasMirrored, IsPortMirrored}
use Rattle.tb_model.specs.Releases.{ReleaseValue}
use Rattle.tb_model.specs.Setups.{SetupValue}
use Rattle.tb_serve.specs.Each.{Each}
use Rattle.tb_serve.specs.Ports.{PortValue}
use Rattle.tb_serve.specs.Reports.{some_failed}
use Rattle.tb_serve.specs.Stages.{HasRisenSome, IsFresh}
use Rattle.tb_worker.specs.Work.{IsEnough}
use Rattle.tb_top.specs.Asking.{AskedValue, CensusValue, asked_of, asked_with, base_of}
use Rattle.tb_top.specs.declared.asked.AskedLines.TheVariants as lines
use Rattle.tb_command.specs.declared.command.Owner.TheVariants as owner
use Rattle.tb_top.specs.Calls.{Call, output_of}
use Rattle.tb_command.specs.Commands.{asks_to_serve, command_of}
use Rattle.tb_top.specs.KeepOutputs.{IsStill}
use Rattle.tb_top.specs.MirrorOutputs.{IsMirrorAnswered}
use Rattle.tb_top.specs.Promises.{Keeps}
use Rattle.tb_command.specs.ServicePorts.{Service}
use Rattle.tb_top.specs.Services.{IsIdle, places_of}
use Rattle.tb_command.specs.declared.command.Command.{Command}
use Rattle.tb_top.proofs.Serving.{by_memory, by_sessions, by_unbound, idle-by, risen-by}

-- enough sessions of each port were served
mirrored-enough : (setup : SetupValue) (base : ReleaseValue) (most : ℕ) (last : LaneValue) (i : ℕ) (p q : PortValue)
    → HasMirrored setup base most last i p q → IsEnough most p.listener q.listener q.served q.failed
mirrored-enough setup base most last zero p q h = h.enough
mirrored-enough setup base most last (suc i) p q h = h.visited.enough

module _ (census : CensusValue) (service : Service) (last : LaneValue) (ports ports' : List PortValue)
    (each : Each (IsPortMirrored census.setup (base_of census) (places_of service) service.sessions last) ports ports') where
  mirrored-idle : All IsIdle ports'
  mirrored-idle =
      idle-by (IsPortMirrored census.setup (base_of census) (places_of service) service.sessions last) ports ports'
      (λ i p q at. record { party = at.party; lines = at.lines }) each

  mirrored-risen : some_failed ports' ≡ true → HasRisenSome ports ports'
  mirrored-risen some =
      risen-by ports ports' each.same_length
      (λ i d inside. (mirrored-enough census.setup (base_of census) service.sessions last i _ _ (each.at i d inside).sessions).risen) some

abbrev mirrored : CensusValue → Service → AskedValue
mirrored census service = asked_with census owner.Leader (lines.Ports service)

-- a run that served sessions as a mirror keeps all
pub keeps_by_mirror : (call : Call) (command : Command) (census : CensusValue) (service : Service) (s : Status)
    → command_of call.words ≡ Some command → asks_to_serve (Some command) ≡ true
    → IfSome call.content (λ at. asked_of at call.words ≡ Ok (mirrored census service)) → call.steps_after ≡ call.steps
    → All IsFresh call.ports → IsStill call.disk
    → IsMirrorAnswered census service call.ports call.ports_after s (output_of call) → Keeps call s
keeps_by_mirror call command census service s named serves told free fresh still (long, rest, inl (each, ended)) =
    by_memory call command (mirrored census service) service s named serves refl told free fresh long rest still each ended
keeps_by_mirror call command census service s named serves told free fresh still (long, rest, inr (inl (each, one, ended))) =
    by_unbound call command (mirrored census service) service s named serves refl told free fresh long rest still each one
    (inr ((each, rest), one, refl, refl)) ended
keeps_by_mirror call command census service s named serves told free fresh still (long, rest, inr (inr (last, each, ended))) =
    by_sessions call command (mirrored census service) service s named serves refl told free fresh long rest still
    (length last.follower.chain.batches) each.same_length (mirrored-idle census service last _ _ each)
    (mirrored-risen census service last _ _ each) (inl (last, (each, rest), refl, refl)) ended
