-- What `serve` did.
use Rattle.std.specs.Prelude.{◌≡◌, ◌⊎◌, ℕ, zero, suc, ◌+◌, List, [], length}
use Rattle.std.specs.Prelude.{Option, None, Some, false, if◌then◌else◌}
use mathlib.Core.List.{IsPrefix}
use Rattle.tb_base.specs.declared.status.Status.{Status}
use Rattle.tb_base.specs.declared.status.Status.TheVariants as status
use Rattle.tb_io.specs.Faults.{HasRisen}
use Rattle.tb_io.specs.Taken.{Took, TookPart}
use Rattle.tb_model.specs.Releases.{ReleaseValue}
use Rattle.tb_model.specs.Setups.{SetupValue}
use Rattle.tb_lines.specs.Outputs.{ReplyValue}
use Rattle.tb_release.specs.Batches.{BatchValue}
use Rattle.tb_serve.specs.Each.{Each}
use Rattle.tb_serve.specs.Places.{number_at}
use Rattle.tb_serve.specs.Ports.{PortValue}
use Rattle.tb_serve.specs.Reports.{memory_line, net_line, report, some_failed}
use Rattle.tb_serve.specs.Stages.{IsOneNotBound, IsUntouched}
use Rattle.tb_serve.specs.declared.places.Places.{Places}
use Rattle.tb_ahead.specs.Publishing.{StateValue, after_seeing, let_go}
use Rattle.tb_session.specs.Transcripts.{IsLegal}
use Rattle.tb_session.specs.declared.party.Role.{Role}
use Rattle.tb_session.specs.declared.party.Role.TheVariants as role
use Rattle.tb_worker.specs.Visits.{AreVisits, Visit}
use Rattle.tb_worker.specs.Work.{HasGiven, IsEnough}

-- who is served at port i: the custodian at the first, and analysts at the others
abbrev pub role_at : ℕ → Role
role_at zero = role.Custodian
role_at (suc i) = role.Analyst

-- where a party ends that has seen some batches: the custodian at the chain itself, and an analyst
-- at a beginning of it
abbrev pub EndsAt : Role → List BatchValue → List BatchValue → Type 0
EndsAt role.Custodian seen chain = seen ≡ chain
EndsAt role.Analyst seen chain = IsPrefix seen chain

-- the sessions of a port, where it is given which replies to which lines are legal, and at which
-- state a session begins: the first that were to come at its listener came back, in order, and
-- there were enough of them; they led its party from a state to another
pub record IsVisited {S : Type 0} (Legal : S → List (List ℕ) → List ReplyValue → S → Type 0)
    (fresh : S → S) (most : ℕ) (from to : S) (before after : PortValue) : Type 0 where
  pub visits : List Visit
  pub given : HasGiven before.listener after.listener visits
  pub counted : after.served ≡ length visits
  pub enough : IsEnough most before.listener after.listener after.served after.failed
  pub lead : AreVisits Legal fresh from visits to

-- the sessions of port i led its party from the batches of a start, with no edits held, to the
-- chain, or to a beginning of it
pub record HasServed (setup : SetupValue) (base : ReleaseValue) (most : ℕ)
    (start chain : List BatchValue) (i : ℕ) (before after : PortValue) : Type 0 where
  pub last : StateValue
  pub visited : IsVisited (IsLegal (role_at i) setup base) let_go most (after_seeing start) last
      before after
  pub ends : EndsAt (role_at i) last.chain chain

-- what became of port i: its listener was bound to its number and served its sessions, from no
-- batch on, and no party and no reader of lines is left
pub record IsPortServed (setup : SetupValue) (base : ReleaseValue) (places : Places) (most : ℕ)
    (chain : List BatchValue) (i : ℕ) (before after : PortValue) : Type 0 where
  pub port : after.listener.port ≡ Some (number_at places i)
  pub sessions : HasServed setup base most [] chain i before after
  pub party : after.party ≡ None
  pub lines : after.has_lines ≡ false

-- what a call saw of its sink: the bytes taken, where it tells them, and the count of faults
pub record Output : Type 0 where
  pub before : Option (List ℕ)
  pub after : Option (List ℕ)
  pub faults : ℕ
  pub faults_after : ℕ

-- the same, of its four parts
abbrev pub output : Option (List ℕ) → Option (List ℕ) → ℕ → ℕ → Output
output before after faults faults_after =
    record { before = before; after = after; faults = faults; faults_after = faults_after }

-- a text was written, and the call ended with a status; or a first part of it was, and it ended
-- with WriteFault, for which the sink's count rose
abbrev pub IsEnded : List ℕ → Status → Output → Status → Type 0
IsEnded text final out ended =
    ((ended ≡ final) × Took out.before out.after text)
    ⊎ (ended ≡ status.WriteFault) × TookPart out.before out.after text
    × HasRisen out.faults out.faults_after

-- the status where all was served and written
abbrev pub final_status : List PortValue → Status
final_status ports = if some_failed ports then status.NetFault else status.Done

-- the report of ports that were served along a chain was written
abbrev pub IsReported : Places → List PortValue → List BatchValue → Output → Status → Type 0
IsReported places ports chain out ended =
    IsEnded (report places ports (length chain)) (final_status ports) out ended

-- all was served along one chain of batches, and reported
abbrev pub ServesAll : SetupValue → ReleaseValue → Places → ℕ → List PortValue → List PortValue
    → Output → Status → Type 0
ServesAll setup base places most before after out ended =
    (chain : List BatchValue)
    × Each (IsPortServed setup base places most chain) before after
    × IsReported places after chain out ended

-- memory was refused, and nothing was accepted
abbrev pub IsOutOfMemory : (ℕ → ℕ) → List PortValue → List PortValue → Output → Status → Type 0
IsOutOfMemory number before after out ended =
    Each (IsUntouched number) before after × IsEnded memory_line status.Memory out ended

-- a bind failed, so that a port is left unbound whose listener's count rose, and nothing was
-- accepted
abbrev pub IsUnbound : (ℕ → ℕ) → List PortValue → List PortValue → Output → Status → Type 0
IsUnbound number before after out ended =
    Each (IsUntouched number) before after × IsOneNotBound before after
    × IsEnded net_line status.NetFault out ended

-- what a call did with its ports, each of which is to serve so many sessions
abbrev pub Serves : SetupValue → ReleaseValue → Places → ℕ → List PortValue → List PortValue
    → Output → Status → Type 0
Serves setup base places most before after out ended =
    IsOutOfMemory (number_at places) before after out ended
    ⊎ (IsUnbound (number_at places) before after out ended
    ⊎ ServesAll setup base places most before after out ended)
