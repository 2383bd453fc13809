-- What is done with all ports before their workers begin, and after they ended.
use Rattle.std.specs.Prelude.{◌≡◌, ◌⊎◌, ℕ, zero, suc, ◌+◌, ◌<◌, ◌≤◌, true, false, List, length}
use Rattle.std.specs.Prelude.{None, Some, IfSome, slice_index_or}
use Rattle.tb_board.specs.Holders.{HolderValue}
use Rattle.tb_front.specs.Holders.{Name}
use Rattle.tb_io.specs.Faults.{HasRisen}
use Rattle.tb_io.specs.Listeners.{CanAccept, CanBind, IsCalm, IsSameBut}
use Rattle.tb_serve.specs.Each.{Each}
use Rattle.tb_serve.specs.Ports.{PortValue, fresh_port}
use Rattle.tb_serve.specs.declared.readiness.Readiness.{Readiness}
use Rattle.tb_serve.specs.declared.readiness.Readiness.TheVariants as readiness
use Rattle.tb_session.specs.Parties.{IsBehind, seen_by}
use Rattle.tb_session.specs.declared.party.Party.{Party}
use Rattle.tb_session.specs.declared.party.Party.TheVariants as party

-- ---- before the first accept

-- a port is as it was made, and its listener can be bound
pub record IsFresh (port : PortValue) : Type 0 where
  pub made : port ≡ fresh_port port.listener
  pub can : CanBind port.listener

-- a port's listener can be bound
abbrev pub CanBeBound : PortValue → Type 0
CanBeBound port = CanBind port.listener

-- a port got a reader of lines
abbrev pub HasLines : PortValue → PortValue → Type 0
HasLines before after = after ≡ record before { has_lines = true }

-- it may have got one
abbrev pub IsSameButLines : PortValue → PortValue → Type 0
IsSameButLines before after = after ≡ record before { has_lines = after.has_lines }

-- the listener of port i was bound to its number
pub record IsBoundAt (number : ℕ → ℕ) (i : ℕ) (before after : PortValue) : Type 0 where
  pub rest : after ≡ record before { listener = after.listener }
  pub bound : IsSameBut (record before.listener { port = Some (number i) }) after.listener
  pub calm : IsCalm before.listener after.listener

-- nothing was accepted at port i: at most its listener was bound, and its count of faults rose
pub record IsUntouched (number : ℕ → ℕ) (i : ℕ) (before after : PortValue) : Type 0 where
  pub rest : after ≡ record before { listener = after.listener }
  pub count : before.listener.faults ≤ after.listener.faults
  pub port : (after.listener.port ≡ before.listener.port)
      ⊎ (after.listener.port ≡ Some (number i))
  pub out : after.listener.is_out ≡ before.listener.is_out
  pub to_come : after.listener.to_come ≡ before.listener.to_come
  pub came_back : after.listener.came_back ≡ before.listener.came_back

-- a port was left unbound, and its listener's count of faults rose
pub record IsNotBound (before after : PortValue) : Type 0 where
  pub port : after.listener.port ≡ None
  pub risen : HasRisen before.listener.faults after.listener.faults

-- so was some port
abbrev pub IsOneNotBound : List PortValue → List PortValue → Type 0
IsOneNotBound before after =
    (i : ℕ) × (i < length before)
    × ((d : PortValue) → IsNotBound (slice_index_or before i d) (slice_index_or after i d))

-- the count of faults of some listener rose, by a bind or an accept
abbrev pub HasRisenSome : List PortValue → List PortValue → Type 0
HasRisenSome before after =
    (i : ℕ) × (i < length before)
    × ((d : PortValue) → HasRisen (slice_index_or before i d).listener.faults
    (slice_index_or after i d).listener.faults)

-- a port is ready for a party: its listener may accept, and it has a reader of lines and no party
-- yet
pub record IsReady (port : PortValue) : Type 0 where
  pub can : CanAccept port.listener
  pub lines : port.has_lines ≡ true
  pub party : port.party ≡ None

-- port i got ready
pub record GetsReady (number : ℕ → ℕ) (i : ℕ) (before after : PortValue) : Type 0 where
  pub can : IsReady after
  pub bound : IsSameBut (record before.listener { port = Some (number i) }) after.listener
  pub calm : IsCalm before.listener after.listener
  pub rest : after ≡ record before { listener = after.listener; has_lines = true }

-- all ports got ready; or memory was refused; or a bind failed, whose port is left unbound
abbrev pub HasPrepared : (ℕ → ℕ) → List PortValue → List PortValue → Readiness → Type 0
HasPrepared number before after readiness.Ready = Each (GetsReady number) before after
HasPrepared number before after readiness.NoMemory = Each (IsUntouched number) before after
HasPrepared number before after readiness.NotBound =
    Each (IsUntouched number) before after × IsOneNotBound before after

-- ---- the parties

-- port i got its party: the first none, since its owner is served there, and each other one an
-- analyst who has seen what the owner's custodian wrote
abbrev pub IsSeated : HolderValue → ℕ → PortValue → PortValue → Type 0
IsSeated writer zero before after = after ≡ before
IsSeated writer (suc i) before after =
    after ≡ record before { party = Some (party.Analyst writer) }

-- a party belongs to the front of this name
abbrev pub IsOfFront : Name → Party → Type 0
IsOfFront name one = (seen_by one).name ≡ name

-- so does a port's party, if it has one
abbrev pub HasOwnParty : Name → PortValue → Type 0
HasOwnParty name port = IfSome port.party (IsOfFront name)

-- a port's party left, if it had one, and its pass was confirmed
pub record IsConfirmed (writer : HolderValue) (before after : PortValue) : Type 0 where
  pub rest : after ≡ record before { party = None }
  pub behind : IfSome before.party (IsBehind writer)

-- a port is left without a party and a reader of lines
abbrev pub IsCleared : PortValue → PortValue → Type 0
IsCleared before after = after ≡ record before { party = None; has_lines = false }

-- a port's listener stays bound, and no party and no reader of lines is left
pub record IsLeft (before after : PortValue) : Type 0 where
  pub port : after.listener.port ≡ before.listener.port
  pub party : after.party ≡ None
  pub lines : after.has_lines ≡ false
