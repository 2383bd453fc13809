-- Sessions that were served one after another, and the states along which they lead.
use Rattle.std.specs.Prelude.{◌≡◌, ℕ, List, [], ◌∷◌}
use Rattle.tb_io.specs.Faults.{HasRisen}
use Rattle.tb_io.specs.Listeners.{Connection}
use Rattle.tb_lines.specs.Outputs.{ReplyValue}
use Rattle.tb_lines.specs.Sessions.{IsSession}
use Rattle.tb_lines.specs.declared.session_end.SessionEnd.{SessionEnd}
use Rattle.tb_lines.specs.declared.session_end.SessionEnd.TheVariants as session_end

-- a session that was served: how it came, how it went back, and how it ended
pub record Visit : Type 0 where
  pub came : Connection
  pub went : Connection
  pub end : SessionEnd

-- a session ended by a fault only where a count rose: its reader's for a read, its writer's for a
-- write
abbrev pub HasCause : Connection → Connection → SessionEnd → Type 0
HasCause came went session_end.ReadFault = HasRisen came.reader_faults went.reader_faults
HasCause came went session_end.WriteFault = HasRisen came.writer_faults went.writer_faults
HasCause came went session_end.Ended = Unit {0}
HasCause came went session_end.Foreign = Unit {0}
HasCause came went session_end.LineTooLong = Unit {0}
HasCause came went session_end.TooManyLines = Unit {0}

-- where it is given which replies to which lines are legal and lead from a state to another, and at
-- which state a session begins: a visit is a session that begins afresh from the state that its
-- party had when it came, and leads to the one that it had when it went
pub record IsVisit {S : Type 0} (Legal : S → List (List ℕ) → List ReplyValue → S → Type 0)
    (fresh : S → S) (from : S) (visit : Visit) (to : S) : Type 0 where
  pub session : IsSession Legal visit.end visit.came.left visit.went.left (fresh from) to
      visit.came.taken visit.went.taken
  pub cause : HasCause visit.came visit.went visit.end

-- visits lead a party from a state to another: none stay where they are, and of others the first
-- leads to where the rest begin
abbrev pub AreVisits : {S : Type 0} → (S → List (List ℕ) → List ReplyValue → S → Type 0) → (S → S)
    → S → List Visit → S → Type 0
AreVisits Legal fresh from [] to = to ≡ from
AreVisits {S = S} Legal fresh from (visit ∷ visits) to =
    (next : S) × IsVisit Legal fresh from visit next × AreVisits Legal fresh next visits to
