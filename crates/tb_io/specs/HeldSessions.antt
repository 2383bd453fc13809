-- A listener in memory, whose sessions come in order and of which some accepts fail.
use Rattle.std.specs.Prelude.{ℕ, Bool, true, false, if◌then◌else◌}
use Rattle.std.specs.Prelude.{List, [], ◌∷◌, ◌++◌, map, drop, Option, Some}
use Rattle.std.specs.Bool.{nat_eq}
use Rattle.std.specs.List.{list_any}
use Rattle.tb_io.specs.BoundedSink.{BoundedSink}
use Rattle.tb_io.specs.Faults.{one_more}
use Rattle.tb_io.specs.Listeners.{Connection, ListenerValue, connection}
use Rattle.tb_io.specs.PiecedSource.{PiecedSource}
use Rattle.tb_io.specs.declared.answers.Bound.{Bound}
use Rattle.tb_io.specs.declared.answers.Bound.TheVariants as bound
use Rattle.tb_io.specs.declared.answers.Accepted.{Accepted}
use Rattle.tb_io.specs.declared.answers.Accepted.TheVariants as accepted

-- a session in memory: its reader and its writer
abbrev pub HeldSession : Type 0
HeldSession = PiecedSource × BoundedSink

-- the sessions to come and those that came back, whether a bind is to fail, the numbers, from 1, of
-- the accepts that fail, how many accepts there were, how many calls failed, the port that the
-- listener is bound to, and whether a session is out
pub record HeldSessions : Type 0 where
  pub to_come : List HeldSession
  pub came_back : List HeldSession
  pub bind_fails : Bool
  pub fails : List ℕ
  pub calls : ℕ
  pub faults : ℕ
  pub port : Option ℕ
  pub is_out : Bool

-- how many sessions are out
abbrev pub out_count : Bool → ℕ
out_count true = 1
out_count false = 0

-- a session in memory, and a listener in memory, as every session and every listener is seen
abbrev pub session_of : HeldSession → Connection
session_of s = connection (Some s.0.left) (Some s.1.taken) s.0.faults s.1.faults

abbrev pub listener_of : HeldSessions → ListenerValue
listener_of held =
    record {
      faults = held.faults;
      port = held.port;
      is_out = held.is_out;
      to_come = Some (map session_of held.to_come);
      came_back = Some (map session_of held.came_back);
    }

-- how a bind ends, and what it leaves
abbrev pub bind_of : HeldSessions → Bound
bind_of held = if held.bind_fails then bound.Failed else bound.Ready

abbrev pub after_bind : HeldSessions → ℕ → Bound → HeldSessions
after_bind held port bound.Ready = record held { port = Some port }
after_bind held port bound.Failed = record held { faults = one_more held.faults }

-- whether the next accept is one of those that are to fail
abbrev pub fails_next : HeldSessions → Bool
fails_next held = list_any (nat_eq (one_more held.calls)) held.fails

-- what an accept returns: the first session to come
abbrev pub first_of : List HeldSession → Accepted PiecedSource BoundedSink
first_of [] = accepted.End
first_of (s ∷ rest) = accepted.Session s.0 s.1

abbrev pub accept_of : HeldSessions → Accepted PiecedSource BoundedSink
accept_of held = if fails_next held then accepted.Failed else first_of held.to_come

-- and what it leaves
abbrev pub after_accept : HeldSessions → Accepted PiecedSource BoundedSink → HeldSessions
after_accept held (accepted.Session r w) =
    record held { to_come = drop 1 held.to_come; calls = one_more held.calls; is_out = true }
after_accept held accepted.End = record held { calls = one_more held.calls }
after_accept held accepted.Failed =
    record held { calls = one_more held.calls; faults = one_more held.faults }

-- what is left once a session came back
abbrev pub after_give_back : HeldSessions → HeldSession → HeldSessions
after_give_back held s =
    record held { came_back = held.came_back ++ s ∷ []; is_out = false }
