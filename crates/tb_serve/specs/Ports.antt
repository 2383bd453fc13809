-- Ports, as contracts see them.
use Rattle.std.specs.Prelude.{ℕ, Bool, false, Option, None}
use Rattle.tb_io.specs.Listeners.{ListenerValue}
use Rattle.tb_session.specs.declared.party.Party.{Party}

-- a port: its listener, how many sessions were served, whether its accept failed, its party, and
-- whether it has a reader of lines
pub record PortValue : Type 0 where
  pub listener : ListenerValue
  pub served : ℕ
  pub failed : Bool
  pub party : Option Party
  pub has_lines : Bool

-- a port as it is made
abbrev pub fresh_port : ListenerValue → PortValue
fresh_port listener =
    record { listener = listener; served = 0; failed = false; party = None; has_lines = false }
