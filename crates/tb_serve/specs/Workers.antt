-- What is true of a port before its worker begins, and after it ended.
use Rattle.std.specs.Prelude.{◌≡◌, ℕ, true, IsSomeAnd, List, Some}
use Rattle.tb_front.specs.Holders.{Name}
use Rattle.tb_io.specs.Listeners.{CanAccept}
use Rattle.tb_lines.specs.Outputs.{Lead, ReplyValue}
use Rattle.tb_model.specs.Schemas.{shape_of}
use Rattle.tb_model.specs.Setups.{SetupValue}
use Rattle.tb_serve.specs.Ports.{PortValue}
use Rattle.tb_session.specs.Parties.{IsPartyOf}
use Rattle.tb_session.specs.PartySessions.{IsPartyStep, with_none_held}
use Rattle.tb_session.specs.declared.party.Party.{Party}
use Rattle.tb_worker.specs.Work.{HasWorked}

-- a port's worker did so as a party whose replies are legal where this says so, and left its counts
-- there
pub record HasWorkedAs {S : Type 0} (Legal : S → List (List ℕ) → List ReplyValue → S → Type 0)
    (fresh : S → S) (most : ℕ) (from to : S) (before after : PortValue) : Type 0 where
  pub worked : HasWorked Legal fresh most before.listener after.listener from to after.served
      after.failed
  pub rest : after ≡ record before
      { listener = after.listener; served = after.served; failed = after.failed }

-- the worker of a port that has a party may begin: its listener may accept, and it has a party of
-- the board and a reader of lines
pub record CanWork (name : Name) (setup : SetupValue) (port : PortValue) : Type 0 where
  pub can : CanAccept port.listener
  pub party : IsSomeAnd port.party (IsPartyOf name (shape_of setup.schema))
  pub lines : port.has_lines ≡ true

-- it did so as that party, and left its counts and the party there
pub record HasWorkedAt (name : Name) (setup : SetupValue) (most : ℕ) (before after : PortValue)
    : Type 0 where
  pub from : Party
  pub to : Party
  pub was : before.party ≡ Some from
  pub now : after.party ≡ Some to
  pub own : IsPartyOf name (shape_of setup.schema) to
  pub worked : HasWorked (Lead (IsPartyStep setup)) with_none_held most before.listener
      after.listener from to after.served after.failed
