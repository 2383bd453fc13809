-- Who answers the custodian's lines, and what its custodian's writer wrote.
use Rattle.std.specs.Prelude.{◌≡◌, ℕ, List}
use Rattle.tb_board.specs.Holders.{HolderValue}
use Rattle.tb_front.specs.Holders.{Name}
use Rattle.tb_model.specs.Releases.{ReleaseValue}
use Rattle.tb_release.specs.Batches.{BatchValue}
use Rattle.tb_session.specs.Parties.{IsPassOf}

-- a writer is of the front of this name, over this shape, and wrote this chain on this release 0
pub record HasWritten (name : Name) (shape : List ℕ) (base : ReleaseValue)
    (chain : List BatchValue) (writer : HolderValue) : Type 0 where
  pub own : IsPassOf name shape writer
  pub first : writer.start.base ≡ base
  pub all : writer.list ≡ chain
