-- A custodian whose pass has caught up with the keeper, and was confirmed by its writer.
use Rattle.std.proofs.Common.{◌≡◌, subst}
use Rattle.tb_front.specs.Holders.{IsLater}
use Rattle.tb_front.proofs.Holding.{later_both}
use Rattle.tb_board.specs.Holders.{HolderValue}

-- the keeper has seen what the writer wrote, and no more
pub all_meet : (pass writer caught : HolderValue) → pass ≡ writer → IsLater pass caught → IsLater caught writer → caught ≡ writer
all_meet pass writer caught same own behind = later_both caught writer behind (subst (λ (h : HolderValue). IsLater h caught) same own)
