-- A lane is of its shape still after a message ends.
use Rattle.std.proofs.Common.{ℕ, List, refl, sym, subst}
use Rattle.std.specs.Prelude.{Option, Some, None}
use Rattle.tb_follow.specs.Deliveries.{given}
use Rattle.tb_follow.specs.declared.message.Message.{Message}
use Rattle.tb_follow.proofs.Keeping.{given-stays}
use Rattle.tb_leader.specs.Lanes.{IsLaneOf, LaneValue, lane_of}
use Rattle.tb_leader.specs.LeaderReplies.{IsEnd, IsEndOf}

by_message : (shape : List ℕ) (lane next : LaneValue) (text : List ℕ) (o : Option Message) → IsLaneOf shape lane → IsEndOf lane o text next → IsLaneOf shape next
by_message shape lane next text None of is = subst (IsLaneOf shape) (sym is.1) of
by_message shape lane next text (Some m) of is =
    let base = lane.follower.chain.base in
    let ended : IsLaneOf shape (lane_of (given is.0 lane.follower m).follower None) =
    record { same = (given-stays shape base is.0 lane.follower m (of.same, refl)).0; fits = λ x e. cc } in
    subst (IsLaneOf shape) (sym is.2) ended

pub lane-ended : (shape : List ℕ) (lane next : LaneValue) (text : List ℕ) → IsLaneOf shape lane → IsEnd lane text next → IsLaneOf shape next
lane-ended shape lane next text of is = by_message shape lane next text lane.open_message of is
