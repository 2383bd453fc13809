-- What became of a script that a follower answered.
use Rattle.std.proofs.Common.{◌≡◌, ◌∙◌, ap, subst, ℕ, ◌+◌, ◌≤◌, List, Option, None, arith}
use Rattle.tb_follow.specs.Followers.{FollowerValue, at_base}
use Rattle.tb_follow_lanes.proofs.SomeReplies.{some_follow_reply}
use Rattle.tb_follow_lanes.specs.FollowRuns.{IsFollowReply}
use Rattle.tb_io.specs.Taken.{Took, TookPart}
use Rattle.tb_leader.specs.Lanes.{LaneValue, first_lane, lane_of}
use Rattle.tb_lines.proofs.Completing.{completed}
use Rattle.tb_lines.proofs.Paying.{paid}
use Rattle.tb_lines.specs.Lists.{AreAnswered, AreCutShort}
use Rattle.tb_lines.specs.Outputs.{AreReplies, AtPrice, Charged, Lead, ReplyValue, charged, price_of, text_of}
use Rattle.tb_model.specs.Releases.{ReleaseValue}
use Rattle.tb_model.specs.Schemas.{shape_of}
use Rattle.tb_model.specs.Setups.{SetupValue}
use Rattle.tb_script.specs.Scripts.{ScriptValue}
use Rattle.tb_top.specs.Asking.{CensusValue, base_of}
use Rattle.tb_top.specs.Asking.{census_over}
use Rattle.tb_top.specs.Loading.{IsBase}
use Rattle.tb_top.specs.Outputs.{AreFollowReplies}

-- by a new follower of the census
module _ (setup : SetupValue) (base : ReleaseValue) (script : ScriptValue) (shape : List ℕ) (follower : FollowerValue)
    (made : follower ≡ at_base shape base) (same : shape ≡ shape_of setup.schema) (first : IsBase base) where
  abbrev census : CensusValue
  census = census_over setup base

  -- its lane is the first one
  lane-first : lane_of follower None ≡ first_lane (shape_of setup.schema) (base_of (census_over setup base))
  lane-first =
      ap (λ (f : FollowerValue). lane_of f None) made ∙ ap (λ (s : List ℕ). first_lane s base) same
      ∙ ap (λ (r : ReleaseValue). first_lane (shape_of setup.schema) r) first

  from-first : (replies : List ReplyValue) → AreReplies (IsFollowReply setup) (lane_of follower None) script.lines replies → AreFollowReplies census script replies
  from-first replies are = subst (λ (lane : LaneValue). AreReplies (IsFollowReply setup) lane script.lines replies) lane-first are

  module _ (steps : ℕ) (last : Charged LaneValue) (a b : Option (List ℕ)) where
    -- all of some replies was taken
    pub follow-all : AreAnswered (Lead (AtPrice (IsFollowReply setup))) script.lines (charged (lane_of follower None) steps) last a b
        → (rs : List ReplyValue) × AreFollowReplies census script rs × Took a b (text_of rs) × (last.steps ≤ steps + price_of rs)
    follow-all h =
        let (lead, cost) = paid (IsFollowReply setup) (charged (lane_of follower None) steps) script.lines h.replies last h.legal in
        (h.replies, from-first h.replies (last.at, lead), h.took, cost)

    -- or a part of some replies to all lines
    pub follow-part : AreCutShort (Lead (AtPrice (IsFollowReply setup))) script.lines (charged (lane_of follower None) steps) last a b
        → (rs : List ReplyValue) × AreFollowReplies census script rs × TookPart a b (text_of rs) × (last.steps ≤ steps + price_of rs)
    follow-part h =
        let (lead, cost) = paid (IsFollowReply setup) (charged (lane_of follower None) steps) _ _ last h.legal in
        let (rs, are, part, more) = completed (IsFollowReply setup) (some_follow_reply setup) script.lines h.count (lane_of follower None) last.at
        h.replies h.cut h.part a b lead h.took in
        (rs, from-first rs are, part, omega (arith, cost, more))
