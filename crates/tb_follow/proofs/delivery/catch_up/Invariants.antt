use Rattle.std.proofs.Common.{◌≡◌, ℕ, length}
use Rattle.tb_follow.specs.Deliveries.{caught_up}
use Rattle.tb_follow.specs.Followers.{IsFollower, follower}
use Rattle.tb_follow.proofs.delivery.catch_up.Given as goal

-- what follows from here follows from the start, with more memory
abbrev pub invariant-loop : goal.invariant-loop
invariant-loop g l =
    g.A.Chain.IsReady l.setting l.chain × IsFollower (follower (g.A.Chain.value l.chain) l.window)
    × ((room : ℕ) → (more : ℕ) × (caught_up more (follower (g.A.Chain.value l.fn.chain) l.fn.window) ≡ caught_up room (follower (g.A.Chain.value l.chain) l.window)))

abbrev pub decreases-loop : goal.decreases-loop
decreases-loop g l = length l.window
