use Rattle.std.proofs.Common.{◌≡◌, ◌<◌, ℕ}
use Rattle.tb_lanes.specs.Phases.{lane_at}
use Rattle.tb_script.specs.Scripts.{role_of_lane}
use Rattle.tb_session.specs.declared.party.Role.TheVariants as role
use Rattle.tb_lanes.proofs.run.owner_of.Given as goal

-- none of the lanes so far is the custodian's
abbrev pub invariant-loop-n : goal.invariant-loop-n
invariant-loop-n l = (k : ℕ) → k < l.n → role_of_lane (lane_at l.script k) ≡ role.Analyst
