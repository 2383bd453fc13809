use Rattle.std.proofs.Common.{◌≡◌, ◌+◌, take}
use Rattle.tb_release.specs.Chains.{change_count}
use Rattle.tb_release.specs.Replays.{IsReached, release_reached}
use Rattle.tb_release.specs.Revised.{release_at}
use Rattle.tb_release.proofs.replaying.replay.Given as goal

-- the release after the batches so far was reached, and their changes are counted
abbrev pub invariant-loop-i : goal.invariant-loop-i
invariant-loop-i g l = record {
  same : release_reached l.reached ≡ release_at l.base l.batches l.i;
  whole : IsReached l.reached;
  charge : l.steps ≡ l.fn.steps + change_count (take l.i l.batches);
}
