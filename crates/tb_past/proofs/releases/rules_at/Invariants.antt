use Rattle.std.proofs.Common.{◌≡◌}
use Rattle.tb_release.specs.Revised.{release_at}
use Rattle.tb_past.proofs.releases.rules_at.Given as goal

-- the rules of the release after the batches so far
abbrev pub invariant-loop-i : goal.invariant-loop-i
invariant-loop-i l = l.rules ≡ (release_at l.base l.batches l.i).rules
