use Rattle.std.proofs.Common.{◌≡◌, ◌*◌, ◌%◌, ◌^◌, length, take}
use Rattle.std.specs.List.{sum}
use Rattle.tb_base.specs.Tallies.{keys_at}
use Rattle.tb_base.proofs.tallies.by_lanes.Given as goal

-- what the positions of the vectors so far add up to, lane by lane
abbrev pub invariant-loop-i : goal.invariant-loop-i
invariant-loop-i l = record {
  counts : sum l.counts % 2 ^ 32 ≡ length (keys_at l.place (take (l.i * 16) l.places) (take (l.i * 16) l.keys)) % 2 ^ 32;
  sums : sum l.sums % 2 ^ 16 ≡ sum (keys_at l.place (take (l.i * 16) l.places) (take (l.i * 16) l.keys)) % 2 ^ 16;
}
