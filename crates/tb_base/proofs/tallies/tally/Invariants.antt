use Rattle.std.proofs.Common.{◌≡◌, take}
use Rattle.tb_base.specs.Tallies.{tally_of}
use Rattle.tb_base.proofs.tallies.tally.Given as goal

abbrev pub invariant-loop-i : goal.invariant-loop-i
invariant-loop-i l = l.cell ≡ tally_of l.place (take l.i l.places) (take l.i l.keys)
