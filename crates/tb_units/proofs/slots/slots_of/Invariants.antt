use Rattle.std.proofs.Common.{◌≡◌, length}
use Rattle.tb_units.specs.Slots.{AreSlots}
use Rattle.tb_units.proofs.slots.slots_of.Given as goal

abbrev pub invariant-loop-k : goal.invariant-loop-k
invariant-loop-k l = record {
  long : length l.slots.items ≡ l.count;
  are : AreSlots l.links l.k l.slots.items;
}
