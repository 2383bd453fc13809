use Rattle.std.proofs.Common.{◌≡◌, length, take, map}
use Rattle.std.specs.Arc.{arc_value}
use Rattle.tb_pages.specs.Books.{AreSorted, entries_of}
use Rattle.tb_pages.proofs.lists.shards_of.Given as goal

-- the shards so far
abbrev pub invariant-loop-list : goal.invariant-loop-list
invariant-loop-list l = record {
  sorted : AreSorted (map entries_of l.yielded) (map arc_value l.shards.items);
  so_far : l.yielded ≡ take (length l.yielded) l.fn.lists.items;
}
