use Rattle.std.proofs.Common.{◌≡◌, map, replicate, []}
use Rattle.tb_pages.specs.Books.{entries_of}
use Rattle.tb_pages.proofs.lists.Lists.with_room.Given as goal

-- the lists so far are empty
abbrev pub invariant-loop-i : goal.invariant-loop-i
invariant-loop-i l = map entries_of l.lists.items ≡ replicate l.i []
