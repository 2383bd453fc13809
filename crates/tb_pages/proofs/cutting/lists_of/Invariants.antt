use Rattle.std.proofs.Common.{◌≡◌, ◌≤◌, ◌++◌, All, length, map, reverse}
use Rattle.std.specs.Prelude.{flat_map}
use Rattle.tb_model.specs.declared.rooms.TheConstants.{PAGE_ROOM}
use Rattle.tb_model.specs.Pages.{cut, page_of}
use Rattle.tb_pages.proofs.cutting.lists_of.Given as goal

-- the pages of the lists that were cut off so far, in reverse, and those of the rest
abbrev pub invariant-cuts : goal.invariant-cuts
invariant-cuts l = record {
  left : l.left ≡ length (flat_map (λ list. list.items) l.rest.items);
  so_far : cut (flat_map (λ list. list.items) l.fn.lists.items) ≡ cut (flat_map (λ list. list.items) l.rest.items) ++ reverse (map (λ list. page_of list.items 0) l.pages.items);
  room : All (λ list. length list.items ≤ PAGE_ROOM) l.pages.items;
}

-- how many records are left
abbrev pub decreases-cuts : goal.decreases-cuts
decreases-cuts l = l.left
