use Rattle.std.proofs.Common.{◌≡◌, ◌++◌, map, reverse, vec_len}
use Rattle.std.specs.Arc.{arc_value}
use Rattle.tb_model.specs.Pages.{cut}
use Rattle.tb_pages.proofs.pages.Pages.of.Given as goal

-- the pages that were cut off so far, in reverse, and those of the rest
abbrev pub invariant-cuts : goal.invariant-cuts
invariant-cuts l = cut l.fn.records.items ≡ cut l.rest.items ++ reverse (map arc_value l.list.items)

-- how many records are left
abbrev pub decreases-cuts : goal.decreases-cuts
decreases-cuts l = vec_len l.rest
