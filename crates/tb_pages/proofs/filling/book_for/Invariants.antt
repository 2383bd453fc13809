use Rattle.std.proofs.Common.{take}
use Rattle.tb_pages.specs.Fillings.{AreBooked}
use Rattle.tb_pages.proofs.filling.book_for.Given as goal

-- the records of the pages so far have their entries
abbrev pub invariant-loop-i : goal.invariant-loop-i
invariant-loop-i l = AreBooked (take l.i l.pages) l.lists
