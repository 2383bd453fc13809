use Rattle.std.proofs.Common.{◌≡◌, ◌+◌, ◌-◌, ◌≤◌, ◌++◌, length, vec_len}
use Rattle.std.specs.Prelude.{flat_map}
use Rattle.tb_pages.proofs.cutting.take_last.Given as goal

-- the lists that are left, and behind them what was taken, which isn't too much
abbrev pub invariant-pieces : goal.invariant-pieces
invariant-pieces l = record {
  all : flat_map (λ list. list.items) l.fn.lists.items ≡ flat_map (λ list. list.items) l.lists.items ++ l.last.items;
  room : length l.last.items ≤ l.fn.count;
}

-- a list is used up, or no record is missing any more
abbrev pub decreases-pieces : goal.decreases-pieces
decreases-pieces l = vec_len l.lists + (l.fn.count - vec_len l.last)
