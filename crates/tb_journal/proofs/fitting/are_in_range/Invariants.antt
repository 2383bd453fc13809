use Rattle.std.proofs.Common.{◌≡◌, drop}
use Rattle.std.specs.List.{list_all}
use Rattle.tb_journal.specs.Fitting.{is_in_range}
use Rattle.tb_journal.proofs.fitting.are_in_range.Given as goal

-- the edits that are left are in range exactly where all are
abbrev pub invariant-loop-i : goal.invariant-loop-i
invariant-loop-i l = list_all (is_in_range l.keys) (drop l.i l.edits) ≡ list_all (is_in_range l.keys) l.edits
