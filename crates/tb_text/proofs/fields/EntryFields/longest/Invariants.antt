use Rattle.std.proofs.Common.{ℕ, List, ◌<◌, ◌≤◌, get_or, length}
use Rattle.tb_text.proofs.fields.EntryFields.longest.Given as goal

abbrev pub invariant-loop-i : goal.invariant-loop-i
invariant-loop-i l = (k : ℕ) (d : List ℕ) → k < l.i → length (get_or l.self k d) ≤ l.most
