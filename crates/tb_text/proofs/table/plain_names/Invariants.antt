use Rattle.std.proofs.Common.{◌≡◌, ◌++◌, ◌∷◌, drop}
use Rattle.tb_text.proofs.PlaceLines.{names_under}
use Rattle.tb_text.proofs.table.plain_names.Given as goal

abbrev pub invariant-loop-of : goal.invariant-loop-of
invariant-loop-of l = l.names ++ names_under l.schema (drop l.of-index l.of-items) ≡ 44 ∷ names_under l.schema l.of-items
