use Rattle.std.proofs.Common.{◌≡◌, ◌++◌, drop}
use Rattle.tb_query.specs.Canonical.{join, join_after}
use Rattle.tb_query.specs.Views.{text_views}
use Rattle.tb_query.proofs.print.join.Given as goal

abbrev pub invariant-loop-text : goal.invariant-loop-text
invariant-loop-text l = l.line.items ++ join_after l.before (text_views (drop l.text-index l.rest)) ≡ join (text_views l.texts)
