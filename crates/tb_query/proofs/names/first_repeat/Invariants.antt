use Rattle.std.proofs.Common.{◌≡◌, drop, take}
use Rattle.tb_query.specs.Views.{token_views}
use Rattle.tb_query.specs.Faults.{repeat_after, first_repeat}
use Rattle.tb_query.proofs.names.first_repeat.Given as goal

abbrev pub invariant-loop-i : goal.invariant-loop-i
invariant-loop-i l = repeat_after (token_views (take l.i l.names)) (token_views (drop l.i l.names)) ≡ first_repeat (token_views l.names)
