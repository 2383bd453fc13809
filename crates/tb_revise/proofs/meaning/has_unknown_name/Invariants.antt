use Rattle.std.proofs.Common.{◌≡◌, drop}
use Rattle.tb_revise.specs.Faults.{has_unknown_name}
use Rattle.tb_revise.specs.Views.{setting_views}
use Rattle.tb_revise.proofs.meaning.has_unknown_name.Given as goal

abbrev pub invariant-loop-s : goal.invariant-loop-s
invariant-loop-s l = has_unknown_name l.schema (setting_views (drop l.s-index l.settings)) ≡ has_unknown_name l.schema (setting_views l.settings)
