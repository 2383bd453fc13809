use Rattle.std.proofs.Common.{◌≡◌, ◌++◌, length}
use Rattle.tb_revise.specs.Faults.{has_unknown_code, has_unknown_name}
use Rattle.tb_revise.specs.Meanings.{sets_meant}
use Rattle.tb_revise.specs.Views.{setting_views}
use Rattle.tb_revise.proofs.meaning.sets_meant.Given as goal

abbrev pub invariant-loop-left : goal.invariant-loop-left
invariant-loop-left l = record {
  names : has_unknown_name l.schema (setting_views l.left) ≡ has_unknown_name l.schema (setting_views l.settings);
  codes : has_unknown_code l.schema (setting_views l.left) ≡ has_unknown_code l.schema (setting_views l.settings);
  meant : l.sets.items ++ sets_meant l.schema (setting_views l.left) ≡ sets_meant l.schema (setting_views l.settings);
}

abbrev pub decreases-loop-left : goal.decreases-loop-left
decreases-loop-left l = length l.left
