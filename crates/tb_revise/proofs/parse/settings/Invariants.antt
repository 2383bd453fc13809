use Rattle.std.proofs.Common.{◌≡◌, length}
use Rattle.tb_base.proofs.AllThere.{then_all}
use Rattle.tb_revise.specs.Reading.{read_settings}
use Rattle.tb_revise.specs.Views.{setting_views}
use Rattle.tb_base.specs.Words.{words_of}
use Rattle.tb_revise.proofs.parse.settings.Given as goal

-- the settings so far, with those to come, are all the settings
abbrev pub invariant-loop-word : goal.invariant-loop-word
invariant-loop-word l = then_all (setting_views l.settings.items) (read_settings (words_of l.rest)) ≡ read_settings (words_of l.text)

abbrev pub decreases-loop-word : goal.decreases-loop-word
decreases-loop-word l = length l.rest
