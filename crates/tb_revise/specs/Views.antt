-- What the code holds as the definitions see it, without where its texts lie.
use Rattle.std.specs.Prelude.{List, map}
use Rattle.tb_revise.specs.declared.parse.EditWords.{EditWords}
use Rattle.tb_revise.specs.declared.parse.EditWords.TheVariants.{Add, Drop, Amend}
use Rattle.tb_revise.specs.declared.parse.EditWords.TheVariants.{Oldest, Pvalue, Threshold}
use Rattle.tb_revise.specs.declared.parse.Setting.{Setting}
use Rattle.tb_revise.specs.Grammar.{NamedSetting, NamedEdit, NamedAdd, NamedDrop, NamedAmend}
use Rattle.tb_revise.specs.Grammar.{NamedOldest, NamedPvalue, NamedThreshold}

abbrev pub setting_view : Setting → NamedSetting
setting_view s = record { name = s.name.now; code = s.code.now }

abbrev pub setting_views : List Setting → List NamedSetting
setting_views ss = map setting_view ss

abbrev pub edit_view : EditWords → NamedEdit
edit_view (Add person key settings) =
    NamedAdd person.now key.now (setting_views settings.items)
edit_view (Drop person) = NamedDrop person.now
edit_view (Amend person settings) = NamedAmend person.now (setting_views settings.items)
edit_view (Pvalue row key pvalue) = NamedPvalue row.now key.now pvalue.now
edit_view (Threshold value) = NamedThreshold value.now
edit_view (Oldest release) = NamedOldest release.now
