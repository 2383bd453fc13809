-- What is made of a table before it is written.
use Rattle.std.specs.Prelude.{ℕ, List, [], ◌++◌, codes}
use Rattle.tb_base.specs.declared.cells.Cell.{Cell}
use Rattle.tb_base.specs.Rules.{RulesValue}
use Rattle.tb_model.specs.Rules.{pvalues_in}
use Rattle.tb_model.specs.Setups.{SetupValue}
use Rattle.tb_model.specs.Texts.{line_text}
use Rattle.tb_text.specs.Lines.{end_of, lines_under}

-- the lines before the first place, and the fields of each dimension, over a setup
pub record PreparedValue : Type 0 where
  pub setup : SetupValue
  pub head : List ℕ
  pub fields : List (List (List ℕ))

-- the text of a table by some rules with these cells
abbrev pub prepared_text : PreparedValue → RulesValue → List Cell → List ℕ
prepared_text p rules cells =
    (p.head
    ++ lines_under (end_of (pvalues_in p.setup rules) rules.threshold) [] p.fields cells)
    ++ line_text (codes ".")
