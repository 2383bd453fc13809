-- The lines of the generated perturbation table.
use Rattle.std.specs.Prelude.{ℕ, ◌+◌, ◌*◌, List}
use Rattle.tb_base.specs.declared.keys.Keys.TheVariants.{K256}
use Rattle.tb_base.specs.declared.limits.TheConstants.{LAST_ROW}
use Rattle.tb_gen.specs.Draws.{after, draw, seed}
use Rattle.tb_gen.specs.Generated.{drawn_pvalue}
use Rattle.tb_base.specs.Keys.{key_range}
use Rattle.tb_gen_laws.specs.Ranges.{list_below, lists_below}
use Rattle.tb_model.specs.declared.names.PerturbationLine.{PerturbationLine}
use Rattle.tb_ptable.specs.Table.{TableValue}

-- the line of a row and a cell key, with one draw from a state
abbrev pub pair_line : ℕ → ℕ → ℕ → PerturbationLine
pair_line pcv ckey x = record { pcv = pcv; ckey = ckey; pvalue = drawn_pvalue pcv (draw 1 x) }

-- the lines of a row, one for each cell key
abbrev pub lines_of_row : ℕ → ℕ → List PerturbationLine
lines_of_row pcv x = list_below (key_range K256) (λ ckey. pair_line pcv ckey (after ckey x))

-- the table: the lines of the rows from 1
abbrev pub generated_table : ℕ → TableValue
generated_table start = record {
  keys = K256;
  lines = lists_below LAST_ROW
      (λ i. lines_of_row (i + 1) (after (key_range K256 * i) (seed start 1)));
}
