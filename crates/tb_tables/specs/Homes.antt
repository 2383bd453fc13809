-- A query's table of dwellings over a release. Nothing here speaks of the program.
use Rattle.std.specs.Prelude.{ℕ, List, length}
use Rattle.tb_lines.specs.Outputs.{ReplyValue}
use Rattle.tb_model.specs.Queries.{QueryValue}
use Rattle.tb_model.specs.Releases.{ReleaseValue}
use Rattle.tb_model.specs.Rules.{pvalues_of, threshold_of}
use Rattle.tb_model.specs.Setups.{SetupValue}
use Rattle.tb_model.specs.Texts.{text_of_cells}
use Rattle.tb_model.specs.Units.{UnitsValue, homes_cells}

-- the text of a query's table of dwellings at a release
abbrev pub homes_text : SetupValue → UnitsValue → ReleaseValue → QueryValue → List ℕ
homes_text setup units release query =
    text_of_cells setup.schema (pvalues_of setup release) (threshold_of release) query
    release.number (homes_cells units setup.schema query release.records)

-- that, at the price of the release's records
abbrev pub homes_reply : SetupValue → UnitsValue → ReleaseValue → QueryValue → ReplyValue
homes_reply setup units release query =
    record { text = homes_text setup units release query; price = length release.records }
