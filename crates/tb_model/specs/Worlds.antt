-- Two worlds that agree at a cell.
use Rattle.std.specs.Prelude.{◌≡◌, ℕ, ℤ, List, sum_by, length}
use Rattle.tb_base.specs.declared.records.Record.{Record}
use Rattle.tb_base.specs.Cells.{cell_of}
use Rattle.tb_base.specs.Keys.{ckey_of}
use Rattle.tb_model.specs.Schemas.{SchemaValue}
use Rattle.tb_model.specs.Setups.{SetupValue}
use Rattle.tb_model.specs.Releases.{ReleaseValue}
use Rattle.tb_model.specs.Rules.{cell_pvalues_of, threshold_of}
use Rattle.tb_model.specs.Perturbations.{by_sum, shown, shown_text, perturbation}
use Rattle.tb_model.specs.Queries.{QueryValue}
use Rattle.tb_model.specs.Places.{Place, own_records}

-- what a shown cell comes from: a schema with its key range; the pvalue at each row and cell key,
-- the threshold and the records of a release; a query and a place of its table
pub record World : Type 0 where
  pub schema : SchemaValue
  pub pvalues : ℕ → ℕ → ℤ
  pub threshold : ℕ
  pub records : List Record
  pub query : QueryValue
  pub place : Place

-- the world of a place of a query's table over a setup and a release
abbrev pub world_at : SetupValue → ReleaseValue → QueryValue → Place → World
world_at setup release query place =
    record {
      schema = setup.schema;
      pvalues = cell_pvalues_of setup release;
      threshold = threshold_of release;
      records = release.records;
      query = query;
      place = place;
    }

-- the own records of the world's place
abbrev pub own_of : World → List Record
own_of w = own_records w.schema w.query w.place w.records

-- how many they are
abbrev pub own_count : World → ℕ
own_count w = length (own_of w)

-- their cell key, by the world's key range
abbrev pub own_ckey : World → ℕ
own_ckey w = ckey_of w.schema.keys (sum_by (λ r. r.key) (own_of w))

-- equally many own records with the same cell key, the same threshold, and the same perturbation of
-- that count and cell key
pub record AgreeAt (v w : World) : Type 0 where
  pub count : own_count v ≡ own_count w
  pub ckey : own_ckey v ≡ own_ckey w
  pub threshold : v.threshold ≡ w.threshold
  pub same_perturbation :
      perturbation v.pvalues (own_count v) (own_ckey v)
      ≡ perturbation w.pvalues (own_count v) (own_ckey v)

-- the text that is shown at the world's place
abbrev pub text_at : World → List ℕ
text_at w =
    shown_text (shown (by_sum w.schema.keys w.pvalues) w.threshold (cell_of (own_of w)))

-- where two worlds agree, the shown text is the same
abbrev pub SameShown : Type 0
SameShown = (v w : World) → AgreeAt v w → text_at v ≡ text_at w
