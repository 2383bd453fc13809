-- Two worlds that agree at a cell of a table that counts dwellings.
use Rattle.std.specs.Prelude.{◌≡◌, ℕ, List, length}
use Rattle.tb_base.specs.Keys.{ckey_of}
use Rattle.tb_model.specs.Perturbations.{by_sum, perturbation, shown, shown_text}
use Rattle.tb_model.specs.Units.{UnitsValue, homes_cell, homes_of, homes_sum}
use Rattle.tb_model.specs.Worlds.{World, own_of}

-- what a shown cell of dwellings comes from: a world, and the dwellings of its persons
pub record HomesWorld : Type 0 where
  pub world : World
  pub units : UnitsValue

-- how many dwellings the own records of the world's place have
abbrev pub homes_count : HomesWorld → ℕ
homes_count w = length (homes_of w.units (own_of w.world))

-- their cell key, by the world's key range
abbrev pub homes_ckey : HomesWorld → ℕ
homes_ckey w = ckey_of w.world.schema.keys (homes_sum w.units (own_of w.world))

-- equally many dwellings with the same cell key, the same threshold, and the same perturbation of
-- that count and cell key
pub record AgreeAtHomes (v w : HomesWorld) : Type 0 where
  pub count : homes_count v ≡ homes_count w
  pub ckey : homes_ckey v ≡ homes_ckey w
  pub threshold : v.world.threshold ≡ w.world.threshold
  pub same_perturbation :
      perturbation v.world.pvalues (homes_count v) (homes_ckey v)
      ≡ perturbation w.world.pvalues (homes_count v) (homes_ckey v)

-- the text that is shown at the world's place
abbrev pub homes_text_at : HomesWorld → List ℕ
homes_text_at w =
    shown_text
    (shown (by_sum w.world.schema.keys w.world.pvalues) w.world.threshold
    (homes_cell w.units (own_of w.world)))

-- where two worlds agree, the shown text is the same
abbrev pub SameHomesShown : Type 0
SameHomesShown = (v w : HomesWorld) → AgreeAtHomes v w → homes_text_at v ≡ homes_text_at w
