-- What is true of all dwellings and links that were read.
use Rattle.std.specs.Prelude.{◌≡◌, ◌≢◌, ◌<◌, ◌≤◌, ℕ, List, length, true, Ok}
use Rattle.tb_base.specs.declared.keys.Keys.{Keys}
use Rattle.tb_base.specs.declared.keys.TheConstants.{MOST_KEYS}
use Rattle.tb_base.specs.declared.people.TheConstants.{MOST_PERSONS}
use Rattle.tb_model.specs.Units.{PairValue, UnitsValue}
use Rattle.tb_units.specs.Chains.{AreChains}
use Rattle.tb_units.specs.declared.fault.UnitsFile.TheVariants.{Dwellings}
use Rattle.tb_units.specs.Dwellings.{dwellings_of}
use Rattle.tb_units.specs.Faults.{in_file}
use Rattle.tb_units.specs.Pairs.{has_first, pair_at}

-- no two pairs have the same first number
abbrev pub HaveOwn : List PairValue → Type 0
HaveOwn pairs =
    (i j : ℕ) → i < j → j < length pairs → (pair_at pairs i).0 ≢ (pair_at pairs j).0

-- each link is to one of the dwellings
abbrev pub AreKnown : List PairValue → List PairValue → Type 0
AreKnown dwellings links =
    (k : ℕ) → k < length links → has_first dwellings (pair_at links k).1 ≡ true

-- each dwelling's key is in the largest key range
abbrev pub HaveKeys : List PairValue → Type 0
HaveKeys dwellings = (d : ℕ) → d < length dwellings → (pair_at dwellings d).1 < MOST_KEYS

-- dwellings that some file says under this limit and some key range
abbrev pub AreRead : ℕ → List PairValue → Type 0
AreRead most dwellings =
    (keys : Keys) × (bytes : List ℕ)
    × (in_file Dwellings (dwellings_of most keys bytes) ≡ Ok dwellings)

-- no two dwellings have one number, no two links one person; the keys are in range, and there are
-- no more of both than the types admit persons
pub record IsSound (units : UnitsValue) : Type 0 where
  pub own_dwellings : HaveOwn units.dwellings
  pub own_links : HaveOwn units.links
  pub keys : HaveKeys units.dwellings
  pub few_dwellings : length units.dwellings ≤ MOST_PERSONS
  pub few_links : length units.links ≤ MOST_PERSONS

-- and these are the chains of the links
pub record AreWhole (units : UnitsValue) (heads nexts : List ℕ) : Type 0 where
  pub sound : IsSound units
  pub chains : AreChains units.dwellings units.links (length units.links) heads nexts
