-- What each call of a desk returns, and what it leaves.
use Rattle.std.specs.Prelude.{◌≡◌, ◌<◌, ◌≤◌, ◌+◌, ◌-◌, ◌^◌, ℕ, List, [], ◌∷◌, ◌++◌}
use Rattle.std.specs.Prelude.{take, drop, length}
use Rattle.std.specs.Prelude.{if◌then◌else◌, is_some, nat_le, nat_lt}
use Rattle.std.specs.Prelude.{Option, Some, None, option_map}
use Rattle.tb_cache.specs.Recency.{entry_of, found, looked, put_first}
use Rattle.tb_cache.specs.declared.TheConstants.{MOST_ENTRIES}
use Rattle.tb_core.specs.Desks.{DeskValue, release_at}
use Rattle.tb_core.specs.declared.desk.Offered.{Offered}
use Rattle.tb_core.specs.declared.desk.Offered.TheVariants.{Kept, Older, Memory}
use Rattle.tb_core.specs.declared.desk.Stats.{Stats}
use Rattle.tb_cube.specs.Cubes.{CubeValue, cube_over}
use Rattle.tb_release.specs.Batches.{BatchValue}

-- a counter that stands still at the greatest number of 64 bits
abbrev pub counted : ℕ → ℕ
counted n = if nat_lt n (2 ^ 64 - 1) then n + 1 else n

-- a look for a set brings what it finds to the front and is counted, as is finding it; with no set
-- nothing is looked for
abbrev pub after_look : Option (List ℕ) → DeskValue → DeskValue
after_look None desk = desk
after_look (Some vars) desk =
    record desk {
      entries = looked vars desk.entries;
      looks = counted desk.looks;
      hits = if is_some (found vars desk.entries) then counted desk.hits else desk.hits;
    }

-- a cube of release n that is kept goes to the front
abbrev pub after_put : List ℕ → ℕ → DeskValue → DeskValue
after_put vars n desk = record desk { entries = put_first desk.capacity vars n desk.entries }

-- a batch that is adopted is the chain's last; the cubes stay
abbrev pub after_adoption : BatchValue → DeskValue → DeskValue
after_adoption batch desk = record desk { chain = desk.chain ++ batch ∷ [] }

abbrev pub after_clear : DeskValue → DeskValue
after_clear desk = record desk { entries = [] }

-- another capacity keeps the most recent entries that fit
abbrev pub after_resize : ℕ → DeskValue → DeskValue
after_resize capacity desk =
    record desk { entries = take capacity desk.entries; capacity = capacity }

-- a cube that was found: the number of its release, its variables and cells, and the batches from
-- there to the current release
pub record HitValue : Type 0 where
  pub number : ℕ
  pub cube : CubeValue
  pub pending : List BatchValue

abbrev pub hit_at : DeskValue → List ℕ → ℕ → HitValue
hit_at desk vars n =
    record {
      number = n;
      cube = cube_over desk.shape vars (release_at desk.base desk.chain n).records;
      pending = drop n desk.chain;
    }

-- what is found for a set, if one is given: the cube over the set of the entry
abbrev pub hit_for : Option (List ℕ) → DeskValue → Option HitValue
hit_for None desk = None
hit_for (Some vars) desk = option_map (λ e. hit_at desk e.0 e.1) (found vars desk.entries)

-- the number of the entry of exactly this set, if it has one
abbrev pub number_for : List ℕ → List (List ℕ × ℕ) → Option ℕ
number_for vars entries = option_map (λ e. e.1) (entry_of vars entries)

-- the number of an entry that is no older than n
abbrev pub no_older : ℕ → Option ℕ → Option ℕ
no_older n None = None
no_older n (Some m) = if nat_le n m then Some m else None

-- the answer to an offer of a cube of release n, and what it leaves: the cube is kept exactly where
-- no entry of its set is as new; want of memory comes only for a set that has no entry
abbrev pub IsOffered : DeskValue → List ℕ → ℕ → Offered → DeskValue → Type 0
IsOffered old vars n Kept new =
    (no_older n (number_for vars old.entries) ≡ None) × (new ≡ after_put vars n old)
IsOffered old vars n (Older m) new =
    (no_older n (number_for vars old.entries) ≡ Some m) × (new ≡ old)
IsOffered old vars n Memory new = (number_for vars old.entries ≡ None) × (new ≡ old)

abbrev pub stats_of : DeskValue → Stats
stats_of desk =
    record {
      release = length desk.chain;
      looks = desk.looks;
      hits = desk.hits;
      entries = length desk.entries;
      capacity = desk.capacity;
    }

-- the numbers of a desk with so many batches, whatever was looked for and kept
pub record AreStats (batches : ℕ) (stats : Stats) : Type 0 where
  pub release : stats.release ≡ batches
  pub hits : stats.hits ≤ stats.looks
  pub entries : stats.entries ≤ stats.capacity
  pub some : 0 < stats.capacity
  pub few : stats.capacity ≤ MOST_ENTRIES
