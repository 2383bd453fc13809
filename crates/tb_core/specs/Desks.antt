-- A desk: release 0, the chain of batches, and the cubes that are kept.
use Rattle.std.specs.Prelude.{◌≡◌, ◌<◌, ◌≤◌, ℕ, List, length, bytes_eq, refl}
use Rattle.std.specs.List.{AllByRecursion, IsDistinct}
use Rattle.std.specs.Map.{keys_of}
use Rattle.std.specs.Coded.{Coded, code_by, coded×, coded_list, coded_ℕ}
use Rattle.tb_cache.specs.Recency.{CacheValue, numbers_of}
use Rattle.tb_cache.specs.declared.TheConstants.{MOST_ENTRIES}
use Rattle.tb_cube.specs.Cubes.{CubeValue, cube_over, unpacked}
pub use Rattle.tb_delta.specs.Counting.{HasCube}
use Rattle.tb_model.specs.Releases.{ReleaseValue, release_code}
use Rattle.tb_release.specs.Batches.{BatchValue, batch_code}
use Rattle.tb_release.specs.Chains.{release_after}
pub use Rattle.tb_release.specs.Revised.{IsRevised, release_at}

-- the shape, release 0 and the chain; the sets of variables of which a cube is kept, the most
-- recent first, each with the number of the cube's release, and how many there may be; how often a
-- cube was looked for and found
pub record DeskValue : Type 0 where
  pub shape : List ℕ
  pub base : ReleaseValue
  pub chain : List BatchValue
  pub entries : List (List ℕ × ℕ)
  pub capacity : ℕ
  pub looks : ℕ
  pub hits : ℕ

-- the current release: release 0 after the whole chain
abbrev pub current_of : DeskValue → ReleaseValue
current_of desk = release_after desk.base desk.chain

-- it is the cube at release n of the chain, counted from scratch, be it packed or not
pub record IsCubeAt (shape : List ℕ) (base : ReleaseValue) (chain : List BatchValue)
    (vars : List ℕ) (n : ℕ) (cube : CubeValue) : Type 0 where
  pub there : n ≤ length chain
  pub counted : unpacked cube ≡ cube_over shape vars (release_at base chain n).records

-- what is true of every desk, as far as it is seen: the entries' numbers are of releases of the
-- chain, no set is there twice, each has a cube, and there are no more than there may be
pub record IsSound (desk : DeskValue) : Type 0 where
  pub revised : IsRevised desk.shape desk.base desk.chain
  pub numbers : AllByRecursion
      (λ e. (e.1 ≤ length desk.chain) × HasCube desk.shape e.0) desk.entries
  pub distinct : IsDistinct bytes_eq (keys_of desk.entries)
  pub fits : length desk.entries ≤ desk.capacity
  pub some : 0 < desk.capacity
  pub few : desk.capacity ≤ MOST_ENTRIES
  pub hits_few : desk.hits ≤ desk.looks

-- a desk as it is seen: of what its cache holds, the sets and the numbers of the cubes' releases
abbrev pub desk_view : {A : Type 0} → List ℕ → ReleaseValue → List BatchValue → CacheValue A
    → ℕ → ℕ → DeskValue
desk_view shape base chain cache looks hits =
    record {
      shape = shape;
      base = base;
      chain = chain;
      entries = numbers_of cache.entries;
      capacity = cache.capacity;
      looks = looks;
      hits = hits;
    }

-- what a desk holds beside what it is seen as, the current release and each entry's cube, which
-- `cube_in` shows: they are what the chain says
pub record IsDesk {A : Type 0} (cube_in : A → CubeValue) (desk : DeskValue)
    (current : ReleaseValue) (cached : List (List ℕ × (ℕ × A))) : Type 0 where
  pub revised : IsRevised desk.shape desk.base desk.chain
  pub current_is : current ≡ current_of desk
  pub cubes : AllByRecursion
      (λ e. IsCubeAt desk.shape desk.base desk.chain e.0 e.1.0 (cube_in e.1.1)
      × HasCube desk.shape e.0) cached
  pub hits_few : desk.hits ≤ desk.looks

-- how a desk is coded, for a type whose value holds one
abbrev pub desk_code : Coded DeskValue
desk_code =
    code_by
    (List ℕ × (ReleaseValue × (List BatchValue × (List (List ℕ × ℕ) × (ℕ × (ℕ × ℕ))))))
    (coded× (coded_list coded_ℕ) (coded× release_code (coded× (coded_list batch_code)
    (coded× (coded_list (coded× (coded_list coded_ℕ) coded_ℕ))
    (coded× coded_ℕ (coded× coded_ℕ coded_ℕ))))))
    (λ d. (d.shape, (d.base, (d.chain, (d.entries, (d.capacity, (d.looks, d.hits)))))))
    (λ p. record {
      shape = p.0;
      base = p.1.0;
      chain = p.1.1.0;
      entries = p.1.1.1.0;
      capacity = p.1.1.1.1.0;
      looks = p.1.1.1.1.1.0;
      hits = p.1.1.1.1.1.1;
    })
    (λ _. refl)
