-- A cube on its way along a chain, on and back.
use Rattle.std.proofs.Common.{◌≡◌, ℕ, ◌+◌, ◌-◌, ◌<◌, ◌≤◌, List, length, take, refl, sym, ap, ◌∙◌, subst, arith}
use Rattle.std.specs.Prelude.{All, Some, slice_get}
use Rattle.std.proofs.lemmas.List.Sums.{sum_by_push}
use Rattle.tb_cube.specs.Cubes.{CubeValue, Holds, cube_over}
use Rattle.tb_delta.specs.Advancing.{CanAdvance}
use Rattle.tb_model.specs.Releases.{ReleaseValue}
use Rattle.tb_release.specs.Batches.{BatchValue}
use Rattle.tb_release.specs.Chains.{after_batch, change_count}
use Rattle.tb_release.specs.Results.{ChangeFits}
use Rattle.tb_release.specs.Revised.{IsRevised, release_at}
use Rattle.tb_release.proofs.RevisedChains.{StandsAt, count_le, fits_at, stands_at, take_here}
use Rattle.tb_past.specs.Leading.{changes_between}
use Rattle.tb_past.specs.Retreating.{CanRetreat}

here : (shape : List ℕ) (base : ReleaseValue) (chain : List BatchValue) (i : ℕ) (batch : BatchValue) → IsRevised shape base chain → slice_get chain i ≡ Some batch → StandsAt base chain i batch
here shape base chain i batch h at = stands_at base chain i batch h.sound h.is_chain at

-- a cube that began as one of a chain is that of release n
abbrev pub IsAt : CubeValue → ReleaseValue → List BatchValue → ℕ → CubeValue → Type 0
IsAt start base chain n cube = cube ≡ cube_over start.shape start.vars (release_at base chain n).records

-- it fits the batch at a place
pub fits_cube : (start cube : CubeValue) (base : ReleaseValue) (chain : List BatchValue) (n i : ℕ) (batch : BatchValue) → IsRevised start.shape base chain → slice_get chain i ≡ Some batch
    → IsAt start base chain n cube → All (ChangeFits cube.shape) batch.changes
fits_cube start cube base chain n i batch h at is =
    subst (λ (c : CubeValue). All (ChangeFits c.shape) batch.changes) (sym is) (fits_at start.shape base chain i batch h at)

-- one batch on
pub can_go_on : (start cube : CubeValue) (base : ReleaseValue) (chain : List BatchValue) (i : ℕ) (batch : BatchValue) → IsRevised start.shape base chain → slice_get chain i ≡ Some batch
    → IsAt start base chain i cube → CanAdvance cube batch (release_at base chain i)
can_go_on start cube base chain i batch h at is =
    let s = here start.shape base chain i batch h at in record {
      sound = s.sound;
      dense = ap (λ (c : CubeValue). c.dense) is;
      holds = subst (λ (c : CubeValue). Holds c (release_at base chain i).records) (sym is) refl;
      follows = s.follows;
    }

pub goes_on : (start cube new : CubeValue) (base : ReleaseValue) (chain : List BatchValue) (i : ℕ) (batch : BatchValue) → IsRevised start.shape base chain → slice_get chain i ≡ Some batch
    → IsAt start base chain i cube → new ≡ cube_over cube.shape cube.vars (after_batch (release_at base chain i) batch).records → IsAt start base chain (i + 1) new
goes_on start cube new base chain i batch h at is led =
    let s = here start.shape base chain i batch h at in
    led ∙ ap (λ (c : CubeValue). cube_over c.shape c.vars (after_batch (release_at base chain i) batch).records) is
    ∙ ap (λ (r : ReleaseValue). cube_over start.shape start.vars r.records) (sym s.next)

-- one batch back
pub can_go_back : (start cube : CubeValue) (base : ReleaseValue) (chain : List BatchValue) (i : ℕ) (batch : BatchValue) → IsRevised start.shape base chain → slice_get chain i ≡ Some batch
    → IsAt start base chain (i + 1) cube → CanRetreat cube batch (release_at base chain i)
can_go_back start cube base chain i batch h at is =
    let s = here start.shape base chain i batch h at in
    let now : cube ≡ cube_over start.shape start.vars (after_batch (release_at base chain i) batch).records =
    is ∙ ap (λ (r : ReleaseValue). cube_over start.shape start.vars r.records) s.next in record {
      sound = s.sound;
      dense = ap (λ (c : CubeValue). c.dense) is;
      holds = subst (λ (c : CubeValue). Holds c (after_batch (release_at base chain i) batch).records) (sym now) refl;
      follows = s.follows;
    }

pub goes_back : (start cube new : CubeValue) (base : ReleaseValue) (chain : List BatchValue) (i : ℕ) → IsAt start base chain (i + 1) cube
    → new ≡ cube_over cube.shape cube.vars (release_at base chain i).records → IsAt start base chain i new
goes_back start cube new base chain i is led =
    led ∙ ap (λ (c : CubeValue). cube_over c.shape c.vars (release_at base chain i).records) is

-- so many changes more
pub one_more_count : (chain : List BatchValue) (i : ℕ) (batch : BatchValue) → slice_get chain i ≡ Some batch → change_count (take (i + 1) chain) ≡ change_count (take i chain) + length batch.changes
one_more_count chain i batch at =
    ap change_count (take_here chain i batch at) ∙ sum_by_push (λ (b : BatchValue). length b.changes) (take i chain) batch

-- ---- on the way back, by how many batches were gone back
-- at first
pub back_at_first : (start cube : CubeValue) (base : ReleaseValue) (chain : List BatchValue) (from k : ℕ) → k + 0 ≡ from → IsAt start base chain from cube → IsAt start base chain k cube
back_at_first start cube base chain from k all is =
    let same : from ≡ k = omega arith in subst (λ n. IsAt start base chain n cube) same is

pub count_at_first : (chain : List BatchValue) (from k steps : ℕ) → k + 0 ≡ from → steps + change_count (take k chain) ≡ steps + change_count (take from chain)
count_at_first chain from k steps all =
    let same : k ≡ from = omega arith in ap (λ n. steps + change_count (take n chain)) same

-- the batch before which the cube stands
pub last_left : (from to i : ℕ) → to ≤ from → i < from - to → from - 1 - i + 1 + i ≡ from
last_left from to i down below = omega arith

pub next_left : (from to i k : ℕ) → to ≤ from → i < from - to → k + (i + 1) ≡ from → from - 1 - i ≡ k
next_left from to i k down below left = omega arith

pub none_left : (from to i : ℕ) → to ≤ from → i ≤ from - to → from - to ≤ i → to + i ≡ from
none_left from to i down low high = omega arith

pub count_back : (chain : List BatchValue) (at k old so_far new total : ℕ) (batch : BatchValue) → at ≡ k → slice_get chain at ≡ Some batch → so_far + change_count (take (at + 1) chain) ≡ old + total
    → new ≡ so_far + length batch.changes → new + change_count (take k chain) ≡ old + total
count_back chain at k old so_far new total batch same is was led =
    let more = one_more_count chain at batch is in
    subst (λ n. new + change_count (take n chain) ≡ old + total) same (omega (arith, more, was, led))

-- ---- what lies between two releases
pub between_on : (chain : List BatchValue) (from to old new : ℕ) → from ≤ to → new + change_count (take from chain) ≡ old + change_count (take to chain) → new ≡ old + changes_between chain from to
between_on chain from to old new up led = let low = count_le chain from to up in omega (arith, low, led)

pub between_back : (chain : List BatchValue) (from to old new : ℕ) → to ≤ from → new + change_count (take to chain) ≡ old + change_count (take from chain) → new ≡ old + changes_between chain from to
between_back chain from to old new down led = let low = count_le chain to from down in omega (arith, low, led)

-- there are no more than the later one has had since release 0
pub between_few : (chain : List BatchValue) (from to last : ℕ) → from ≤ last → to ≤ last → changes_between chain from to ≤ change_count (take last chain)
between_few chain from to last low high =
    let a = count_le chain from last low in
    let b = count_le chain to last high in omega (arith, a, b)
