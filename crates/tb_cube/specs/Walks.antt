-- Cells walked variable by variable, where each category leads on by a step of its variable.
use Rattle.std.specs.Prelude.{◌+◌, ◌*◌, ◌/◌, ◌%◌, ◌==◌, ◌<◌, ◌≤◌, ℕ, cond, List, [], ◌∷◌}
use Rattle.std.specs.List.{sum_by, range_with_len}
use Rattle.tb_base.specs.Parts.{part, Part}
use Rattle.tb_grid.specs.declared.products.TheConstants.{MOST_CELLS}
use Rattle.tb_cube.specs.declared.packing.KeptCell.{KeptCell}

-- where a walk forks: the categories of a variable, and how far each of them leads
pub record Fork : Type 0 where
  pub count : ℕ
  pub step : ℕ → ℕ

-- how many lists of categories there are
abbrev pub count_of : List Fork → ℕ
count_of [] = 1
count_of (t ∷ ts) = t.count * count_of ts

-- what the cells add at the number i: f gives a part of the cell at each place; the categories
-- before lead to the place k among theirs, and to the number base
unfoldable pub spread : List Fork → (ℕ → ℕ) → ℕ → ℕ → ℕ → ℕ
spread [] f k base i = cond (base == i) (f k) 0
spread (t ∷ ts) f k base i =
    sum_by (λ c. spread ts f (k * t.count + c) (base + t.step c) i) (range_with_len 0 t.count)

-- the number to which a place leads
abbrev pub led_to : List Fork → ℕ → ℕ
led_to [] place = 0
led_to (t ∷ ts) place = t.step (place / count_of ts) + led_to ts (place % count_of ts)

-- what kept cells add at the number i, each at the number to which its place leads
abbrev pub kept_spread : List Fork → Part → List KeptCell → ℕ → ℕ
kept_spread forks p kept i = sum_by (λ k. cond (led_to forks k.place == i) (part p k.cell) 0) kept

-- where a walk over so many cells stands: before these forks, at the place k of the categories so
-- far, and at a number below those of the cells to which is added
pub record StandsAt (forks : List Fork) (long cells k base : ℕ) : Type 0 where
  pub whole : (k + 1) * count_of forks ≤ long
  pub some : 0 < count_of forks
  pub small : long ≤ MOST_CELLS
  pub low : base < cells
  pub few : cells ≤ MOST_CELLS
