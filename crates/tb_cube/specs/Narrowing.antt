-- How far each category of a cube leads among the cells over fewer variables.
use Rattle.std.specs.Prelude.{◌≡◌, ◌*◌, ◌==◌, ◌<◌, ℕ, if◌then◌else◌, List, [], ◌∷◌, slice_index}
use Rattle.tb_grid.specs.Products.{cells_over}
use Rattle.tb_cube.specs.declared.axes.Axis.{Axis}
use Rattle.tb_cube.specs.declared.narrowing.Step.{Step}
use Rattle.tb_cube.specs.Walks.{count_of, Fork}

-- the stride of a variable among some axes, 0 where it isn't there
abbrev pub stride_in : List Axis → ℕ → ℕ
stride_in [] v = 0
stride_in (a ∷ rest) v = if a.variable == v then a.stride else stride_in rest v

-- each variable's number of categories, their runs of cells, and its stride among some axes
abbrev pub steps_of : List ℕ → List Axis → List ℕ → List Step
steps_of shape axes [] = []
steps_of shape axes (v ∷ vs) =
    record {
      count = slice_index shape v;
      run = cells_over shape vs;
      stride = stride_in axes v;
    }
    ∷ steps_of shape axes vs

-- each category leads on by its variable's stride
abbrev pub forks_of : List Step → List Fork
forks_of [] = []
forks_of (s ∷ ss) = record { count = s.count; step = λ c. c * s.stride } ∷ forks_of ss

-- each category of a variable has as many cells as there are lists of categories of those after it
abbrev pub AreRuns : List Step → Type 0
AreRuns [] = Unit {0}
AreRuns (s ∷ ss) = (s.run ≡ count_of (forks_of ss)) × (0 < s.run) × AreRuns ss
