-- How a list of numbers is kept.
use Rattle.std.specs.Prelude.{ℕ, ◌≤◌, List, take}
use Rattle.tb_base.specs.declared.codes.TheConstants.{IN_PLACE}
use Rattle.tb_base.specs.declared.codes.Numbers.{Numbers}
use Rattle.tb_base.specs.declared.codes.Numbers.TheVariants.{Few, Many}

-- the numbers that are kept: in place, those of the first places
abbrev pub numbers_of : Numbers → List ℕ
numbers_of (Few len places) = take len places
numbers_of (Many numbers) = numbers.value.items

-- those in place are no more than there are places
abbrev pub IsWithin : Numbers → Type 0
IsWithin (Few len places) = len ≤ IN_PLACE
IsWithin (Many numbers) = Unit {0}
