-- To which ports of the system the listeners of a call are bound.
use Rattle.std.specs.Prelude.{ℕ, zero, suc, ◌+◌, ◌<◌, ◌≤◌}
use Rattle.tb_serve.specs.declared.places.Places.{Places}
use Rattle.tb_serve.specs.declared.places.Places.TheVariants as places

-- the number of listener i in a row: the first number, and those after it
abbrev pub row_number : ℕ → ℕ → ℕ
row_number first i = first + i

-- the number of listener i beside a door: the first one's, and the one after it for all others
abbrev pub door_number : ℕ → ℕ → ℕ
door_number first zero = first
door_number first (suc i) = first + 1

-- the number to which listener i is bound
abbrev pub number_at : Places → ℕ → ℕ
number_at (places.Row first) = row_number first
number_at (places.Door first) = door_number first

-- so many listeners have numbers that are ports
abbrev pub AreWithin : Places → ℕ → Type 0
AreWithin (places.Row first) count = first + count ≤ 65536
AreWithin (places.Door first) count = first < 65535
