-- Numbers that are drawn from a state: a linear congruential generator.
use Rattle.std.specs.Prelude.{ℕ, ◌+◌, ◌*◌, ◌/◌, ◌%◌, ◌^◌}
use Rattle.std.specs.Fn.{iterate}

-- the state that follows a state
abbrev pub next_state : ℕ → ℕ
next_state x = (1664525 * x + 1013904223) % 2 ^ 32

-- the state after so many draws
unfoldable pub after : ℕ → ℕ → ℕ
after n x = iterate next_state n x

-- the value of the n-th draw from a state, from 1
abbrev pub draw : ℕ → ℕ → ℕ
draw n x = after n x / 65536

-- the state that is so far from the start
abbrev pub seed : ℕ → ℕ → ℕ
seed start more = (start + more) % 2 ^ 32
