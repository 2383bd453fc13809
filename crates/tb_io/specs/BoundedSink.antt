-- A sink in memory that takes no more than a number of bytes.
use Rattle.std.specs.Prelude.{ℕ, ◌-◌, ◌==◌, if◌then◌else◌, List, length}

-- the bytes taken, how many at most, and how many writes failed
pub record BoundedSink : Type 0 where
  pub taken : List ℕ
  pub bound : ℕ
  pub faults : ℕ

-- how many bytes it still takes: none once a write failed
abbrev pub room : BoundedSink → ℕ
room sink = if sink.faults == 0 then sink.bound - length sink.taken else 0
