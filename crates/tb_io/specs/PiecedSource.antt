-- A source in memory, which gives its bytes in pieces and of which some reads fail.
use Rattle.std.specs.Prelude.{ℕ, ◌==◌, if◌then◌else◌, Bool, List, length, drop, min}
use Rattle.std.specs.Bool.{nat_eq}
use Rattle.std.specs.List.{list_any}
use Rattle.tb_io.specs.Faults.{one_more}
use Rattle.tb_io.specs.declared.read.Read.{Read}
use Rattle.tb_io.specs.declared.read.Read.TheVariants.{Got, End, Failed}

-- the bytes left, the most bytes of a read, the numbers, from 1, of the reads that fail, how many
-- reads there were, and how many failed
pub record PiecedSource : Type 0 where
  pub left : List ℕ
  pub most : ℕ
  pub fails : List ℕ
  pub calls : ℕ
  pub faults : ℕ

-- whether the next read is one of those that are to fail
abbrev pub fails_next : PiecedSource → Bool
fails_next source = list_any (nat_eq (one_more source.calls)) source.fails

-- what a read of so many places returns: as many bytes as are allowed, are asked for and are left
abbrev pub piece_of : ℕ → Read
piece_of n = if n == 0 then End else Got n

abbrev pub read_of : PiecedSource → ℕ → Read
read_of source room =
    if fails_next source then Failed
    else piece_of (min (min source.most room) (length source.left))

-- how many faults there are after a read
abbrev pub faults_after : ℕ → Read → ℕ
faults_after faults Failed = one_more faults
faults_after faults End = faults
faults_after faults (Got n) = faults

-- what is left after a read
abbrev pub left_after : List ℕ → Read → List ℕ
left_after left (Got n) = drop n left
left_after left End = left
left_after left Failed = left

abbrev pub after_read : PiecedSource → Read → PiecedSource
after_read source read =
    record source {
      left = left_after source.left read;
      calls = one_more source.calls;
      faults = faults_after source.faults read;
    }
