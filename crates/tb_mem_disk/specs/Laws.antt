-- What a disk in memory owes of the contents that its file had.
use Rattle.std.proofs.Common.{◌≡◌, ◌≤◌, ℕ, List, [], Option, Some, length, take, sym, ◌∙◌, ap, arith}
use Rattle.std.specs.Prelude.{unwrap_or}
use Rattle.std.proofs.lemmas.List.{take_all}
use Rattle.tb_mem_disk.specs.Writes.{HeldFile, HadSince, after_writes, bytes_of}

-- what is told is there
pub reads-so : (bytes file : List ℕ) → Some bytes ≡ Some file → file ≡ bytes
reads-so bytes file told = sym (ap (λ (held : Option (List ℕ)). unwrap_or held []) told)

-- all of the writes
all-writes : (file : HeldFile) (n : ℕ) → length file.writes ≤ n → after_writes file.first (take n file.writes) ≡ bytes_of file
all-writes file n le = ap (after_writes file.first) (take_all n file.writes le)

pub had-now : (file : HeldFile) (time : ℕ) (bytes : List ℕ) → time ≤ length file.writes → bytes ≡ bytes_of file → HadSince file time bytes
had-now file time bytes le now = record {
  writes = length file.writes;
  since = le;
  made = omega arith;
  had = now ∙ sym (all-writes file (length file.writes) (omega arith));
}

-- since the last write there is what is there now
pub only-now : (file : HeldFile) (bytes : List ℕ) → HadSince file (length file.writes) bytes → bytes ≡ bytes_of file
only-now file bytes left = left.had ∙ all-writes file left.writes left.since
