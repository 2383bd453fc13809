-- A `csv` writer that makes records.
use Rattle.std.specs.Prelude.{◌≡◌, ℕ, List, ◌++◌, Vec, false}
use Rattle.std.specs.declared.alloc.Global.{Global}
use Rattle.csv.specs.declared.writer.Writer.{Writer}
use Rattle.csv.specs.Writing.{default_writer, fields_written, has_written, writer_pending}
use Rattle.csv.specs.Writing.{writer_setup, writer_under}

-- a writer at its defaults is between two records
pub record IsBetweenRecords (rows : Writer (Vec ℕ Global)) : Type 0 where
  pub setup : writer_setup rows ≡ default_writer
  pub fields : fields_written rows ≡ 0
  pub none : has_written rows ≡ false

-- all that it wrote, with what it hasn't passed on
abbrev pub written : Writer (Vec ℕ Global) → List ℕ
written rows = (writer_under rows).items ++ writer_pending rows
