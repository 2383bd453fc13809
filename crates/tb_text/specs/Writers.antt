-- A `csv` writer that makes fields, or records.
use Rattle.std.specs.Prelude.{◌≡◌, ◌<◌, ℕ, List, [], ◌∷◌, ◌++◌, drop, Vec}
use Rattle.std.specs.declared.alloc.Global.{Global}
use Rattle.csv.specs.declared.writer.Writer.{Writer}
use Rattle.csv.specs.Writing.{default_writer, fields_written, writer_pending}
use Rattle.csv.specs.Writing.{writer_setup, writer_under}

-- a writer at its defaults is within a record, and has passed on all that it wrote
pub record IsWithinRecord (rows : Writer (Vec ℕ Global)) : Type 0 where
  pub setup : writer_setup rows ≡ default_writer
  pub fields : 0 < fields_written rows
  pub pending : writer_pending rows ≡ []

-- what it passed on from byte `base` on, and a comma
abbrev pub fields_from : ℕ → Writer (Vec ℕ Global) → List ℕ
fields_from base rows = drop base ((writer_under rows).items ++ 44 ∷ [])
