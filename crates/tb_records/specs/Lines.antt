-- What the parts say into which a file of microdata is cut.
use Rattle.std.specs.Prelude.{◌≡◌, ℕ, List, map, Ok}
use Rattle.tb_base.specs.declared.records.Record.{Record}
use Rattle.tb_model.specs.Schemas.{SchemaValue}
use Rattle.tb_rows.specs.Columns.{HeaderValue}
use Rattle.tb_rows.specs.Formats.{line_under}
use Rattle.tb_rows.specs.Records.{records_of}
use Rattle.tb_records.specs.People.{people_file}

-- each record of a part under a header says one of these, in order
unfoldable pub AreLines : SchemaValue → HeaderValue → List ℕ → List Record → Type 0
AreLines schema header part lines =
    map (line_under (people_file schema) header.width header.indices) (records_of part)
    ≡ map (λ one. Ok one) lines
