use Rattle.std.proofs.Common.{◌≡◌, ◌++◌, length, map, Ok}
use Rattle.tb_rows.specs.Formats.{line_under}
use Rattle.tb_rows.specs.Records.{records_of}
use Rattle.tb_records.specs.People.{people_file}
use Rattle.tb_records.proofs.lines.read_lines.Given as goal

-- the lines so far, and those of the records to come, are those of all records
abbrev pub invariant-lines : goal.invariant-lines
invariant-lines l =
    map (λ one. Ok one) l.lines.items ++ map (line_under (people_file l.schema) l.header.width l.header.indices) l.to_come
    ≡ map (line_under (people_file l.schema) l.header.width l.header.indices) (records_of l.part)

abbrev pub decreases-lines : goal.decreases-lines
decreases-lines l = length l.to_come
