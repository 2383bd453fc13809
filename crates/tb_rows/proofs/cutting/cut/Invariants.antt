use Rattle.std.proofs.Common.{◌≡◌, ◌++◌, length}
use Rattle.tb_rows.specs.Cutting.{HasNoQuote, all_records}
use Rattle.tb_rows.specs.Records.{records_of}
use Rattle.tb_rows.proofs.cutting.cut.Given as goal

-- the records of the parts so far, and of what is left, are all records
abbrev pub invariant-parts : goal.invariant-parts
invariant-parts l = record {
  plain : HasNoQuote l.rest;
  all : all_records l.parts.items ++ records_of l.rest ≡ records_of l.fn.text;
}

abbrev pub decreases-parts : goal.decreases-parts
decreases-parts l = length l.rest
