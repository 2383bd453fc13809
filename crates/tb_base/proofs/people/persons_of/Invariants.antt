use Rattle.std.proofs.Common.{take}
use Rattle.tb_base.specs.Persons.{HasPersonsOf}
use Rattle.tb_base.proofs.people.persons_of.Given as goal

-- the set has the persons of the records so far
abbrev pub invariant-loop-record : goal.invariant-loop-record
invariant-loop-record l = HasPersonsOf l.persons (take l.record-index l.records)
