-- What comes of what is found at a gate.
use Rattle.std.specs.Prelude.{◌≡◌}
use Rattle.tb_journal.specs.declared.reading.Found.{Found}
use Rattle.tb_journal.specs.declared.reading.Found.TheVariants as found
use Rattle.tb_journal.specs.declared.recovered.Recovered.{Recovered}
use Rattle.tb_journal.specs.declared.recovered.Recovered.TheVariants.{Batch, BadRecord, End, DiskFault, Memory}

-- what was found is what is told
abbrev pub IsTaken : Found → Recovered → Type 0
IsTaken (found.Batch edits size) result = result ≡ Batch edits
IsTaken found.End result = result ≡ End
IsTaken found.Bad (Batch edits) = ⊥
IsTaken found.Bad End = ⊥
IsTaken found.Bad (BadRecord r) = Unit {0}
IsTaken found.Bad DiskFault = ⊥
IsTaken found.Bad Memory = ⊥
IsTaken found.DiskFault result = result ≡ DiskFault
IsTaken found.Memory result = result ≡ Memory
