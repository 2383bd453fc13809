use Rattle.std.proofs.Common.{refl}
use Rattle.tb_io.proofs.HeldLemmas.{bytes_of-held}
use Rattle.tb_io.proofs.file_map.FileMap.bytes.Goals as goal

pub returns-in-Some : goal.returns-in-Some
returns-in-Some c = rw (← c.self.view_is, bytes_of-held, ← c.in-Some.ensures.value, c.as_slice.ensures.value) refl

pub returns-in-None : goal.returns-in-None
returns-in-None c = rw (← c.self.view_is, bytes_of-held, ← c.in-None.ensures.value) refl
