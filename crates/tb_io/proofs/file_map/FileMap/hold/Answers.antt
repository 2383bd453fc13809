use Rattle.std.proofs.Common.{string_bytes, Some}
use Rattle.std.proofs.lemmas.Map.Text.{hash_map_updates_text}
use Rattle.tb_io.proofs.HeldLemmas.{HasHeld-updated}
use Rattle.tb_io.proofs.file_map.FileMap.hold.Goals as goal

pub returns-clause-ok : goal.returns-clause-ok
returns-clause-ok c =
    rw (← c.self.view_is, ← c.in_ok-name.ensures.ok)
    (HasHeld-updated _ _ _ c.in_ok-bytes.bytes _
    (hash_map_updates_text (string_bytes c.in_ok-name.name) c.self.inside.files c.insert.new.self (Some c.in_ok-bytes.bytes) c.in_ok-insert.ensures.updates)
    c.in_ok-bytes.ensures.items)
