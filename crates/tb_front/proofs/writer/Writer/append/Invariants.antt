use Rattle.std.proofs.Common.{Some}
use Rattle.tb_front.proofs.writer.Writer.append.Given as goal

-- the entry that is appended
abbrev pub ghosts-append_named : goal.ghosts-append_named
ghosts-append_named g a = record { entry = Some a.entry.now }
