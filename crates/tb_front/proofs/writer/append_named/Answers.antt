use Rattle.std.proofs.Common.{rules, ◌<◌, length, ap, sym, subst}
use Rattle.tb_front.specs.Holders.{Holder}
use Rattle.tb_front.specs.declared.front.TheConstants.{LONGEST_CHAIN}
use Rattle.tb_front.proofs.Moves.{appends}
use Rattle.tb_front.proofs.writer.append_named.Goals as goal

pub fetch_add-requires : goal.fetch_add-requires
fetch_add-requires g c = (search rules, search rules, appends _ c.requires.named (ap (λ m. m.0.role) c.writer.invariant) (subst (λ (h : Holder g.row.E.Denot g.row.E-Start.Denot). length h.list < LONGEST_CHAIN) (sym c.writer.view_is) c.requires.room))
