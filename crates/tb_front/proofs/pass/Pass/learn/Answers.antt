use Rattle.std.proofs.Common.{rules, ap}
use Rattle.tb_front.proofs.Moves.{learns, loads}
use Rattle.tb_front.proofs.pass.Pass.learn.Goals as goal

pub join_seat-requires : goal.join_seat-requires
join_seat-requires g c = (search rules, search rules, search rules, search rules, learns _ (ap (λ m. m.0.role) c.self.invariant) (ap (λ m. m.0.role) c.note.invariant))

pub load-requires : goal.load-requires
load-requires g c = (search rules, search rules, loads _ _ _ _)
