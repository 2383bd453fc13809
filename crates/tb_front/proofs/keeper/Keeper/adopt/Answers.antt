use Rattle.std.proofs.Common.{rules, ap}
use Rattle.tb_front.proofs.Moves.{adopts, loads}
use Rattle.tb_front.proofs.keeper.Keeper.adopt.Goals as goal

pub join_seat-requires : goal.join_seat-requires
join_seat-requires g c = (search rules, search rules, search rules, search rules, adopts _ (ap (λ m. m.0.role) c.self.invariant) (ap (λ m. m.0.role) c.draft.invariant))

pub load-requires : goal.load-requires
load-requires g c = (search rules, search rules, loads _ _ _ _)
