use Rattle.std.proofs.Common.{◌+◌, ◌∷◌, ℕ, List, sym, subst}
use Rattle.tb_text.specs.Passing.{HasRoom}
use Rattle.tb_text.proofs.Passes.{room_before}
use Rattle.tb_text.proofs.prepared.+begin_room.Goals as goal

pub returns-in-Some-checked_add : goal.returns-in-Some-checked_add
returns-in-Some-checked_add t c = λ used.
    subst (λ (ds : List (List (List ℕ))). HasRoom used (used + c.in-Some-checked_add.room) ds) (sym c.in-Some.ensures.cases.0)
    (subst (λ (n : ℕ). HasRoom used (used + n) (c.in-Some.fields.now ∷ c.in-Some.rest.now)) (sym c.in-Some-checked_add.ensures.1)
    (room_before c.in-Some.fields.now c.in-Some.rest.now c.longest.result c.in_ok-behind.behind c.longest.ensures c.in_ok-behind.ensures used))
