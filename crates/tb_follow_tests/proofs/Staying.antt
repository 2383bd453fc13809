-- What a delivery leaves as it is.
use Rattle.std.proofs.Common.{◌≡◌, ◌∙◌, refl, sym, ap, ℕ, List}
use Rattle.tb_follow.specs.Deliveries.{Outcome, given}
use Rattle.tb_follow.specs.Followers.{FollowerValue}
use Rattle.tb_follow.specs.declared.message.Delivered.{Delivered}
use Rattle.tb_follow.specs.declared.message.Message.{Message}
use Rattle.tb_follow.proofs.Keeping.{given-stays}

pub shape_stays : (f new : FollowerValue) (m : Message) (answer : Delivered) (shape : List ℕ) → f.chain.shape ≡ shape → (room : ℕ) × (given room f m ≡ record { follower = new; answer = answer }) → new.chain.shape ≡ shape
shape_stays f new m answer shape same (room, is) = ap (λ (o : Outcome). o.follower.chain.shape) (sym is) ∙ (given-stays shape f.chain.base room f m (same, refl)).0
