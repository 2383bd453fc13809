-- What each step of a delivery keeps, a delivery keeps.
use Rattle.std.proofs.Common.{◌≡◌, ℕ, zero, suc, Bool, true, false, cond, eqb, List, refl, subst}
use Rattle.std.specs.Prelude.{Option, Some, None, is_none}
use Rattle.std.specs.Option.{option_map_or}
use Rattle.tb_model.specs.Releases.{ReleaseValue}
use Rattle.tb_release.specs.declared.edits.Edit.{Edit}
use Rattle.tb_release.specs.declared.fault.EditFaultKind.{EditFaultKind}
use Rattle.tb_follow.specs.declared.message.Delivered.{Delivered}
use Rattle.tb_follow.specs.declared.message.Message.{Message}
use Rattle.tb_follow.specs.Chains.{number_at}
use Rattle.tb_follow.specs.Deliveries.{Outcome, advanced, at_later, at_next, caught_up, dropped, given, is_later, kept, next_number, outcome, refusal_at}
use Rattle.tb_follow.specs.Followers.{FollowerValue, IsFollower}
use Rattle.tb_follow.specs.Messages.{MessageFits}
use Rattle.tb_follow.specs.Windows.{found, has_number}
use Rattle.tb_follow.proofs.Following.{follower-advanced, follower-dropped, follower-kept}

-- applying edits, dropping a message and keeping this one keep P
pub record Keep (P : FollowerValue → Type 0) (m : Message) : Type 0 where
  pub applied : (f : FollowerValue) (edits : List Edit) → P f → P (advanced f edits)
  pub dropped : (f : FollowerValue) → P f → P (dropped f)
  pub kept : (f : FollowerValue) → is_later (number_at f.chain) m.number ≡ true → has_number f.window m.number ≡ false → P f → P (kept f m)

module _ (P : FollowerValue → Type 0) (m : Message) (keep : Keep P m) where
  either-keeps : (b : Bool) (x y : FollowerValue) → P x → P y → P (cond b x y)
  either-keeps true x y hx hy = hx
  either-keeps false x y hx hy = hy

  found-keeps : (room : ℕ) (f : FollowerValue) → P f → ((g : FollowerValue) → P g → P (caught_up room g)) → (o : Option Message)
      → P (option_map_or (λ (m : Message). cond (is_none (refusal_at f m.edits)) (caught_up room (advanced f m.edits)) (dropped f)) o f)
  found-keeps room f is again None = is
  found-keeps room f is again (Some m') =
      either-keeps (is_none (refusal_at f m'.edits)) (caught_up room (advanced f m'.edits)) (dropped f) (again (advanced f m'.edits) (keep.applied f m'.edits is)) (keep.dropped f is)

  caught-keeps : (room : ℕ) (f : FollowerValue) → P f → P (caught_up room f)
  caught-keeps zero f is = is
  caught-keeps (suc room) f is = found-keeps room f is (λ g is'. caught-keeps room g is') (found (next_number f) f.window)

  next-keeps : (room : ℕ) (f : FollowerValue) (why : Option (EditFaultKind × ℕ)) → P f → P (at_next room f m why).follower
  next-keeps zero f why is = is
  next-keeps (suc room) f None is = caught-keeps room (advanced f m.edits) (keep.applied f m.edits is)
  next-keeps (suc room) f (Some why) is = is

  later-keeps : (room : ℕ) (f : FollowerValue) (waits : Bool) → is_later (number_at f.chain) m.number ≡ true → has_number f.window m.number ≡ waits → P f → P (at_later room f m waits).follower
  later-keeps room f true later waits is = caught-keeps room f is
  later-keeps zero f false later waits is = is
  later-keeps (suc room) f false later waits is = caught-keeps room (kept f m) (keep.kept f later waits is)

  other-keeps : (room : ℕ) (f : FollowerValue) (later : Bool) → is_later (number_at f.chain) m.number ≡ later → P f
      → P (cond later (at_later room f m (has_number f.window m.number)) (outcome m f (caught_up room f))).follower
  other-keeps room f true later is = later-keeps room f (has_number f.window m.number) later refl is
  other-keeps room f false later is = caught-keeps room f is

  choice-keeps : (b : Bool) (x y : Outcome) → P x.follower → P y.follower → P (cond b x y).follower
  choice-keeps true x y hx hy = hx
  choice-keeps false x y hx hy = hy

  pub given-keeps : (room : ℕ) (f : FollowerValue) → P f → P (given room f m).follower
  given-keeps room f is =
      choice-keeps (eqb m.number (next_number f)) (at_next room f m (refusal_at f m.edits))
      (cond (is_later (number_at f.chain) m.number) (at_later room f m (has_number f.window m.number)) (outcome m f (caught_up room f)))
      (next-keeps room f (refusal_at f m.edits) is) (other-keeps room f (is_later (number_at f.chain) m.number) refl is)

-- the shape and release 0 stay
pub given-stays : (shape : List ℕ) (base : ReleaseValue) (room : ℕ) (f : FollowerValue) (m : Message) → (f.chain.shape ≡ shape) × (f.chain.base ≡ base)
    → ((given room f m).follower.chain.shape ≡ shape) × ((given room f m).follower.chain.base ≡ base)
given-stays shape base room f m is =
    given-keeps (λ g. (g.chain.shape ≡ shape) × (g.chain.base ≡ base)) m (record { applied = λ g es is'. is'; dropped = λ g is'. is'; kept = λ g later new is'. is' }) room f is

-- what is true of every follower still is
pub given-follower : (room : ℕ) (f : FollowerValue) (m : Message) → IsFollower f → MessageFits f.chain.shape m → IsFollower (given room f m).follower
given-follower room f m is fits =
    (given-keeps (λ g. IsFollower g × MessageFits g.chain.shape m) m (record {
      applied = λ g es h. (follower-advanced g es h.0, h.1);
      dropped = λ g h. (follower-dropped g h.0, h.1);
      kept = λ g later new h. (follower-kept g m h.0 h.1 later new, h.1);
    }) room f (is, fits)).0

-- so it is of what was left and returned
pub delivered-follower : (room : ℕ) (f : FollowerValue) (m : Message) (new : FollowerValue) (answer : Delivered) → given room f m ≡ record { follower = new; answer = answer } → IsFollower f
    → MessageFits f.chain.shape m → IsFollower new
delivered-follower room f m new answer same is fits = subst (λ (o : Outcome). IsFollower o.follower) same (given-follower room f m is fits)
