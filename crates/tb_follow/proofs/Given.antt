-- What a delivery does, by the number of the message.
use Rattle.std.proofs.Common.{◌≡◌, ℕ, suc, ◌+◌, ◌<◌, Bool, true, false, List, length, refl, sym, ap, subst, ◌∙◌, arith}
use Rattle.std.specs.Prelude.{Some, None, Ok, Err}
use Rattle.std.proofs.lemmas.Bool.{eq-eqb, ne_eqb}
use Rattle.tb_release.specs.Results.{IsWhy}
use Rattle.tb_release.specs.declared.fault.EditFault.{EditFault}
use Rattle.tb_release.specs.declared.fault.EditFault.TheVariants as fault
use Rattle.tb_release.specs.declared.fault.EditFaultKind.{EditFaultKind}
use Rattle.tb_follow.specs.declared.message.Delivered.{Delivered}
use Rattle.tb_follow.specs.declared.message.Message.{Message}
use Rattle.tb_follow.specs.Chains.{Applies, ChainValue, extended, number_at}
use Rattle.tb_follow.specs.Deliveries.{advanced, answer_by, at_later, at_next, caught_up, dropped, given, is_later, kept, next_number, outcome, refusal_at}
use Rattle.tb_follow.specs.Followers.{FollowerValue, IsFollower, follower}
use Rattle.tb_follow.specs.Steps.{Advances, TakesIn, refusal_of}
use Rattle.tb_follow.specs.Windows.{found, has_number, without}
use Rattle.tb_follow.proofs.Few.{found-less}
use Rattle.tb_follow.proofs.Following.{follower-advanced, is-later}

-- ---- which of the three it is
pub given-next : (room : ℕ) (f : FollowerValue) (m : Message) → m.number ≡ next_number f → given room f m ≡ at_next room f m (refusal_at f m.edits)
given-next room f m is = rw (eq-eqb m.number (next_number f) is) refl

pub given-later : (room : ℕ) (f : FollowerValue) (m : Message) (b : Bool) → (m.number ≡ next_number f → ⊥) → is_later (number_at f.chain) m.number ≡ true → has_number f.window m.number ≡ b
    → given room f m ≡ at_later room f m b
given-later room f m b other later waits = rw (ne_eqb m.number (next_number f) other, later, waits) refl

pub given-else : (room : ℕ) (f : FollowerValue) (m : Message) → (m.number ≡ next_number f → ⊥) → is_later (number_at f.chain) m.number ≡ false
    → given room f m ≡ outcome m f (caught_up room f)
given-else room f m other later = rw (ne_eqb m.number (next_number f) other, later) refl

-- a later number isn't the next one
later-other : (n k : ℕ) → is_later n k ≡ true → k ≡ n + 1 → ⊥
later-other n k later is = let (above, near) = is-later n k later in omega (arith, above, is)

-- ---- a message is taken in
-- that of the next number is applied
pub in-applied : (old new : ChainValue) (window left : List Message) (m : Message) → m.number ≡ number_at old + 1 → Applies old m.edits new → left ≡ without m.number window
    → follower new left ≡ advanced (follower old window) m.edits
in-applied old new window left m is applies same =
    ap (λ c. follower c left) applies.chain ∙ ap (λ w. follower (extended old m.edits) w) (same ∙ ap (λ n. without n window) is)

pub in-next : (old new : FollowerValue) (m : Message) → m.number ≡ next_number old → refusal_at old m.edits ≡ None → new ≡ advanced old m.edits → TakesIn old m (Ok tt) new
in-next old new m is possible same = λ room. (suc room, given-next (suc room) old m is ∙ rw (possible, same) refl)

pub in-refused : (old new : FollowerValue) (m : Message) (why : EditFault) → m.number ≡ next_number old → IsWhy (refusal_at old m.edits) why → new ≡ old
    → TakesIn old m (Err (refusal_of why)) new
in-refused old new m (fault.Refused kind edit) is why same = (same, (1, given-next 1 old m is ∙ rw why refl))
in-refused old new m fault.Memory is why same = (same, (0, given-next 0 old m is))

-- one of a later number waits already, or waits from now on
pub in-waits : (old : FollowerValue) (m : Message) → is_later (number_at old.chain) m.number ≡ true → has_number old.window m.number ≡ true → TakesIn old m (Ok tt) old
in-waits old m later waits = λ room. (room, given-later room old m true (later-other (number_at old.chain) m.number later) later waits)

pub in-kept : (old : FollowerValue) (m : Message) → is_later (number_at old.chain) m.number ≡ true → has_number old.window m.number ≡ false → TakesIn old m (Ok tt) (kept old m)
in-kept old m later waits = λ room. (suc room, given-later (suc room) old m false (later-other (number_at old.chain) m.number later) later waits)

-- any other changes nothing
pub in-else : (old : FollowerValue) (m : Message) → (m.number ≡ next_number old → ⊥) → is_later (number_at old.chain) m.number ≡ false → TakesIn old m (Ok tt) old
in-else old m other later = λ room. (room, given-else room old m other later)

-- ---- one step through the window
pub step-advanced : (old new : FollowerValue) → Advances old new → (room : ℕ) → caught_up (suc room) old ≡ caught_up room new
step-advanced old new is room = rw (is.there, is.possible, is.leaves) refl

pub step-dropped : (old new : FollowerValue) (m : Message) (why : EditFaultKind × ℕ) → found (next_number old) old.window ≡ Some m → refusal_at old m.edits ≡ Some why → new ≡ dropped old
    → (room : ℕ) × (new ≡ caught_up room old)
step-dropped old new m why there refused is = (1, is ∙ rw (there, refused) refl)

pub advanced-less : (old new : FollowerValue) → Advances old new → length new.window < length old.window
advanced-less old new is = subst (λ (f : FollowerValue). length f.window < length old.window) (sym is.leaves) (found-less (next_number old) old.window is.message is.there)

pub advanced-follower : (old new : FollowerValue) → Advances old new → IsFollower old → IsFollower new
advanced-follower old new is own = subst IsFollower (sym is.leaves) (follower-advanced old is.message.edits own)

-- ---- a delivery
pub answer-by : (number before after : ℕ) (answer : Delivered) (old new : ℕ) → answer ≡ answer_by number before after → before ≡ old → after ≡ new → answer ≡ answer_by number old new
answer-by number before after answer old new is was comes = is ∙ ap (λ n. answer_by number n after) was ∙ ap (answer_by number old) comes

pub after-in : (room : ℕ) (old mid new : FollowerValue) (m : Message) (answer : Delivered) → TakesIn old m (Ok tt) mid → new ≡ caught_up room mid
    → answer ≡ answer_by m.number (number_at old.chain) (number_at new.chain) → (more : ℕ) × (given more old m ≡ record { follower = new; answer = answer })
after-in room old mid new m answer taken same is =
    let h = taken room in (h.0, h.1 ∙ ap (outcome m old) (sym same) ∙ ap (λ a. record { follower = new; answer = a }) (sym is))

pub after-err : (old new : FollowerValue) (m : Message) (answer : Delivered) → TakesIn old m (Err answer) new → (more : ℕ) × (given more old m ≡ record { follower = new; answer = answer })
after-err old new m answer taken = (taken.1.0, taken.1.1 ∙ ap (λ f. record { follower = f; answer = answer }) (sym taken.0))
