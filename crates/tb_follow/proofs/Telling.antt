-- What the answer to a delivery tells.
use Rattle.std.proofs.Common.{◌≡◌, ℕ, zero, suc, ◌+◌, ◌<◌, ◌≤◌, Bool, true, false, cond, eqb, leb, ltb, refl, sym, subst, arith}
use Rattle.std.specs.Prelude.{Option, Some, None, is_none}
use Rattle.std.specs.Option.{option_map_or}
use Rattle.std.proofs.lemmas.Bool.{eqb-true, eqb-false, leb-true, leb-false, ltb-true, ltb-false}
use Rattle.tb_release.specs.declared.fault.EditFaultKind.{EditFaultKind}
use Rattle.tb_follow.specs.declared.limits.TheConstants.{MOST_AHEAD}
use Rattle.tb_follow.specs.declared.message.Delivered.{Delivered}
use Rattle.tb_follow.specs.declared.message.Delivered.TheVariants as delivered
use Rattle.tb_follow.specs.declared.message.Message.{Message}
use Rattle.tb_follow.specs.Answers.{Tells, reached}
use Rattle.tb_follow.specs.Deliveries.{Outcome, advanced, at_later, at_next, caught_up, dropped, given, is_later, kept, next_number, outcome, refusal_at}
use Rattle.tb_follow.specs.Followers.{FollowerValue}
use Rattle.tb_follow.specs.Windows.{found, has_number}
use Rattle.tb_follow.proofs.Following.{is-later, number-extended}
use Rattle.tb_follow.proofs.Given.{given-else, given-later, given-next}

-- ---- the number never falls
risen-by : (n : ℕ) (b : Bool) (x y : FollowerValue) → n ≤ reached x → n ≤ reached y → n ≤ reached (cond b x y)
risen-by n true x y hx hy = hx
risen-by n false x y hx hy = hy

risen-found : (room : ℕ) (f : FollowerValue) → ((g : FollowerValue) → reached g ≤ reached (caught_up room g)) → (o : Option Message)
    → reached f ≤ reached (option_map_or (λ (m : Message). cond (is_none (refusal_at f m.edits)) (caught_up room (advanced f m.edits)) (dropped f)) o f)
risen-found room f again None = omega arith
risen-found room f again (Some m) =
    let more = again (advanced f m.edits) in
    let one = number-extended f.chain m.edits in
    risen-by (reached f) (is_none (refusal_at f m.edits)) (caught_up room (advanced f m.edits)) (dropped f) (omega arith) (omega arith)

caught-risen : (room : ℕ) (f : FollowerValue) → reached f ≤ reached (caught_up room f)
caught-risen zero f = omega arith
caught-risen (suc room) f = risen-found room f (λ g. caught-risen room g) (found (next_number f) f.window)

-- ---- the answer by numbers
-- an outcome tells
abbrev Told : FollowerValue → Message → Outcome → Type 0
Told old m o = Tells old m o.answer o.follower

by_far : (old : FollowerValue) (m : Message) (new : FollowerValue) (far : Bool) → ltb (reached old + MOST_AHEAD) m.number ≡ far → reached new ≡ reached old → reached old + 1 < m.number
    → Tells old m (cond far (delivered.Far (reached old)) (delivered.Kept (reached old))) new
by_far old m new true is stays beyond = (record { stays = stays; told = refl }, ltb-true (reached old + MOST_AHEAD) m.number is)
by_far old m new false is stays beyond = (record { stays = stays; told = refl }, beyond, ltb-false (reached old + MOST_AHEAD) m.number is)

by_old : (old : FollowerValue) (m : Message) (new : FollowerValue) (is_old : Bool) → leb m.number (reached old) ≡ is_old → reached new ≡ reached old → (m.number ≡ reached old + 1 → ⊥)
    → Tells old m (cond is_old (delivered.Old (reached old)) (cond (ltb (reached old + MOST_AHEAD) m.number) (delivered.Far (reached old)) (delivered.Kept (reached old)))) new
by_old old m new true is stays other = (record { stays = stays; told = refl }, leb-true m.number (reached old) is)
by_old old m new false is stays other =
    let above = leb-false m.number (reached old) is in
    by_far old m new (ltb (reached old + MOST_AHEAD) m.number) refl stays (omega (arith, above, other))

by_rise : (old : FollowerValue) (m : Message) (new : FollowerValue) (rose : Bool) → ltb (reached old) (reached new) ≡ rose → reached old ≤ reached new
    → (reached new ≡ reached old → m.number ≡ reached old + 1 → ⊥)
    → Tells old m (cond rose (delivered.Applied (reached new)) (cond (leb m.number (reached old)) (delivered.Old (reached old))
    (cond (ltb (reached old + MOST_AHEAD) m.number) (delivered.Far (reached old)) (delivered.Kept (reached old))))) new
by_rise old m new true is never other = (ltb-true (reached old) (reached new) is, refl)
by_rise old m new false is never other =
    let least = ltb-false (reached old) (reached new) is in
    let stays : reached new ≡ reached old = omega arith in
    by_old old m new (leb m.number (reached old)) refl stays (other stays)

outcome-told : (old : FollowerValue) (m : Message) (new : FollowerValue) → reached old ≤ reached new → (reached new ≡ reached old → m.number ≡ reached old + 1 → ⊥)
    → Told old m (outcome m old new)
outcome-told old m new never other = by_rise old m new (ltb (reached old) (reached new)) refl never other

-- ---- a delivery
next-told : (room : ℕ) (f : FollowerValue) (m : Message) (why : Option (EditFaultKind × ℕ)) → refusal_at f m.edits ≡ why → m.number ≡ reached f + 1 → Told f m (at_next room f m why)
next-told zero f m why is number = (refl, record { above = omega arith; near = omega arith })
next-told (suc room) f m None is number =
    let more = caught-risen room (advanced f m.edits) in
    let one = number-extended f.chain m.edits in
    outcome-told f m (caught_up room (advanced f m.edits)) (omega arith) (λ stays same. omega arith)
next-told (suc room) f m (Some why) is number = (refl, number, is)

later-told : (room : ℕ) (f : FollowerValue) (m : Message) (waits : Bool) → is_later (reached f) m.number ≡ true → (m.number ≡ reached f + 1 → ⊥) → Told f m (at_later room f m waits)
later-told room f m true later other = outcome-told f m (caught_up room f) (caught-risen room f) (λ stays. other)
later-told zero f m false later other = let (above, near) = is-later (reached f) m.number later in (refl, record { above = omega arith; near = near })
later-told (suc room) f m false later other = outcome-told f m (caught_up room (kept f m)) (caught-risen room (kept f m)) (λ stays. other)

by_later : (room : ℕ) (f : FollowerValue) (m : Message) (later : Bool) → (m.number ≡ reached f + 1 → ⊥) → is_later (reached f) m.number ≡ later → Told f m (given room f m)
by_later room f m true other is = subst (Told f m) (sym (given-later room f m (has_number f.window m.number) other is refl)) (later-told room f m (has_number f.window m.number) is other)
by_later room f m false other is = subst (Told f m) (sym (given-else room f m other is)) (outcome-told f m (caught_up room f) (caught-risen room f) (λ stays. other))

by_next : (room : ℕ) (f : FollowerValue) (m : Message) (next : Bool) → eqb m.number (reached f + 1) ≡ next → Told f m (given room f m)
by_next room f m true is =
    let number = eqb-true m.number (reached f + 1) is in
    subst (Told f m) (sym (given-next room f m number)) (next-told room f m (refusal_at f m.edits) refl number)
by_next room f m false is = by_later room f m (is_later (reached f) m.number) (eqb-false m.number (reached f + 1) is) refl

given-told : (room : ℕ) (f : FollowerValue) (m : Message) → Told f m (given room f m)
given-told room f m = by_next room f m (eqb m.number (reached f + 1)) refl

-- what was returned tells
pub delivered-told : (room : ℕ) (f : FollowerValue) (m : Message) (new : FollowerValue) (answer : Delivered) → given room f m ≡ record { follower = new; answer = answer } → Tells f m answer new
delivered-told room f m new answer is = subst (Told f m) is (given-told room f m)
