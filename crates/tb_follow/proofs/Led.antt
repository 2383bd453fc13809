-- A follower that is led by a leader's messages stays so.
use Rattle.std.proofs.Common.{◌≡◌, ℕ, zero, suc, ◌+◌, ◌<◌, Bool, true, false, cond, eqb, leb, ltb, List, [], ◌∷◌, ◌++◌, length, take, refl, sym, ap, subst, ◌∙◌, arith, add-one}
use Rattle.std.specs.Prelude.{Option, Some, None, slice_get}
use Rattle.std.proofs.lemmas.Bool.{eqb-true, eqb-false}
use Rattle.tb_model.specs.Releases.{ReleaseValue}
use Rattle.tb_release.specs.declared.edits.Edit.{Edit}
use Rattle.tb_release.specs.Batches.{CanFollow, batch_of}
use Rattle.tb_release.specs.Chains.{release_after}
use Rattle.tb_release.proofs.Chained.{can_follow_unless_refused}
use Rattle.tb_follow.specs.declared.limits.TheConstants.{MOST_AHEAD}
use Rattle.tb_follow.specs.declared.message.Delivered.TheVariants as delivered
use Rattle.tb_follow.specs.declared.message.Message.{Message}
use Rattle.tb_follow.specs.Chains.{number_at, release_at}
use Rattle.tb_follow.specs.Deliveries.{Outcome, advanced, at_later, at_next, caught_up, given, is_later, kept, next_number, outcome, refusal_at}
use Rattle.tb_follow.specs.Followers.{FollowerValue}
use Rattle.tb_follow.specs.Leading.{CanLead, IsLed, IsOwn, IsUnrefused, chain_of, release_by}
use Rattle.tb_follow.specs.Windows.{found, has_number}
use Rattle.tb_follow.proofs.Following.{number-extended}
use Rattle.tb_follow.proofs.Given.{given-else, given-later, given-next}
use Rattle.tb_follow.proofs.Waiting.{found-holds, found-number, left-holds, more-holds}

-- ---- a leader's lists
led-there : (lists : List (List Edit)) (n : ℕ) (edits : List Edit) → slice_get lists n ≡ Some edits → n < length lists
led-there [] n edits is = cc
led-there (x ∷ xs) zero edits is = omega arith
led-there (x ∷ xs) (suc n) edits is = let h = led-there xs n edits is in omega arith

led-follow : (base : ReleaseValue) (lists : List (List Edit)) (n : ℕ) (edits : List Edit) → CanLead base lists → slice_get lists n ≡ Some edits
    → CanFollow (release_after base (take n (chain_of base lists))) edits
led-follow base [] n edits can is = cc
led-follow base (x ∷ xs) zero edits can is = let same : x ≡ edits = cc in subst (CanFollow base) same can.0
led-follow base (x ∷ xs) (suc n) edits can is = led-follow (release_by base x) xs n edits can.1 is

led-batches : (base : ReleaseValue) (lists : List (List Edit)) (n : ℕ) (edits : List Edit) → slice_get lists n ≡ Some edits
    → take (suc n) (chain_of base lists) ≡ take n (chain_of base lists) ++ batch_of (release_after base (take n (chain_of base lists))) edits ∷ []
led-batches base [] n edits is = cc
led-batches base (x ∷ xs) zero edits is = let same : x ≡ edits = cc in ap (λ es. batch_of base es ∷ []) same
led-batches base (x ∷ xs) (suc n) edits is = ap (λ bs. batch_of base x ∷ bs) (led-batches (release_by base x) xs n edits is)

-- ---- a follower that is led
-- the leader's message of the next number follows
own-next : (lists : List (List Edit)) (f : FollowerValue) (m : Message) → IsOwn lists m → m.number ≡ next_number f → slice_get lists (number_at f.chain) ≡ Some m.edits
own-next lists f m own is =
    let number = own.number in
    let place : own.place ≡ number_at f.chain = omega arith in
    subst (λ n. slice_get lists n ≡ Some m.edits) place own.edits

next-possible : (lists : List (List Edit)) (f : FollowerValue) (edits : List Edit) → CanLead f.chain.base lists → IsLed lists f → slice_get lists (number_at f.chain) ≡ Some edits → refusal_at f edits ≡ None
next-possible lists f edits can led at =
    let follows : CanFollow (release_at f.chain) edits =
    subst (λ bs. CanFollow (release_after f.chain.base bs) edits) (sym led.batches) (led-follow f.chain.base lists (number_at f.chain) edits can at) in
    (can_follow_unless_refused (release_at f.chain) edits follows.few).1 follows

advanced-led : (lists : List (List Edit)) (f : FollowerValue) (edits : List Edit) → IsLed lists f → slice_get lists (number_at f.chain) ≡ Some edits → IsLed lists (advanced f edits)
advanced-led lists f edits led at =
    let base = f.chain.base in
    let n = number_at f.chain in
    let one = number-extended f.chain edits in record {
      within = let there = led-there lists n edits at in omega arith;
      batches =
          ap (λ bs. bs ++ batch_of (release_after base bs) edits ∷ []) led.batches ∙ sym (led-batches base lists n edits at)
          ∙ ap (λ k. take k (chain_of base lists)) (sym (one ∙ add-one n));
      window = left-holds (IsOwn lists) (next_number f) f.window led.window;
    }

caught-by : (room : ℕ) (lists : List (List Edit)) (f : FollowerValue) → CanLead f.chain.base lists → IsLed lists f
    → ((g : FollowerValue) → CanLead g.chain.base lists → IsLed lists g → IsLed lists (caught_up room g))
    → (o : Option Message) → found (next_number f) f.window ≡ o → IsLed lists (caught_up (suc room) f)
caught-by room lists f can led again None is = rw is led
caught-by room lists f can led again (Some m) is =
    let at = own-next lists f m (found-holds (IsOwn lists) (next_number f) f.window m led.window is) (found-number (next_number f) f.window m is) in
    rw (is, next-possible lists f m.edits can led at) (again (advanced f m.edits) can (advanced-led lists f m.edits led at))

caught-led : (room : ℕ) (lists : List (List Edit)) (f : FollowerValue) → CanLead f.chain.base lists → IsLed lists f → IsLed lists (caught_up room f)
caught-led zero lists f can led = led
caught-led (suc room) lists f can led = caught-by room lists f can led (λ g can' led'. caught-led room lists g can' led') (found (next_number f) f.window) refl

-- ---- a delivery
-- what a delivery leaves is led, and nothing was refused
abbrev Good : List (List Edit) → Outcome → Type 0
Good lists o = IsLed lists o.follower × IsUnrefused o.answer

answered : (a b c : Bool) (n m : ℕ) → IsUnrefused (cond a (delivered.Applied n) (cond b (delivered.Old m) (cond c (delivered.Far m) (delivered.Kept m))))
answered true b c n m = tt
answered false true c n m = tt
answered false false true n m = tt
answered false false false n m = tt

outcome-good : (lists : List (List Edit)) (m : Message) (old new : FollowerValue) → IsLed lists new → Good lists (outcome m old new)
outcome-good lists m old new led =
    let before = number_at old.chain in
    let after = number_at new.chain in
    (led, answered (ltb before after) (leb m.number before) (ltb (before + MOST_AHEAD) m.number) after before)

next-good : (room : ℕ) (lists : List (List Edit)) (f : FollowerValue) (m : Message) → CanLead f.chain.base lists → IsLed lists f → slice_get lists (number_at f.chain) ≡ Some m.edits
    → Good lists (at_next room f m None)
next-good zero lists f m can led at = (led, tt)
next-good (suc room) lists f m can led at =
    outcome-good lists m f (caught_up room (advanced f m.edits)) (caught-led room lists (advanced f m.edits) can (advanced-led lists f m.edits led at))

kept-led : (lists : List (List Edit)) (f : FollowerValue) (m : Message) → IsLed lists f → IsOwn lists m → IsLed lists (kept f m)
kept-led lists f m led own = record { within = led.within; batches = led.batches; window = more-holds (IsOwn lists) f.window m led.window own }

later-good : (room : ℕ) (lists : List (List Edit)) (f : FollowerValue) (m : Message) (waits : Bool) → CanLead f.chain.base lists → IsLed lists f → IsOwn lists m → Good lists (at_later room f m waits)
later-good room lists f m true can led own = outcome-good lists m f (caught_up room f) (caught-led room lists f can led)
later-good zero lists f m false can led own = (led, tt)
later-good (suc room) lists f m false can led own = outcome-good lists m f (caught_up room (kept f m)) (caught-led room lists (kept f m) can (kept-led lists f m led own))

by_later : (room : ℕ) (lists : List (List Edit)) (f : FollowerValue) (m : Message) (later : Bool) → (m.number ≡ next_number f → ⊥) → is_later (number_at f.chain) m.number ≡ later
    → CanLead f.chain.base lists → IsLed lists f → IsOwn lists m → Good lists (given room f m)
by_later room lists f m true other is can led own =
    subst (Good lists) (sym (given-later room f m (has_number f.window m.number) other is refl)) (later-good room lists f m (has_number f.window m.number) can led own)
by_later room lists f m false other is can led own =
    subst (Good lists) (sym (given-else room f m other is)) (outcome-good lists m f (caught_up room f) (caught-led room lists f can led))

by_next : (room : ℕ) (lists : List (List Edit)) (f : FollowerValue) (m : Message) (next : Bool) → eqb m.number (next_number f) ≡ next → CanLead f.chain.base lists → IsLed lists f → IsOwn lists m
    → Good lists (given room f m)
by_next room lists f m true is can led own =
    let number = eqb-true m.number (next_number f) is in
    let at = own-next lists f m own number in
    subst (Good lists) (sym (given-next room f m number ∙ ap (at_next room f m) (next-possible lists f m.edits can led at))) (next-good room lists f m can led at)
by_next room lists f m false is can led own =
    by_later room lists f m (is_later (number_at f.chain) m.number) (eqb-false m.number (next_number f) is) refl can led own

-- a message of the leader's is delivered
pub messages_lead : (lists : List (List Edit)) (room : ℕ) (f : FollowerValue) (m : Message) → CanLead f.chain.base lists → IsLed lists f → IsOwn lists m
    → IsLed lists (given room f m).follower × IsUnrefused (given room f m).answer
messages_lead lists room f m can led own = by_next room lists f m (eqb m.number (next_number f)) refl can led own
