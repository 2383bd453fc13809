-- A leader and its follower through every list of events.
use Rattle.std.proofs.Common.{◌≡◌, ℕ, zero, suc, ◌+◌, Bool, true, false, cond, List, [], ◌∷◌, ◌++◌, length, take, refl, sym, ap, subst, ◌∙◌, arith}
use Rattle.std.specs.Prelude.{Option, Some, None, All, is_none, slice_get, ◌&&◌, nat_le}
use Rattle.std.specs.Option.{option_map_or}
use Rattle.std.specs.List.{AllByRecursion}
use Rattle.std.proofs.lemmas.Bool.{leb-true}
use Rattle.std.proofs.lemmas.List.{take-append-le}
use Rattle.tb_model.specs.Releases.{ReleaseValue}
use Rattle.tb_release.specs.declared.edits.Edit.{Edit}
use Rattle.tb_release.specs.declared.fault.EditFaultKind.{EditFaultKind}
use Rattle.tb_release.specs.declared.limits.TheConstants.{MOST_EDITS}
use Rattle.tb_release.specs.Batches.{CanFollow, batch_of, batch_refusal}
use Rattle.tb_release.specs.Chains.{IsChain, release_after}
use Rattle.tb_release.specs.Fitting.{edits_fit}
use Rattle.tb_release.specs.Laws.{EditFits}
use Rattle.tb_release.proofs.Chained.{can_follow}
use Rattle.tb_release.proofs.FitTests.{fit_is_told}
use Rattle.tb_follow.specs.declared.message.Message.{Message}
use Rattle.tb_follow.specs.Chains.{number_at}
use Rattle.tb_follow.specs.Deliveries.{given}
use Rattle.tb_follow.specs.Followers.{FollowerValue, IsFollower, at_base}
use Rattle.tb_follow.specs.Laws.{Trails}
use Rattle.tb_follow.specs.Leading.{CanLead, IsLed, IsOwn, IsUnrefused, chain_of, release_by}
use Rattle.tb_follow.specs.Worlds.{Event, World, came, can_publish, happens, leaders_release, message_at, run_of, start}
use Rattle.tb_follow.specs.Worlds.Event.{Publish, Comes, Restart}
use Rattle.tb_follow.proofs.Keeping.{given-follower, given-stays}
use Rattle.tb_follow.proofs.Led.{messages_lead}

-- ---- the chain of a leader's lists
chain-follows : (base : ReleaseValue) (lists : List (List Edit)) → CanLead base lists → IsChain base (chain_of base lists)
chain-follows base [] can = tt
chain-follows base (edits ∷ lists) can = (record { edits = edits; can = can.0; theirs = refl }, chain-follows (release_by base edits) lists can.1)

chain-length : (base : ReleaseValue) (lists : List (List Edit)) → length (chain_of base lists) ≡ length lists
chain-length base [] = refl
chain-length base (edits ∷ lists) = ap suc (chain-length (release_by base edits) lists)

chain-more : (base : ReleaseValue) (lists : List (List Edit)) (edits : List Edit)
    → chain_of base (lists ++ edits ∷ []) ≡ chain_of base lists ++ batch_of (release_after base (chain_of base lists)) edits ∷ []
chain-more base [] edits = refl
chain-more base (one ∷ lists) edits = ap (λ bs. batch_of base one ∷ bs) (chain-more (release_by base one) lists edits)

-- ---- the leader publishes
lead-more : (base : ReleaseValue) (lists : List (List Edit)) (edits : List Edit) → CanLead base lists → CanFollow (release_after base (chain_of base lists)) edits → CanLead base (lists ++ edits ∷ [])
lead-more base [] edits can follows = (follows, tt)
lead-more base (one ∷ lists) edits can follows = (can.0, lead-more (release_by base one) lists edits can.1 follows)

there-still : {X : Type 0} (xs : List X) (y x : X) (n : ℕ) → slice_get xs n ≡ Some x → slice_get (xs ++ y ∷ []) n ≡ Some x
there-still [] y x n is = cc
there-still (z ∷ xs) y x zero is = is
there-still (z ∷ xs) y x (suc n) is = there-still xs y x n is

own-still : (lists : List (List Edit)) (edits : List Edit) (m : Message) → IsOwn lists m → IsOwn (lists ++ edits ∷ []) m
own-still lists edits m own = record { place = own.place; number = own.number; edits = there-still lists edits m.edits own.place own.edits }

all-weaker : {X : Type 0} (P Q : X → Type 0) → ((x : X) → P x → Q x) → (xs : List X) → AllByRecursion P xs → AllByRecursion Q xs
all-weaker P Q w [] all = tt
all-weaker P Q w (x ∷ xs) all = (w x all.0, all-weaker P Q w xs all.1)

all-more : {X : Type 0} (P : X → Type 0) (xs : List X) (y : X) → AllByRecursion P xs → P y → AllByRecursion P (xs ++ y ∷ [])
all-more P [] y all here = (here, tt)
all-more P (x ∷ xs) y all here = (all.0, all-more P xs y all.1 here)

all-there : {X : Type 0} (P : X → Type 0) (xs : List X) (n : ℕ) (x : X) → AllByRecursion P xs → slice_get xs n ≡ Some x → P x
all-there P [] n x all is = cc
all-there P (y ∷ xs) zero x all is = let same : y ≡ x = cc in subst P same all.0
all-there P (y ∷ xs) (suc n) x all is = all-there P xs n x all.1 is

length-more : {X : Type 0} (xs : List X) (y : X) → length (xs ++ y ∷ []) ≡ length xs + 1
length-more [] y = refl
length-more (x ∷ xs) y = let h = length-more xs y in omega arith

led-still : (lists : List (List Edit)) (edits : List Edit) (f : FollowerValue) → IsLed lists f → IsLed (lists ++ edits ∷ []) f
led-still lists edits f led =
    let base = f.chain.base in
    let n = number_at f.chain in
    let whole = chain-length base lists in
    let within = led.within in record {
      within = let more = length-more lists edits in omega arith;
      batches =
          led.batches ∙ sym (take-append-le n (chain_of base lists) (batch_of (release_after base (chain_of base lists)) edits ∷ []) (omega arith))
          ∙ ap (take n) (sym (chain-more base lists edits));
      window = all-weaker (IsOwn lists) (IsOwn (lists ++ edits ∷ [])) (own-still lists edits) f.window led.window;
    }

pub at-base-led : (lists : List (List Edit)) (shape : List ℕ) (base : ReleaseValue) → IsLed lists (at_base shape base)
at-base-led lists shape base = record { within = omega arith; batches = refl; window = tt }

at-base-follower : (shape : List ℕ) (base : ReleaseValue) → IsFollower (at_base shape base)
at-base-follower shape base = record { fits = tt; ahead = tt; distinct = tt }

-- ---- what each event keeps
record Holds (shape : List ℕ) (base : ReleaseValue) (w : World) : Type 0 where
  stays : (w.follower.chain.shape ≡ shape) × (w.follower.chain.base ≡ base)
  can : CanLead base w.led
  fit : AllByRecursion (All (EditFits shape)) w.led
  led : IsLed w.led w.follower
  waiting : IsFollower w.follower
  unrefused : AllByRecursion IsUnrefused w.answers

all_true : (a b c : Bool) → a && b && c ≡ true → (a ≡ true) × (b ≡ true) × (c ≡ true)
all_true true true c h = (refl, refl, h)
all_true true false c h = cc
all_true false b c h = cc

no_refusal : (o : Option (EditFaultKind × ℕ)) → is_none o ≡ true → o ≡ None
no_refusal None h = refl
no_refusal (Some why) h = cc

publish-by : (shape : List ℕ) (base : ReleaseValue) (w : World) (edits : List Edit) (b : Bool) → can_publish w.follower.chain.shape (leaders_release w) edits ≡ b → Holds shape base w
    → Holds shape base (cond b (record w { led = w.led ++ edits ∷ [] }) w)
publish-by shape base w edits false is h = h
publish-by shape base w edits true is h =
    let release = leaders_release w in
    let (shape_is, base_is) = h.stays in
    let (fit, possible, few) = all_true (edits_fit w.follower.chain.shape edits) (is_none (batch_refusal release edits)) (nat_le (length edits) MOST_EDITS) is in
    let fits : All (EditFits shape) edits = (fit_is_told shape edits).0 (subst (λ s. edits_fit s edits ≡ true) shape_is fit) in
    let follows : CanFollow release edits = can_follow release edits (leb-true (length edits) MOST_EDITS few) (no_refusal (batch_refusal release edits) possible) in record {
      stays = h.stays;
      can = lead-more base w.led edits h.can (subst (λ r. CanFollow (release_after r (chain_of r w.led)) edits) base_is follows);
      fit = all-more (All (EditFits shape)) w.led edits h.fit fits;
      led = led-still w.led edits w.follower h.led;
      waiting = h.waiting;
      unrefused = h.unrefused;
    }

come : (shape : List ℕ) (base : ReleaseValue) (w : World) (room place : ℕ) (edits : List Edit) → slice_get w.led place ≡ Some edits → Holds shape base w
    → Holds shape base (came w room (message_at place edits))
come shape base w room place edits there h =
    let m = message_at place edits in
    let (shape_is, base_is) = h.stays in
    let fits : All (EditFits shape) edits = all-there (All (EditFits shape)) w.led place edits h.fit there in
    let good = messages_lead w.led room w.follower m (subst (λ r. CanLead r w.led) (sym base_is) h.can) h.led (record { place = place; number = refl; edits = there }) in record {
      stays = given-stays shape base room w.follower m h.stays;
      can = h.can;
      fit = h.fit;
      led = good.0;
      waiting = given-follower room w.follower m h.waiting (subst (λ s. All (EditFits s) edits) (sym shape_is) fits);
      unrefused = all-more IsUnrefused w.answers (given room w.follower m).answer h.unrefused good.1;
    }

come-by : (shape : List ℕ) (base : ReleaseValue) (w : World) (room place : ℕ) (o : Option (List Edit)) → slice_get w.led place ≡ o → Holds shape base w
    → Holds shape base (option_map_or (λ edits. came w room (message_at place edits)) o w)
come-by shape base w room place None is h = h
come-by shape base w room place (Some edits) is h = come shape base w room place edits is h

event : (shape : List ℕ) (base : ReleaseValue) (w : World) (e : Event) → Holds shape base w → Holds shape base (happens w e)
event shape base w (Publish edits) h = publish-by shape base w edits (can_publish w.follower.chain.shape (leaders_release w) edits) refl h
event shape base w (Comes place room) h = come-by shape base w room place (slice_get w.led place) refl h
event shape base w Restart h = record {
  stays = h.stays;
  can = h.can;
  fit = h.fit;
  led = at-base-led w.led w.follower.chain.shape w.follower.chain.base;
  waiting = at-base-follower w.follower.chain.shape w.follower.chain.base;
  unrefused = h.unrefused;
}

all_events : (shape : List ℕ) (base : ReleaseValue) (w : World) (es : List Event) → Holds shape base w → Holds shape base (run_of w es)
all_events shape base w [] h = h
all_events shape base w (e ∷ es) h = all_events shape base (happens w e) es (event shape base w e h)

-- ---- what that says of the chain
trails : (shape : List ℕ) (base : ReleaseValue) (w : World) → Holds shape base w → Trails shape base w
trails shape base w h =
    let n = number_at w.follower.chain in
    let batches = subst (λ r. w.follower.chain.batches ≡ take n (chain_of r w.led)) h.stays.1 h.led.batches in record {
      chain = chain-follows base w.led h.can;
      fit = h.fit;
      as_many = chain-length base w.led;
      within = h.led.within;
      batches = batches;
      release = ap (λ r. release_after r w.follower.chain.batches) h.stays.1 ∙ ap (release_after base) batches;
      window = h.led.window;
      waiting = h.waiting;
      unrefused = h.unrefused;
    }

pub followers_trail : (shape : List ℕ) (base : ReleaseValue) (events : List Event) → Trails shape base (run_of (start shape base) events)
followers_trail shape base events =
    trails shape base (run_of (start shape base) events) (all_events shape base (start shape base) events (record {
      stays = (refl, refl);
      can = tt;
      fit = tt;
      led = at-base-led [] shape base;
      waiting = at-base-follower shape base;
      unrefused = tt;
    }))
