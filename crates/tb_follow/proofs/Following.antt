-- What is true of every follower still is after a step, and of a chain that is kept.
use Rattle.std.proofs.Common.{◌≡◌, ℕ, ◌+◌, ◌<◌, ◌≤◌, Bool, true, false, leb, List, [], ◌∷◌, ◌++◌, length, refl, sym, ap, subst, ◌∙◌, arith}
use Rattle.std.specs.Prelude.{Option, Some, not, if◌then◌else◌}
use Rattle.std.specs.List.{AllByRecursion}
use Rattle.std.proofs.lemmas.Bool.{eqb-false, leb-false, leb-true}
use Rattle.tb_base.specs.Records.{AllFit}
use Rattle.tb_model.specs.Releases.{ReleaseValue}
use Rattle.tb_release.specs.declared.edits.Edit.{Edit}
use Rattle.tb_release.specs.Batches.{BatchValue, CanFollow, batch_of}
use Rattle.tb_release.specs.Chains.{after_batch, release_after}
use Rattle.tb_release.specs.Results.{IsNext}
use Rattle.tb_release.proofs.Chained.{can_follow_unless_refused}
use Rattle.tb_follow.specs.Chains.{Applies, ChainValue, extended, number_at, release_at}
use Rattle.tb_follow.specs.Deliveries.{advanced, dropped, is_later, kept, next_number}
use Rattle.tb_follow.specs.Followers.{FollowerValue, IsFollower}
use Rattle.tb_follow.specs.Messages.{MessageFits}
use Rattle.tb_follow.specs.OwnChains.{IsKept}
use Rattle.tb_follow.specs.Windows.{MayWait, found, has, has_number, without}
use Rattle.tb_follow.specs.declared.limits.TheConstants.{MOST_AHEAD}
use Rattle.tb_follow.specs.declared.message.Message.{Message}
use Rattle.tb_follow.proofs.Waiting.{found-holds, left-distinct, left-holds, more-distinct, more-holds}

-- ---- the messages that wait
length-more : {X : Type 0} (xs : List X) (y : X) → length (xs ++ y ∷ []) ≡ length xs + 1
length-more [] y = refl
length-more (x ∷ xs) y = let h = length-more xs y in omega arith

pub number-extended : (chain : ChainValue) (edits : List Edit) → number_at (extended chain edits) ≡ number_at chain + 1
number-extended chain edits = length-more chain.batches (batch_of (release_at chain) edits)

-- a message that may wait, and isn't the next one, may wait at the next release too
may-still : (n : ℕ) (m : Message) → has (n + 1) m ≡ false → MayWait n m → MayWait (n + 1) m
may-still n m other may =
    let apart = eqb-false m.number (n + 1) other in
    let above = may.above in
    let near = may.near in record { above = omega (arith, apart); near = omega arith }

still-cons : (n : ℕ) (b : Bool) (m : Message) (rest : List Message) → has (n + 1) m ≡ b → MayWait n m → AllByRecursion (MayWait (n + 1)) rest
    → AllByRecursion (MayWait (n + 1)) (if not b then m ∷ rest else rest)
still-cons n true m rest is may all = all
still-cons n false m rest is may all = (may-still n m is may, all)

still-ahead : (n : ℕ) (ms : List Message) → AllByRecursion (MayWait n) ms → AllByRecursion (MayWait (n + 1)) (without (n + 1) ms)
still-ahead n [] all = tt
still-ahead n (m ∷ ms) all = still-cons n (has (n + 1) m) m (without (n + 1) ms) refl all.0 (still-ahead n ms all.1)

-- ---- steps of a follower
pub follower-dropped : (f : FollowerValue) → IsFollower f → IsFollower (dropped f)
follower-dropped f is = record {
  fits = left-holds (MessageFits f.chain.shape) (next_number f) f.window is.fits;
  ahead = left-holds (MayWait (number_at f.chain)) (next_number f) f.window is.ahead;
  distinct = left-distinct (next_number f) f.window is.distinct;
}

pub follower-advanced : (f : FollowerValue) (edits : List Edit) → IsFollower f → IsFollower (advanced f edits)
follower-advanced f edits is = record {
  fits = left-holds (MessageFits f.chain.shape) (next_number f) f.window is.fits;
  ahead =
      subst (λ n. AllByRecursion (MayWait n) (without (next_number f) f.window)) (sym (number-extended f.chain edits))
      (still-ahead (number_at f.chain) f.window is.ahead);
  distinct = left-distinct (next_number f) f.window is.distinct;
}

later-may : (n k : ℕ) (next : Bool) → leb k (n + 1) ≡ next → (if next then false else leb k (n + MOST_AHEAD)) ≡ true → (n + 1 < k) × (k ≤ n + MOST_AHEAD)
later-may n k true is later = cc
later-may n k false is later = (leb-false k (n + 1) is, leb-true k (n + MOST_AHEAD) later)

pub is-later : (n k : ℕ) → is_later n k ≡ true → (n + 1 < k) × (k ≤ n + MOST_AHEAD)
is-later n k later = later-may n k (leb k (n + 1)) refl later

pub follower-kept : (f : FollowerValue) (m : Message) → IsFollower f → MessageFits f.chain.shape m → is_later (number_at f.chain) m.number ≡ true → has_number f.window m.number ≡ false
    → IsFollower (kept f m)
follower-kept f m is fits later new =
    let (above, near) = is-later (number_at f.chain) m.number later in record {
      fits = more-holds (MessageFits f.chain.shape) f.window m is.fits fits;
      ahead = more-holds (MayWait (number_at f.chain)) f.window m is.ahead (record { above = omega (arith, above); near = near });
      distinct = more-distinct f.window m is.distinct new;
    }

-- what the window has of a number fits
pub found-fits : (f : FollowerValue) (number : ℕ) (m : Message) → IsFollower f → found number f.window ≡ Some m → MessageFits f.chain.shape m
found-fits f number m is there = found-holds (MessageFits f.chain.shape) number f.window m is.fits there

-- ---- a chain that is kept
release-more : (base : ReleaseValue) (batches : List BatchValue) (batch : BatchValue) → release_after base (batches ++ batch ∷ []) ≡ after_batch (release_after base batches) batch
release-more base [] batch = refl
release-more base (one ∷ batches) batch = release-more (after_batch base one) batches batch

-- the batch of some edits is the next of a chain
pub applied : (old : ChainValue) (release next : ReleaseValue) (edits : List Edit) (batch : BatchValue) (new : List BatchValue) → release ≡ release_at old → IsNext release edits next batch
    → new ≡ old.batches ++ batch ∷ [] → Applies old edits (record old { batches = new })
applied old release next edits batch new at is more = record {
  possible = (can_follow_unless_refused (release_at old) edits is.can.few).1 (subst (λ r. CanFollow r edits) at is.can);
  chain = ap (λ bs. record old { batches = bs }) (more ∙ ap (λ b. old.batches ++ b ∷ []) (is.batch_is ∙ ap (λ r. batch_of r edits) at));
}

pub kept-applied : (old : ChainValue) (ahead : Option ReleaseValue) (release next : ReleaseValue) (edits : List Edit) (batch : BatchValue) (new : List BatchValue) → IsKept old ahead
    → release ≡ release_at old → IsNext release edits next batch → next ≡ after_batch release batch → AllFit old.shape next.records → new ≡ old.batches ++ batch ∷ []
    → IsKept (record old { batches = new }) (Some next)
kept-applied old ahead release next edits batch new kept at is leads fit more =
    let there : next ≡ release_after old.base new = leads ∙ ap (λ r. after_batch r batch) at ∙ sym (ap (release_after old.base) more ∙ release-more old.base old.batches batch) in
    let one_more : length new ≡ number_at old + 1 = ap length more ∙ length-more old.batches batch in
    let number : next.number ≡ release.number + 1 = ap (λ (r : ReleaseValue). r.number) is.release in
    let before : release.number ≡ number_at old = ap (λ (r : ReleaseValue). r.number) at ∙ kept.number in
    let few = is.can.releases in record {
      first = kept.first;
      leads = there;
      number = ap (λ (r : ReleaseValue). r.number) (sym there) ∙ number ∙ ap (λ n. n + 1) before ∙ sym one_more;
      few = omega arith;
      base_fit = kept.base_fit;
      fit = subst (λ (r : ReleaseValue). AllFit old.shape r.records) there fit;
    }
