-- A release that was reached, and the one after the batch that follows it.
use Rattle.std.proofs.Common.{◌≡◌, ℕ, ◌+◌, ◌<◌, ◌≤◌, List, [], ◌∷◌, length, take, refl, sym, ap, ◌∙◌, subst, arith}
use Rattle.std.specs.Prelude.{Some, fold}
use Rattle.tb_base.specs.Rules.{RulesValue}
use Rattle.tb_model.specs.Releases.{ReleaseValue}
use Rattle.tb_pages.specs.declared.register.Register.{Register}
use Rattle.tb_pages.specs.declared.stock.Stock.{Stock}
use Rattle.tb_release.specs.declared.edits.Edit.{Edit}
use Rattle.tb_release.specs.declared.limits.TheConstants.{MOST_CHANGES, MOST_RELEASES}
use Rattle.tb_release.specs.declared.replaying.Reached.{Reached}
use Rattle.tb_release.specs.Releases.{IsKept, IsShared, registered, stocked}
use Rattle.tb_release.specs.Edits.{edited_rules}
use Rattle.tb_release.specs.Batches.{BatchValue, Follows, batch_length}
use Rattle.tb_release.specs.Chains.{after_batch, change_count}
use Rattle.tb_release.specs.Replays.{CanReplay, IsLed, IsReached, IsReachedFrom, release_reached}
use Rattle.tb_release.specs.Revised.{release_at}
use Rattle.tb_release.proofs.Chained.{length-batch_of, same_limit}
use Rattle.tb_release.proofs.Edited.{same_release}
use Rattle.tb_release.proofs.Replayed.{few_changes}
use Rattle.tb_release.proofs.RevisedChains.{StandsAt, count_le}
use Rattle.tb_release.proofs.Runs.{placed_there, stock_of}

-- ---- the edits of the rules
pub none_left : (rules : RulesValue) (edits : List Edit) → length edits ≡ 0 → rules ≡ fold edited_rules rules edits
none_left rules [] none = refl
none_left rules (e ∷ es) none = absurd (omega arith)

-- ---- at first
pub reached_first : (release : ReleaseValue) (reached : Reached) → IsShared release reached.register → reached.most ≡ release.most → reached.number ≡ release.number → reached.changes ≡ release.changes
    → reached.edits ≡ release.edits → reached.rules ≡ release.rules → release.edits ≤ MOST_CHANGES → IsReachedFrom release reached
reached_first release reached shared most number changes edits rules few =
    let same : release_reached reached ≡ release = same_release refl refl refl most number changes edits rules ∙ sym shared.same in record {
      same = same;
      whole = record {
        shared = subst (λ (r : ReleaseValue). IsShared r reached.register) (sym same) shared;
        few = omega (arith, edits, few);
      };
    }

-- ---- a batch that follows
-- numbers stay small
pub record Counts (reached : Reached) (batch : BatchValue) : Type 0 where
  pub number : reached.number < MOST_RELEASES
  pub changes : reached.changes + length batch.changes ≤ MOST_CHANGES
  pub edits : reached.edits + (length batch.changes + length batch.rule_edits) ≤ MOST_CHANGES

pub counts : (reached : Reached) (batch : BatchValue) → IsReached reached → Follows (release_reached reached) batch → Counts reached batch
counts reached batch is follows =
    let long : length batch.changes + length batch.rule_edits ≡ length follows.edits = ap batch_length follows.theirs ∙ length-batch_of (release_reached reached) follows.edits in record {
      number = follows.can.releases;
      changes = few_changes (release_reached reached) batch follows is.shared.fewer;
      edits = let few = follows.can.so_far in omega (arith, long, few);
    }

-- its changes can be made
pub can_replay : (reached : Reached) (batch : BatchValue) → IsReached reached → Follows (release_reached reached) batch → CanReplay (release_reached reached) batch (reached.number + 1) reached.register
can_replay reached batch is follows = record { shared = is.shared; follows = follows; next = refl }

-- and then it led on
pub same_sum : (n : ℕ) {a b : ℕ} → a ≡ b → n + a ≡ n + b
same_sum n same = ap (λ m. n + m) same

same_registered : (register : Register) {most most' number number' changes changes' edits edits' : ℕ} {rules rules' : RulesValue} → most ≡ most' → number ≡ number' → changes ≡ changes' → edits ≡ edits' → rules ≡ rules'
    → registered register most number changes edits rules ≡ registered register most' number' changes' edits' rules'
same_registered register most number changes edits rules = same_release refl refl refl most number changes edits rules

pub led : (old new : Reached) (batch : BatchValue) → IsReached old → Follows (release_reached old) batch → IsShared (after_batch (release_reached old) batch) new.register
    → new.most ≡ old.most → new.number ≡ old.number + 1 → new.changes ≡ old.changes + length batch.changes → new.edits ≡ old.edits + (length batch.changes + length batch.rule_edits)
    → new.rules ≡ fold edited_rules old.rules batch.rule_edits → IsLed batch old new
led old new batch is follows shared most number changes edits rules =
    let leads : release_reached new ≡ after_batch (release_reached old) batch = same_registered new.register (most ∙ sym (same_limit (release_reached old) batch.changes)) number changes edits rules ∙ sym shared.same in record {
      leads = leads;
      whole = record {
        shared = subst (λ (r : ReleaseValue). IsShared r new.register) (sym leads) shared;
        few = let c = counts old batch is follows in let few = c.edits in omega (arith, edits, few);
      };
    }

-- ---- along a chain
pub follows_here : (base : ReleaseValue) (chain : List BatchValue) (i : ℕ) (batch : BatchValue) (reached : Reached) → StandsAt base chain i batch → release_reached reached ≡ release_at base chain i
    → Follows (release_reached reached) batch
follows_here base chain i batch reached at same = subst (λ (r : ReleaseValue). Follows r batch) (sym same) at.follows

pub reached_next : (base : ReleaseValue) (chain : List BatchValue) (i : ℕ) (batch : BatchValue) (old new : Reached) → StandsAt base chain i batch → release_reached old ≡ release_at base chain i
    → IsLed batch old new → release_reached new ≡ release_at base chain (i + 1)
reached_next base chain i batch old new at same led = led.leads ∙ ap (λ (r : ReleaseValue). after_batch r batch) same ∙ sym at.next

pub price_within : (base : ReleaseValue) (chain : List BatchValue) (i n : ℕ) (batch : BatchValue) (old so_far new : ℕ) → StandsAt base chain i batch → i < n
    → so_far ≡ old + change_count (take i chain) → new ≡ so_far + length batch.changes → (new ≡ old + change_count (take (i + 1) chain)) × (new ≤ old + change_count (take n chain))
price_within base chain i n batch old so_far new at below was is =
    let count = at.count in
    let low = count_le chain (i + 1) n (omega arith) in (omega (arith, count, was, is), omega (arith, count, low, was, is))

-- ---- what was reached serves as a release
kept_so : (reached : Reached) → IsReached reached → IsKept (stock_of reached.register) reached.most reached.number reached.changes reached.edits reached.rules
kept_so reached is = record {
  whole = record { placed = placed_there reached.register (Some reached.register.book) refl is.shared.whole; living = is.shared.whole.living; distinct = is.shared.whole.distinct };
  sound = is.shared.sound;
  room = is.shared.room;
  fewer = is.shared.fewer;
  few = is.few;
}

pub kept : (reached : Reached) (stock : Stock) (rules : RulesValue) → stock ≡ stock_of reached.register → rules ≡ reached.rules → IsReached reached
    → IsKept stock reached.most reached.number reached.changes reached.edits rules
kept reached stock rules is same whole =
    subst (λ (s : Stock). IsKept s reached.most reached.number reached.changes reached.edits rules) (sym is)
    (subst (λ (rs : RulesValue). IsKept (stock_of reached.register) reached.most reached.number reached.changes reached.edits rs) (sym same) (kept_so reached whole))

pub stocked_so : (reached : Reached) (stock : Stock) (rules : RulesValue) (release : ReleaseValue) → stock ≡ stock_of reached.register → rules ≡ reached.rules
    → release ≡ stocked stock reached.most reached.number reached.changes reached.edits rules → release ≡ release_reached reached
stocked_so reached stock rules release is same made =
    made ∙ ap (λ (s : Stock). stocked s reached.most reached.number reached.changes reached.edits rules) is ∙ ap (stocked (stock_of reached.register) reached.most reached.number reached.changes reached.edits) same
