-- Batches of edits, and chains.
use Rattle.std.proofs.Common.{◌≡◌, ℕ, suc, ◌+◌, ◌≤◌, Bool, true, false, cond, eqb, leb, ltb, List, [], ◌∷◌, ◌++◌, length, refl, sym, ap, subst, ◌∙◌, arith}
use Rattle.std.specs.Prelude.{Option, Some, None, fold, if◌then◌else◌, ◌||◌, ◌↔◌}
use Rattle.std.specs.Option.{option_map_or}
use Rattle.std.proofs.lemmas.Bool.{leb-false, lt-leb, ltb-false, le-ltb, eqb-false, ne_eqb}
use Rattle.std.proofs.lemmas.List.Sums.{sum_by-cons}
use Rattle.tb_base.specs.Rules.{RulesValue}
use Rattle.tb_model.specs.Releases.{ReleaseValue}
use Rattle.tb_release.specs.declared.edits.Change.{Change}
use Rattle.tb_release.specs.declared.edits.Edit.{Edit}
use Rattle.tb_release.specs.declared.edits.Edit.TheVariants.{Add, Drop, Amend, Pvalue, Threshold, Oldest}
use Rattle.tb_release.specs.declared.fault.EditFaultKind.{EditFaultKind}
use Rattle.tb_release.specs.declared.fault.EditFaultKind.TheVariants as kind
use Rattle.tb_release.specs.declared.limits.TheConstants.{MOST_EDITS, MOST_RELEASES, MOST_CHANGES}
use Rattle.tb_release.specs.Releases.{IsSound}
use Rattle.tb_release.specs.Edits.{edited, edited_all, edited_rules, is_of_rules}
use Rattle.tb_release.specs.Possible.{ArePossible, refusal, first_refusal}
use Rattle.tb_release.specs.Batches.{BatchValue, CanFollow, Follows, batch_of, batch_length, batch_refusal, change_of, changes_of, next_release, rule_edits_of}
use Rattle.tb_release.specs.Chains.{changed, after_batch, release_after, change_count, edit_count, IsChain}
use Rattle.tb_release.specs.Laws.{KeepsKeys, ChainFacts}
use Rattle.tb_release.proofs.Edited.{possible_of, none_of, sound_after, key_stays, changed-change_of, oldest_rises, rules_stay}

-- ---- edits are possible exactly where there is no refusal
both_none : (number : ℕ) (o : Option EditFaultKind) (rest : Option (EditFaultKind × ℕ)) → option_map_or (λ why. Some (why, number)) o rest ≡ None → (o ≡ None) × (rest ≡ None)
both_none number None rest none = (refl, none)
both_none number (Some why) rest none = cc

all_possible : (number : ℕ) (release : ReleaseValue) (edits : List Edit) → first_refusal number release edits ≡ None → ArePossible release edits
all_possible number release [] none = tt
all_possible number release (e ∷ es) none =
    let h = both_none number (refusal release e) (first_refusal (number + 1) (edited release e) es) none in
    (possible_of release e h.0, all_possible (number + 1) (edited release e) es h.1)

none_refused : (number : ℕ) (release : ReleaseValue) (edits : List Edit) → ArePossible release edits → first_refusal number release edits ≡ None
none_refused number release [] can = refl
none_refused number release (e ∷ es) can = rw (none_of release e can.0) (none_refused (number + 1) (edited release e) es can.1)

batch_parts : (a b c : Bool) (rest : Option (EditFaultKind × ℕ)) → (if a then Some (kind.Nothing, 0) else if b || c then Some (kind.TooMany, 0) else rest) ≡ None
    → (a ≡ false) × (b ≡ false) × (c ≡ false) × (rest ≡ None)
batch_parts true b c rest none = cc
batch_parts false true c rest none = cc
batch_parts false false true rest none = cc
batch_parts false false false rest none = (refl, refl, refl, none)

pub can_follow : (release : ReleaseValue) (edits : List Edit) → length edits ≤ MOST_EDITS → batch_refusal release edits ≡ None → CanFollow release edits
can_follow release edits few none =
    let h = batch_parts (eqb (length edits) 0) (leb MOST_RELEASES release.number) (ltb MOST_CHANGES (release.edits + length edits)) (first_refusal 1 release edits) none in
    let apart = eqb-false (length edits) 0 h.0 in record {
      some = omega arith;
      few = few;
      releases = leb-false MOST_RELEASES release.number h.1;
      so_far = ltb-false MOST_CHANGES (release.edits + length edits) h.2;
      possible = all_possible 1 release edits h.3;
    }

no_refusal : (release : ReleaseValue) (edits : List Edit) → CanFollow release edits → batch_refusal release edits ≡ None
no_refusal release edits can =
    let some = can.some in
    rw (ne_eqb (length edits) 0 (λ e. omega (arith, some, e)), lt-leb MOST_RELEASES release.number can.releases, le-ltb MOST_CHANGES (release.edits + length edits) can.so_far) (none_refused 1 release edits can.possible)

pub can_follow_unless_refused : (release : ReleaseValue) (edits : List Edit) → length edits ≤ MOST_EDITS → (batch_refusal release edits ≡ None) ↔ CanFollow release edits
can_follow_unless_refused release edits few = (can_follow release edits few, no_refusal release edits)

-- the edits of the rules among some, where the first is one, and where it isn't
filter-true : (e : Edit) (es : List Edit) → is_of_rules e ≡ true → rule_edits_of (e ∷ es) ≡ e ∷ rule_edits_of es
filter-true e es of = ap (λ (b : Bool). cond b (e ∷ rule_edits_of es) (rule_edits_of es)) of

filter-false : (e : Edit) (es : List Edit) → is_of_rules e ≡ false → rule_edits_of (e ∷ es) ≡ rule_edits_of es
filter-false e es of = ap (λ (b : Bool). cond b (e ∷ rule_edits_of es) (rule_edits_of es)) of

-- ---- possible edits
pub stay_sound : (release : ReleaseValue) (edits : List Edit) → ArePossible release edits → IsSound release → IsSound (edited_all release edits)
stay_sound release [] can s = s
stay_sound release (e ∷ es) can s = stay_sound (edited release e) es can.1 (sound_after release e can.0 s)

pub keys_stay : (release : ReleaseValue) (edits : List Edit) → ArePossible release edits → KeepsKeys release.key_book (edited_all release edits).key_book
keys_stay release [] can q k is = is
keys_stay release (e ∷ es) can q k is = keys_stay (edited release e) es can.1 q k (key_stays release e can.0 q k is)

-- changes leave the rules, whatever they are
pub with_rules : (release : ReleaseValue) (rules : RulesValue) (changes : List Change)
    → fold changed (record release { rules = rules }) changes ≡ record (fold changed release changes) { rules = rules }
with_rules release rules [] = refl
with_rules release rules (c ∷ cs) = with_rules (changed release c) rules cs

-- an edit of the rules leaves all else
rules_alone : (release : ReleaseValue) (e : Edit) → is_of_rules e ≡ true → release ≡ record (edited release e) { rules = release.rules }
rules_alone release (Add person key codes) of = cc
rules_alone release (Drop person) of = cc
rules_alone release (Amend person sets) of = cc
rules_alone release (Pvalue row key pvalue) of = refl
rules_alone release (Threshold value) of = refl
rules_alone release (Oldest oldest) of = refl

-- the changes of an edit and of those after it
pub changes_of-rule : (release : ReleaseValue) (e : Edit) (es : List Edit) → is_of_rules e ≡ true → changes_of release (e ∷ es) ≡ changes_of (edited release e) es
changes_of-rule release e es of = ap (λ (b : Bool). if b then changes_of (edited release e) es else change_of release e ∷ changes_of (edited release e) es) of

pub changes_of-record : (release : ReleaseValue) (e : Edit) (es : List Edit) → is_of_rules e ≡ false
    → changes_of release (e ∷ es) ≡ change_of release e ∷ changes_of (edited release e) es
changes_of-record release e es of = ap (λ (b : Bool). if b then changes_of (edited release e) es else change_of release e ∷ changes_of (edited release e) es) of

fold-changes : (release : ReleaseValue) (edits : List Edit) → IsSound release → ArePossible release edits
    → fold changed release (changes_of release edits) ≡ record (edited_all release edits) { rules = release.rules }
fold-changes release [] s can = refl
fold-changes release (e ∷ es) s can = by (is_of_rules e) refl (fold-changes (edited release e) es (sound_after release e can.0 s) can.1)
  where
    by : (b : Bool) → is_of_rules e ≡ b → fold changed (edited release e) (changes_of (edited release e) es) ≡ record (edited_all (edited release e) es) { rules = (edited release e).rules }
        → fold changed release (changes_of release (e ∷ es)) ≡ record (edited_all release (e ∷ es)) { rules = release.rules }
    by true of rest =
        ap (fold changed release) (changes_of-rule release e es of)
        ∙ ap (λ r. fold changed r (changes_of (edited release e) es)) (rules_alone release e of)
        ∙ with_rules (edited release e) release.rules (changes_of (edited release e) es)
        ∙ ap (λ (r : ReleaseValue). record r { rules = release.rules }) rest
    by false of rest =
        ap (fold changed release) (changes_of-record release e es of)
        ∙ ap (λ r. fold changed r (changes_of (edited release e) es)) (changed-change_of release e of s.distinct can.0)
        ∙ rest ∙ ap (λ x. record (edited_all (edited release e) es) { rules = x }) (rules_stay release.rules e of)

-- the rules after edits are those after the edits of the rules among them
pub rules_after : (release : ReleaseValue) (edits : List Edit) → fold edited_rules release.rules (rule_edits_of edits) ≡ (edited_all release edits).rules
rules_after release [] = refl
rules_after release (e ∷ es) = by (is_of_rules e) refl (rules_after (edited release e) es)
  where
    by : (b : Bool) → is_of_rules e ≡ b → fold edited_rules (edited_rules release.rules e) (rule_edits_of es) ≡ (edited_all (edited release e) es).rules
        → fold edited_rules release.rules (rule_edits_of (e ∷ es)) ≡ (edited_all release (e ∷ es)).rules
    by true of rest = ap (fold edited_rules release.rules) (filter-true e es of) ∙ rest
    by false of rest = ap (fold edited_rules release.rules) (filter-false e es of) ∙ ap (λ x. fold edited_rules x (rule_edits_of es)) (sym (rules_stay release.rules e of)) ∙ rest

pub length-batch_of : (release : ReleaseValue) (edits : List Edit) → batch_length (batch_of release edits) ≡ length edits
length-batch_of release [] = refl
length-batch_of release (e ∷ es) = by (is_of_rules e) refl (length-batch_of (edited release e) es)
  where
    by : (b : Bool) → is_of_rules e ≡ b → length (changes_of (edited release e) es) + length (rule_edits_of es) ≡ length es
        → length (changes_of release (e ∷ es)) + length (rule_edits_of (e ∷ es)) ≡ suc (length es)
    by true of rest =
        let a = ap length (changes_of-rule release e es of) in
        let b = ap length (filter-true e es of) in omega (arith, a, b, rest)
    by false of rest =
        let a = ap length (changes_of-record release e es of) in
        let b = ap length (filter-false e es of) in omega (arith, a, b, rest)

pub batches_lead_on : (release : ReleaseValue) (edits : List Edit) → IsSound release → ArePossible release edits
    → after_batch release (batch_of release edits) ≡ next_release release edits
batches_lead_on release edits s can =
    ap (λ (r : ReleaseValue). record r {
      number = release.number + 1;
      changes = release.changes + length (changes_of release edits);
      edits = release.edits + batch_length (batch_of release edits);
      rules = fold edited_rules release.rules (rule_edits_of edits);
    }) (fold-changes release edits s can)
    ∙ ap (λ n. record (edited_all release edits) {
      number = release.number + 1;
      changes = release.changes + length (changes_of release edits);
      edits = release.edits + n;
      rules = fold edited_rules release.rules (rule_edits_of edits);
    }) (length-batch_of release edits)
    ∙ ap (λ x. record (edited_all release edits) {
      number = release.number + 1;
      changes = release.changes + length (changes_of release edits);
      edits = release.edits + length edits;
      rules = x;
    }) (rules_after release edits)

-- and show no release again that was taken back
pub oldest_stays : (release : ReleaseValue) (edits : List Edit) → ArePossible release edits → release.rules.oldest ≤ (edited_all release edits).rules.oldest
oldest_stays release [] can = omega arith
oldest_stays release (e ∷ es) can = omega (arith, oldest_rises release e can.0, oldest_stays (edited release e) es can.1)

-- ---- chains
-- changes leave the limit
pub same_limit : (release : ReleaseValue) (changes : List Change) → (fold changed release changes).most ≡ release.most
same_limit release [] = refl
same_limit release (c ∷ cs) = same_limit (changed release c) cs

after_follows : (release : ReleaseValue) (batch : BatchValue) (f : Follows release batch) → IsSound release → after_batch release batch ≡ next_release release f.edits
after_follows release batch f s =
    ap (after_batch release) f.theirs ∙ batches_lead_on release f.edits s f.can.possible

next_sound : (release : ReleaseValue) (edits : List Edit) → ArePossible release edits → IsSound release → IsSound (next_release release edits)
next_sound release edits can s =
    let h = stay_sound release edits can s in record { distinct = h.distinct; in_book = h.in_book; few = h.few; most = h.most; in_pages = h.in_pages }

pub chains_hold : (release : ReleaseValue) (chain : List BatchValue) → IsSound release → IsChain release chain → ChainFacts release chain
chains_hold release [] s is = record { sound = s; keys = λ q k at. at; most = refl; oldest = omega arith; number = omega arith; changes = omega arith; edits = omega arith }
chains_hold release (batch ∷ chain) s is =
    let next = after_follows release batch is.0 s in
    let sound : IsSound (after_batch release batch) = subst IsSound (sym next) (next_sound release is.0.edits is.0.can.possible s) in
    let keys : KeepsKeys release.key_book (after_batch release batch).key_book =
    subst (λ (r : ReleaseValue). KeepsKeys release.key_book r.key_book) (sym next) (keys_stay release is.0.edits is.0.can.possible) in
    let shown : release.rules.oldest ≤ (after_batch release batch).rules.oldest =
    subst (λ (r : ReleaseValue). release.rules.oldest ≤ r.rules.oldest) (sym next) (oldest_stays release is.0.edits is.0.can.possible) in
    let rest = chains_hold (after_batch release batch) chain sound is.1 in record {
      sound = rest.sound;
      keys = λ q k at. rest.keys q k (keys q k at);
      most = rest.most ∙ same_limit release batch.changes;
      oldest = omega (arith, shown, rest.oldest);
      number = let number = rest.number in omega arith;
      changes = let more : change_count (batch ∷ chain) ≡ length batch.changes + change_count chain = sum_by-cons (λ (b : BatchValue). length b.changes) batch chain in
          let changes = rest.changes in omega arith;
      edits = let more : edit_count (batch ∷ chain) ≡ batch_length batch + edit_count chain = sum_by-cons batch_length batch chain in
          let edits = rest.edits in omega arith;
    }

pub chains_go_on : (release : ReleaseValue) (chain : List BatchValue) (batch : BatchValue) → IsChain release chain → Follows (release_after release chain) batch → IsChain release (chain ++ batch ∷ [])
chains_go_on release [] batch is follows = (follows, tt)
chains_go_on release (one ∷ chain) batch is follows = (is.0, chains_go_on (after_batch release one) chain batch is.1 follows)

pub chains_split : (release : ReleaseValue) (first rest : List BatchValue) → IsChain release (first ++ rest) → IsChain release first × IsChain (release_after release first) rest
chains_split release [] rest is = (tt, is)
chains_split release (one ∷ first) rest is =
    let h = chains_split (after_batch release one) first rest is.1 in ((is.0, h.0), h.1)
