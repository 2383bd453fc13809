-- A register that is led on by the changes of a batch.
use Rattle.std.proofs.Common.{◌≡◌, ℕ, ◌+◌, ◌<◌, ◌≤◌, Bool, true, false, List, [], ◌∷◌, ◌++◌, length, take, drop, get_or, refl, sym, ap, ◌∙◌, subst, arith}
use Rattle.std.specs.Prelude.{Option, Some, None, fold}
use Rattle.tb_base.specs.declared.people.TheConstants.{MOST_PERSONS}
use Rattle.tb_base.specs.declared.records.Record.{Record}
use Rattle.tb_base.specs.Persons.{has_person}
use Rattle.tb_model.specs.Pages.{PageValue, records_in}
use Rattle.tb_base.specs.Rules.{RulesValue}
use Rattle.tb_model.specs.Releases.{ReleaseValue}
use Rattle.tb_pages.specs.Books.{keys_in}
use Rattle.tb_pages.specs.Pages.{changed_pages, record_of}
use Rattle.tb_pages.specs.Registers.{IsRegister}
use Rattle.tb_pages.specs.Rooms.{AreFilledBy}
use Rattle.tb_pages.specs.declared.pages.TheConstants.{PAGES}
use Rattle.tb_pages.specs.declared.register.Register.{Register}
use Rattle.tb_pages.proofs.RoomLemmas.{few_pages, filled_changed}
use Rattle.tb_release.specs.declared.edits.Change.{Change}
use Rattle.tb_release.specs.declared.edits.Edit.{Edit}
use Rattle.tb_release.specs.declared.edits.Edit.TheVariants.{Add, Drop, Amend, Pvalue, Threshold, Oldest}
use Rattle.tb_release.specs.declared.limits.TheConstants.{MOST_CHANGES}
use Rattle.tb_release.specs.Releases.{IsShared, IsSound, registered}
use Rattle.tb_release.specs.Edits.{amended, edited, edited_rules, is_of_rules, person_of}
use Rattle.tb_release.specs.Possible.{ArePossible, IsPossible}
use Rattle.tb_release.specs.Batches.{BatchValue, Follows, batch_length, batch_of, change_of, changes_of}
use Rattle.tb_release.specs.Chains.{after_batch, changed}
use Rattle.tb_release.specs.Replays.{CanChange, CanReplay, IsChanged}
use Rattle.tb_release.proofs.Persons.{found, none_found, stands}
use Rattle.tb_release.proofs.Edited.{change_of-add, change_of-amend, change_of-drop, changed-change_of, records_in-changed, same_release, sound_after}
use Rattle.tb_release.proofs.Chained.{changes_of-record, length-batch_of, same_limit, with_rules}
use Rattle.tb_release.proofs.FewRecords.{room_for_one}
use Rattle.tb_release.proofs.Runs.{left_at}

-- ---- whose record stands there
has_if : (b : Bool) (person : ℕ) (records : List Record) (r : Record) → has_person records person ≡ b → record_of records person ≡ Some r → has_person records person ≡ true
has_if true person records r is found = is
has_if false person records r is found = let none = none_found person records is in cc

pub has_found : (person : ℕ) (records : List Record) (r : Record) → record_of records person ≡ Some r → has_person records person ≡ true
has_found person records r found = has_if (has_person records person) person records r refl found

pub there_replaced : (person : ℕ) (before after : Option Record) (old new : Record) (register : Register) → before ≡ Some old → after ≡ Some new
    → CanChange person before after register → has_person (records_in register.pages) new.person ≡ true
there_replaced person before after old new register is_before is_after can =
    let both : CanChange person (Some old) (Some new) register =
    subst (λ (o : Option Record). CanChange person (Some old) o register) is_after (subst (λ (o : Option Record). CanChange person o after register) is_before can) in
    subst (λ (q : ℕ). has_person (records_in register.pages) q ≡ true) (sym both.0) (has_found person (records_in register.pages) old both.1)

pub there_taken : (person : ℕ) (before after : Option Record) (old : Record) (register : Register) → before ≡ Some old → after ≡ None
    → CanChange person before after register → has_person (records_in register.pages) person ≡ true
there_taken person before after old register is_before is_after can =
    let both : CanChange person (Some old) None register =
    subst (λ (o : Option Record). CanChange person (Some old) o register) is_after (subst (λ (o : Option Record). CanChange person o after register) is_before can) in
    has_found person (records_in register.pages) old both

-- ---- the change of an edit that is possible can be made
can_edit : (release : ReleaseValue) (edit : Edit) (register : Register) → is_of_rules edit ≡ false → IsSound release → IsPossible release edit → release.records ≡ records_in register.pages → length register.pages < PAGES
    → CanChange (change_of release edit).person (change_of release edit).before (change_of release edit).after register
can_edit release (Add person key codes) register of sound can same room =
    subst (λ (c : Change). CanChange c.person c.before c.after register) (sym (change_of-add release person key codes can.new)) (record {
      own = refl;
      none = subst (λ (rs : List Record). has_person rs person ≡ false) same can.new;
      few = subst (λ (rs : List Record). length rs < MOST_PERSONS) same (room_for_one release person key sound can);
      room = room;
    })
can_edit release (Drop person) register of sound can same room =
    let r = found person release.records can in
    subst (λ (c : Change). CanChange c.person c.before c.after register) (sym (change_of-drop release person r.0 sound.distinct r.1))
    (subst (λ (rs : List Record). record_of rs person ≡ Some r.0) same r.1)
can_edit release (Amend person sets) register of sound can same room =
    let r = found person release.records can in
    let s = stands person release.records r.0 sound.distinct r.1 in
    subst (λ (c : Change). CanChange c.person c.before c.after register) (sym (change_of-amend release person sets r.0 sound.distinct r.1))
    (sym s.own, subst (λ (rs : List Record). record_of rs person ≡ Some r.0) same r.1)
can_edit release (Pvalue row key pvalue) register of sound can same room = cc
can_edit release (Threshold value) register of sound can same room = cc
can_edit release (Oldest oldest) register of sound can same room = cc

-- a change leads from a register's release to another's, whatever the rules are
led_by : (old new : Register) (most number changes edits stamp : ℕ) (rules : RulesValue) (change : Change) → stamp ≡ number + 1 → IsChanged stamp change old new
    → changed (registered old most number changes edits rules) change ≡ registered new most number changes edits rules
led_by old new most number changes edits stamp rules change next is =
    let pages : new.pages ≡ changed_pages (number + 1) old.pages change.person change.before change.after =
    is.pages ∙ ap (λ n. changed_pages n old.pages change.person change.before change.after) next in
    same_release (sym (records_in-changed (number + 1) old.pages change.person change.before change.after) ∙ ap records_in (sym pages)) (sym pages) (sym is.keys) refl refl refl refl refl

-- ---- some changes of a batch were made, and these are left
-- the release so far has the rules that the batch's edits so far leave; the register knows of none
pub record IsHalfway (release : ReleaseValue) (batch : BatchValue) (rest : List Change) (register : Register) : Type 0 where
  pub now : ReleaseValue
  pub edits : List Edit
  pub sound : IsSound now
  pub possible : ArePossible now edits
  pub theirs : rest ≡ changes_of now edits
  pub same : now ≡ registered register release.most release.number release.changes release.edits now.rules
  pub whole : IsRegister register
  pub made : ℕ
  pub all : made + length rest ≡ length batch.changes
  pub room : AreFilledBy register.pages (MOST_PERSONS + (release.changes + made))
  pub leads : record (fold changed now rest) { rules = release.rules } ≡ fold changed release batch.changes

rules_kept : (release : ReleaseValue) (changes : List Change) → record (fold changed release changes) { rules = release.rules } ≡ fold changed release changes
rules_kept release changes = sym (with_rules release release.rules changes)

pub begins : (release : ReleaseValue) (batch : BatchValue) (stamp : ℕ) (register : Register) → CanReplay release batch stamp register → IsHalfway release batch batch.changes register
begins release batch stamp register can = record {
  now = release;
  edits = can.follows.edits;
  sound = can.shared.sound;
  possible = can.follows.can.possible;
  theirs = ap (λ (b : BatchValue). b.changes) can.follows.theirs;
  same = can.shared.same;
  whole = can.shared.whole;
  made = 0;
  all = omega arith;
  room = subst (λ n. AreFilledBy register.pages (MOST_PERSONS + n)) (let e : release.changes ≡ release.changes + 0 = omega arith in e) can.shared.room;
  leads = rules_kept release batch.changes;
}

-- a batch has no more changes than there may be
pub few_changes : (release : ReleaseValue) (batch : BatchValue) → Follows release batch → release.changes ≤ release.edits → release.changes + length batch.changes ≤ MOST_CHANGES
few_changes release batch follows fewer =
    let long : length batch.changes + length batch.rule_edits ≡ length follows.edits = ap batch_length follows.theirs ∙ length-batch_of release follows.edits in
    let few = follows.can.so_far in omega (arith, long, few, fewer)

-- of changes that are left there is a first one
firsts : (change : Change) (more : List Change) (now : ReleaseValue) (edit : Edit) (edits : List Edit) → is_of_rules edit ≡ false → change ∷ more ≡ changes_of now (edit ∷ edits)
    → (change ≡ change_of now edit) × (more ≡ changes_of (edited now edit) edits)
firsts change more now edit edits of theirs =
    let both : change ∷ more ≡ change_of now edit ∷ changes_of (edited now edit) edits = theirs ∙ changes_of-record now edit edits of in (cc, cc)

one_less : (made : ℕ) (change : Change) (more : List Change) (n : ℕ) → made + length (change ∷ more) ≡ n → (made + 1 + length more ≡ n) × (made ≤ n)
one_less made change more n all = (omega arith, omega arith)

page_there : (pages : List PageValue) (n : ℕ) → AreFilledBy pages (MOST_PERSONS + n) → n ≤ MOST_CHANGES → length pages < PAGES
page_there pages n room few = few_pages pages (MOST_PERSONS + n) room (omega arith)

one_more_page : (stamp : ℕ) (change : Change) (old new : Register) (changes made : ℕ) → IsChanged stamp change old new → AreFilledBy old.pages (MOST_PERSONS + (changes + made))
    → AreFilledBy new.pages (MOST_PERSONS + (changes + (made + 1)))
one_more_page stamp change old new changes made is room =
    let adds : (p : ℕ) → p + (changes + made) + 1 ≡ p + (changes + (made + 1)) = λ p. omega arith in
    subst (AreFilledBy new.pages) (adds MOST_PERSONS)
    (subst (λ (ps : List PageValue). AreFilledBy ps (MOST_PERSONS + (changes + made) + 1)) (sym is.pages)
    (filled_changed stamp old.pages change.person change.before change.after (MOST_PERSONS + (changes + made)) room))

-- the first of the changes that are left can be made, and then the others are left
pub record Step (release : ReleaseValue) (batch : BatchValue) (stamp : ℕ) (change : Change) (more : List Change) (register : Register) : Type 0 where
  pub can : CanChange change.person change.before change.after register
  pub goes : (new : Register) → IsChanged stamp change register new → IsHalfway release batch more new

can_first : (change : Change) (now : ReleaseValue) (edit : Edit) (register : Register) → is_of_rules edit ≡ false → change ≡ change_of now edit → IsSound now → IsPossible now edit
    → now.records ≡ records_in register.pages → length register.pages < PAGES → CanChange change.person change.before change.after register
can_first change now edit register of this sound possible records few =
    subst (λ (c : Change). CanChange c.person c.before c.after register) (sym this) (can_edit now edit register of sound possible records few)

led_first : (change : Change) (now : ReleaseValue) (edit : Edit) → is_of_rules edit ≡ false → change ≡ change_of now edit → IsSound now → IsPossible now edit → changed now change ≡ edited now edit
led_first change now edit of this sound possible = ap (changed now) this ∙ changed-change_of now edit of sound.distinct possible

-- where the first edit that is left is of a record
step_record : (release : ReleaseValue) (batch : BatchValue) (stamp : ℕ) (change : Change) (more : List Change) (register : Register) (now : ReleaseValue) (edit : Edit) (edits : List Edit) (made : ℕ)
    → is_of_rules edit ≡ false → stamp ≡ release.number + 1 → release.changes + length batch.changes ≤ MOST_CHANGES
    → IsSound now → ArePossible now (edit ∷ edits) → change ∷ more ≡ changes_of now (edit ∷ edits) → now ≡ registered register release.most release.number release.changes release.edits now.rules
    → made + length (change ∷ more) ≡ length batch.changes → AreFilledBy register.pages (MOST_PERSONS + (release.changes + made))
    → record (fold changed now (change ∷ more)) { rules = release.rules } ≡ fold changed release batch.changes → Step release batch stamp change more register
step_record release batch stamp change more register now edit edits made of next few sound possible theirs same all room leads =
    let both = firsts change more now edit edits of theirs in
    let counts = one_less made change more (length batch.changes) all in
    let pages_few = page_there register.pages (release.changes + made) room (le_sum release.changes made (length batch.changes) MOST_CHANGES counts.1 few) in
    let records : now.records ≡ records_in register.pages = ap (λ (r : ReleaseValue). r.records) same in
    let led = led_first change now edit of both.0 sound possible.0 in
    let rules : now.rules ≡ (edited now edit).rules = ap (λ (r : ReleaseValue). r.rules) led in record {
      can = can_first change now edit register of both.0 sound possible.0 records pages_few;
      goes = λ new is. record {
        now = edited now edit;
        edits = edits;
        sound = sound_after now edit possible.0 sound;
        possible = possible.1;
        theirs = both.1;
        same =
            sym led ∙ ap (λ (r : ReleaseValue). changed r change) same ∙ led_by register new release.most release.number release.changes release.edits stamp now.rules change next is
            ∙ ap (registered new release.most release.number release.changes release.edits) rules;
        whole = is.whole;
        made = made + 1;
        all = counts.0;
        room = one_more_page stamp change register new release.changes made is room;
        leads = ap (λ r. record (fold changed r more) { rules = release.rules }) (sym led) ∙ leads;
      };
    }
  where
    le_sum : (a b n most : ℕ) → b ≤ n → a + n ≤ most → a + b ≤ most
    le_sum a b n most low few = omega arith

-- other rules leave the same
leads_ruled : (release now : ReleaseValue) (batch : BatchValue) (rules : RulesValue) (rest : List Change) → record (fold changed now rest) { rules = release.rules } ≡ fold changed release batch.changes
    → record (fold changed (record now { rules = rules }) rest) { rules = release.rules } ≡ fold changed release batch.changes
leads_ruled release now batch rules rest leads = ap (λ (r : ReleaseValue). record r { rules = release.rules }) (with_rules now rules rest) ∙ leads

same_ruled : (release now : ReleaseValue) (register : Register) (rules : RulesValue) → now ≡ registered register release.most release.number release.changes release.edits now.rules
    → record now { rules = rules } ≡ registered register release.most release.number release.changes release.edits rules
same_ruled release now register rules same = ap (λ (r : ReleaseValue). record r { rules = rules }) same

-- edits of the rules before it are passed over
step_of : (release : ReleaseValue) (batch : BatchValue) (stamp : ℕ) (change : Change) (more : List Change) (register : Register) (now : ReleaseValue) (edits : List Edit) (made : ℕ)
    → stamp ≡ release.number + 1 → release.changes + length batch.changes ≤ MOST_CHANGES
    → IsSound now → ArePossible now edits → change ∷ more ≡ changes_of now edits → now ≡ registered register release.most release.number release.changes release.edits now.rules
    → made + length (change ∷ more) ≡ length batch.changes → AreFilledBy register.pages (MOST_PERSONS + (release.changes + made))
    → record (fold changed now (change ∷ more)) { rules = release.rules } ≡ fold changed release batch.changes → Step release batch stamp change more register
step_of release batch stamp change more register now [] made next few sound possible theirs same all room leads = nothing_left change more now theirs
  where
    nothing_left : (change : Change) (more : List Change) (now : ReleaseValue) → change ∷ more ≡ changes_of now [] → Step release batch stamp change more register
    nothing_left change more now theirs = cc
step_of release batch stamp change more register now (Add person key codes ∷ edits) made next few sound possible theirs same all room leads =
    step_record release batch stamp change more register now (Add person key codes) edits made refl next few sound possible theirs same all room leads
step_of release batch stamp change more register now (Drop person ∷ edits) made next few sound possible theirs same all room leads =
    step_record release batch stamp change more register now (Drop person) edits made refl next few sound possible theirs same all room leads
step_of release batch stamp change more register now (Amend person sets ∷ edits) made next few sound possible theirs same all room leads =
    step_record release batch stamp change more register now (Amend person sets) edits made refl next few sound possible theirs same all room leads
step_of release batch stamp change more register now (Pvalue row key pvalue ∷ edits) made next few sound possible theirs same all room leads =
    let rules : RulesValue = edited_rules now.rules (Pvalue row key pvalue) in
    step_of release batch stamp change more register (edited now (Pvalue row key pvalue)) edits made next few (sound_after now (Pvalue row key pvalue) possible.0 sound) possible.1 theirs
    (same_ruled release now register rules same) all room (leads_ruled release now batch rules (change ∷ more) leads)
step_of release batch stamp change more register now (Threshold value ∷ edits) made next few sound possible theirs same all room leads =
    let rules : RulesValue = edited_rules now.rules (Threshold value) in
    step_of release batch stamp change more register (edited now (Threshold value)) edits made next few (sound_after now (Threshold value) possible.0 sound) possible.1 theirs
    (same_ruled release now register rules same) all room (leads_ruled release now batch rules (change ∷ more) leads)
step_of release batch stamp change more register now (Oldest oldest ∷ edits) made next few sound possible theirs same all room leads =
    let rules : RulesValue = edited_rules now.rules (Oldest oldest) in
    step_of release batch stamp change more register (edited now (Oldest oldest)) edits made next few (sound_after now (Oldest oldest) possible.0 sound) possible.1 theirs
    (same_ruled release now register rules same) all room (leads_ruled release now batch rules (change ∷ more) leads)

-- the step at a place of the batch, whose changes stand in a list
pub step : (release : ReleaseValue) (batch : BatchValue) (stamp : ℕ) (list : List Change) (i : ℕ) (change : Change) (first register : Register)
    → CanReplay release batch stamp first → list ≡ batch.changes → i < length list → change ≡ get_or list i change
    → IsHalfway release batch (drop i batch.changes) register → Step release batch stamp change (drop (i + 1) batch.changes) register
step release batch stamp list i change first register can same below is way =
    let within : i < length batch.changes = subst (λ (cs : List Change). i < length cs) same below in
    let here : change ≡ get_or batch.changes i change = subst (λ (cs : List Change). change ≡ get_or cs i change) same is in
    let split : drop i batch.changes ≡ change ∷ drop (i + 1) batch.changes = left_at batch.changes i change within here in
    step_of release batch stamp change (drop (i + 1) batch.changes) register way.now way.edits way.made can.next (few_changes release batch can.follows can.shared.fewer) way.sound way.possible
    (sym split ∙ way.theirs) way.same (ap (λ (cs : List Change). way.made + length cs) (sym split) ∙ way.all) way.room
    (ap (λ cs. record (fold changed way.now cs) { rules = release.rules }) (sym split) ∙ way.leads)

pub ends : (release : ReleaseValue) (batch : BatchValue) (rest : List Change) (register : Register) → IsHalfway release batch rest register → rest ≡ [] → release.changes ≤ release.edits
    → IsShared (after_batch release batch) register
ends release batch rest register way none fewer =
    let last : record way.now { rules = release.rules } ≡ fold changed release batch.changes = ap (λ cs. record (fold changed way.now cs) { rules = release.rules }) (sym none) ∙ way.leads in
    let with_old : IsSound (record way.now { rules = release.rules }) = let s = way.sound in record { distinct = s.distinct; in_book = s.in_book; few = s.few; most = s.most; in_pages = s.in_pages } in
    let sound : IsSound (fold changed release batch.changes) = subst IsSound last with_old in
    let no_more : length rest ≡ 0 = ap length none in
    let all : way.made ≡ length batch.changes = let h = way.all in omega arith in record {
      same = ap (λ (r : ReleaseValue). record r {
        number = release.number + 1;
        changes = release.changes + length batch.changes;
        edits = release.edits + batch_length batch;
        rules = fold edited_rules release.rules batch.rule_edits;
      }) (sym last ∙ same_ruled release way.now register release.rules way.same)
          ∙ ap (λ (m : ℕ). registered register m (release.number + 1) (release.changes + length batch.changes) (release.edits + batch_length batch) (fold edited_rules release.rules batch.rule_edits))
          (sym (same_limit release batch.changes));
      whole = way.whole;
      sound = record { distinct = sound.distinct; in_book = sound.in_book; few = sound.few; most = sound.most; in_pages = sound.in_pages };
      room = subst (λ n. AreFilledBy register.pages (MOST_PERSONS + (release.changes + n))) all way.room;
      fewer = omega (arith, fewer);
    }
