-- All edits, from a draft's beginning to its end.
use Rattle.std.proofs.Common.{◌≡◌, ℕ, ◌+◌, ◌<◌, ◌≤◌, Bool, true, false, cond, eqb, List, [], ◌∷◌, ◌++◌, length, drop, get_or, refl, sym, ap, ◌∙◌, subst, arith, append_assoc, append-nil, length-append}
use Rattle.std.specs.Prelude.{Option, Some, None, All, slice_index, if◌then◌else◌}
use Rattle.std.specs.List.{AllByRecursion}
use Rattle.std.specs.Option.{ForSome}
use Rattle.std.proofs.lemmas.Bool.{ne_eqb, lt-leb, le-ltb, eqb-false}
use Rattle.std.proofs.lemmas.List.{drop_more, drop_all}
use Rattle.std.proofs.lemmas.List.Elements.{All-weaker, recursion_from_All, All-from_recursion}
use Rattle.tb_base.specs.declared.people.TheConstants.{MOST_PERSONS}
use Rattle.tb_base.specs.declared.records.Record.{Record}
use Rattle.tb_base.specs.Records.{Fits, AllFit}
use Rattle.tb_model.specs.Releases.{ReleaseValue}
use Rattle.tb_pages.specs.Pages.{record_of}
use Rattle.tb_pages.specs.Rooms.{AreFilledBy}
use Rattle.tb_pages.specs.declared.register.Register.{Register}
use Rattle.tb_pages.specs.declared.stock.Stock.{Stock}
use Rattle.tb_pages.specs.Books.{Book}
use Rattle.tb_pages.specs.Fillings.{ArePlaced}
use Rattle.tb_pages.specs.Registers.{IsRegister}
use Rattle.tb_release.specs.declared.draft.Draft.{Draft}
use Rattle.tb_release.specs.declared.edits.Edit.{Edit}
use Rattle.tb_release.specs.declared.edits.Edit.TheVariants.{Add, Drop, Amend, Pvalue, Threshold, Oldest}
use Rattle.tb_release.specs.declared.edits.Change.{Change}
use Rattle.tb_release.specs.declared.limits.TheConstants.{MOST_EDITS, MOST_RELEASES, MOST_CHANGES}
use Rattle.tb_release.specs.Releases.{IsKept, IsShared, IsSound, stocked}
use Rattle.tb_release.specs.Edits.{edited, edited_all, is_of_rules, person_of}
use Rattle.tb_release.specs.Possible.{refusal, first_refusal}
use Rattle.tb_release.specs.Batches.{BatchValue, Follows, batch_length, batch_of, change_of, changes_of, batch_refusal, rule_edits_of}
use Rattle.tb_release.specs.Entries.{IsEntry, changes_in, entry_of, joined, with_entry}
use Rattle.tb_release.specs.declared.edits.BatchEntry.{BatchEntry}
use Rattle.tb_release.specs.declared.edits.BatchEntry.TheVariants as entry
use Rattle.tb_release.specs.Chains.{after_batch}
use Rattle.tb_release.specs.Laws.{EditFits}
use Rattle.tb_release.specs.Results.{IsNext, ChangeFits}
use Rattle.tb_release.specs.Drafts.{AreMade, CanSet, HaveVariables, IsDraft, IsDraftOf, release_of}
use Rattle.tb_release.proofs.Chained.{can_follow, batches_lead_on, length-batch_of}
use Rattle.tb_release.proofs.Edited.{same_release}
use Rattle.tb_release.proofs.Fitting.{fit_after, stay_fitting}

-- ---- the beginning and the end of a draft
pub draft_of : (draft : Draft) (release : ReleaseValue) → IsShared release draft.register
    → draft.most ≡ release.most → draft.number ≡ release.number → draft.changes ≡ release.changes → draft.edits ≡ release.edits → draft.rules ≡ release.rules → draft.made ≡ 0
    → release.number < MOST_RELEASES → IsDraftOf release draft
draft_of draft release shared most number changes edits rules none more =
    let same : release_of draft ≡ release = same_release refl refl refl most number changes edits rules ∙ sym shared.same in record {
      whole = record {
        whole = shared.whole;
        sound = subst IsSound (sym same) shared.sound;
        room =
            let adds : MOST_PERSONS + release.changes ≡ MOST_PERSONS + (draft.changes + draft.made) = omega (arith, changes, none) in
            subst (AreFilledBy draft.register.pages) adds shared.room;
        number = omega (arith, number, more);
        fewer = let fewer = shared.fewer in omega (arith, changes, edits, fewer);
      };
      same = same;
      none = none;
    }

-- what a register has
abbrev pub stock_of : Register → Stock
stock_of register = record { pages = register.pages; book = Some register.book; living = register.living }

pub placed_there : (register : Register) (o : Option Book) → o ≡ Some register.book → IsRegister register → ForSome o (λ b. ArePlaced b register.pages)
placed_there register o is whole = λ b there. (let same : register.book ≡ b = cc in subst (λ (x : Book). ArePlaced x register.pages) same whole.placed)

pub draft_kept : (draft : Draft) (count : ℕ) (stock : Stock) → stock ≡ stock_of draft.register → IsDraft draft → draft.made ≤ count → draft.edits + count ≤ MOST_CHANGES
    → IsKept stock draft.most (draft.number + 1) (draft.changes + draft.made) (draft.edits + count) draft.rules
draft_kept draft count stock is d less few = subst (λ (s : Stock). IsKept s draft.most (draft.number + 1) (draft.changes + draft.made) (draft.edits + count) draft.rules) (sym is) (record {
  whole = record { placed = placed_there draft.register (Some draft.register.book) refl d.whole; living = d.whole.living; distinct = d.whole.distinct };
  sound = record { distinct = d.sound.distinct; in_book = d.sound.in_book; few = d.sound.few; most = d.sound.most; in_pages = d.sound.in_pages };
  room = d.room;
  fewer = let fewer = d.fewer in omega arith;
  few = few;
})

-- the next release is that of the draft
pub draft_stocked : (draft : Draft) (stock : Stock) (next : ReleaseValue) (number changes edits : ℕ) → stock ≡ stock_of draft.register → next ≡ stocked stock draft.most number changes edits draft.rules
    → next ≡ record (release_of draft) { number = number; changes = changes; edits = edits }
draft_stocked draft stock next number changes edits is same = same ∙ ap (λ s. stocked s draft.most number changes edits draft.rules) is

-- ---- the loop
pub left_at : {X : Type 0} (xs : List X) (i : ℕ) (x : X) → i < length xs → x ≡ get_or xs i x → drop i xs ≡ x ∷ drop (i + 1) xs
left_at xs i x within here = drop_more xs i x within ∙ ap (λ y. y ∷ drop (i + 1) xs) (sym here)

pub step_possible : (number : ℕ) (release next : ReleaseValue) (e : Edit) (es : List Edit) → refusal release e ≡ None → next ≡ edited release e
    → first_refusal (number + 1) next es ≡ first_refusal number release (e ∷ es)
step_possible number release next e es can is = rw (can, is) refl

-- an entry that goes last is the first of those that are left
one_change : (batch : BatchValue) (change : Change) (changes : List Change) (rest : List Edit)
    → joined (record batch { changes = batch.changes ++ change ∷ [] }) (record { changes = changes; rule_edits = rest }) ≡ joined batch (record { changes = change ∷ changes; rule_edits = rest })
one_change batch change changes rest = ap (λ (cs : List Change). record { changes = cs; rule_edits = batch.rule_edits ++ rest }) (append_assoc batch.changes (change ∷ []) changes)

one_rule : (batch : BatchValue) (e : Edit) (changes : List Change) (rest : List Edit)
    → joined (record batch { rule_edits = batch.rule_edits ++ e ∷ [] }) (record { changes = changes; rule_edits = rest }) ≡ joined batch (record { changes = changes; rule_edits = e ∷ rest })
one_rule batch e changes rest = ap (λ (es : List Edit). record { changes = batch.changes ++ changes; rule_edits = es }) (append_assoc batch.rule_edits (e ∷ []) rest)

one_entry : (batch : BatchValue) (release : ReleaseValue) (e : Edit) (es : List Edit)
    → joined (with_entry batch (entry_of release e)) (batch_of (edited release e) es) ≡ joined batch (batch_of release (e ∷ es))
one_entry batch release (Add person key codes) es = one_change batch (change_of release (Add person key codes)) (changes_of (edited release (Add person key codes)) es) (rule_edits_of es)
one_entry batch release (Drop person) es = one_change batch (change_of release (Drop person)) (changes_of (edited release (Drop person)) es) (rule_edits_of es)
one_entry batch release (Amend person sets) es = one_change batch (change_of release (Amend person sets)) (changes_of (edited release (Amend person sets)) es) (rule_edits_of es)
one_entry batch release (Pvalue row key pvalue) es = one_rule batch (Pvalue row key pvalue) (changes_of (edited release (Pvalue row key pvalue)) es) (rule_edits_of es)
one_entry batch release (Threshold value) es = one_rule batch (Threshold value) (changes_of (edited release (Threshold value)) es) (rule_edits_of es)
one_entry batch release (Oldest oldest) es = one_rule batch (Oldest oldest) (changes_of (edited release (Oldest oldest)) es) (rule_edits_of es)

pub step_batch : (batch after : BatchValue) (entry : BatchEntry) (release next : ReleaseValue) (e : Edit) (es : List Edit) → next ≡ edited release e → entry ≡ entry_of release e
    → after ≡ with_entry batch entry → joined after (batch_of next es) ≡ joined batch (batch_of release (e ∷ es))
step_batch batch after entry release next e es is made added =
    ap (λ b. joined b (batch_of next es)) added ∙ ap (λ x. joined (with_entry batch x) (batch_of next es)) made
    ∙ ap (λ r. joined (with_entry batch (entry_of release e)) (batch_of r es)) is ∙ one_entry batch release e es

-- the batch is one longer, and as much longer in changes as the entry is
pub more_entries : (batch : BatchValue) (entry : BatchEntry) → (batch_length (with_entry batch entry) ≡ batch_length batch + 1)
    × (length (with_entry batch entry).changes ≡ length batch.changes + changes_in entry)
more_entries batch (entry.Record change) =
    let long : length (batch.changes ++ change ∷ []) ≡ length batch.changes + 1 = length-append batch.changes (change ∷ []) in (omega (arith, long), long)
more_entries batch (entry.Rule e) =
    let long : length (batch.rule_edits ++ e ∷ []) ≡ length batch.rule_edits + 1 = length-append batch.rule_edits (e ∷ []) in (omega (arith, long), omega arith)

none_left : (batch : BatchValue) → joined batch (record { changes = []; rule_edits = [] }) ≡ batch
none_left batch = rw (append-nil, append-nil) refl

none_past : {X : Type 0} (xs : List X) (i : ℕ) → length xs ≤ i → drop i xs ≡ []
none_past xs i long = drop_all i xs long

-- where no edit is left the batch is that of all
pub all_made : (batch all : BatchValue) (release : ReleaseValue) (edits : List Edit) (i : ℕ) → length edits ≤ i → joined batch (batch_of release (drop i edits)) ≡ all → batch ≡ all
all_made batch all release edits i long is = sym (none_left batch) ∙ ap (λ es. joined batch (batch_of release es)) (sym (none_past edits i long)) ∙ is

-- what an entry of the rules sets is in range
pub entry_in_range : (release : ReleaseValue) (e : Edit) (entry : BatchEntry) → CanSet release e → entry ≡ entry_of release e → IsEntry entry
entry_in_range release e entry can made = subst IsEntry (sym made) (by e can)
  where
    by : (e : Edit) → CanSet release e → IsEntry (entry_of release e)
    by (Add person key codes) can = tt
    by (Drop person) can = tt
    by (Amend person sets) can = tt
    by (Pvalue row key pvalue) can = can
    by (Threshold value) can = can
    by (Oldest oldest) can = tt

pub fits_at : (shape : List ℕ) (edits : List Edit) (i : ℕ) (e : Edit) → All (EditFits shape) edits → i < length edits → e ≡ get_or edits i e → EditFits shape e
fits_at shape edits i e fits within here = subst (EditFits shape) (sym here) (fits i e within)

-- ---- settings of records that fit
found-cons : (P : Record → Type 0) (b : Bool) (x : Record) (rest : Option Record) → P x → ForSome rest P → ForSome (cond b (Some x) rest) P
found-cons P true x rest here more = λ r is. let same : x ≡ r = cc in subst P same here
found-cons P false x rest here more = more

found_fits : (P : Record → Type 0) (records : List Record) (person : ℕ) → AllByRecursion P records → ForSome (record_of records person) P
found_fits P [] person all = λ r is. cc
found_fits P (x ∷ xs) person all = found-cons P (eqb person x.person) x (record_of xs person) all.0 (found_fits P xs person all.1)

have_variables : (shape : List ℕ) (sets : List (ℕ × ℕ)) (r : Record) → AllByRecursion (λ (s : ℕ × ℕ). (s.0 < length shape) × (s.1 < slice_index shape s.0)) sets → Fits shape r → HaveVariables sets r.codes
have_variables shape [] r inside fits = tt
have_variables shape (s ∷ ss) r inside fits =
    let below = inside.0.0 in
    let long = fits.long in (omega arith, have_variables shape ss r inside.1 fits)

pub can_set : (shape : List ℕ) (release : ReleaseValue) (e : Edit) → AllFit shape release.records → EditFits shape e → CanSet release e
can_set shape release (Add person key codes) fit fits = tt
can_set shape release (Drop person) fit fits = tt
can_set shape release (Amend person sets) fit fits =
    found_fits (λ r. HaveVariables sets r.codes) release.records person
    (recursion_from_All (λ r. HaveVariables sets r.codes) release.records (All-weaker (Fits shape) (λ r. HaveVariables sets r.codes) (λ r. have_variables shape sets r fits) release.records fit))
can_set shape release (Pvalue row key pvalue) fit fits = fits
can_set shape release (Threshold value) fit fits = fits
can_set shape release (Oldest oldest) fit fits = tt

-- ---- the changes fit
change_fits : (shape : List ℕ) (release : ReleaseValue) (e : Edit) → AllFit shape release.records → EditFits shape e → ChangeFits shape (change_of release e)
change_fits shape release e fit fits = (
  found_fits (Fits shape) release.records (person_of e) (recursion_from_All (Fits shape) release.records fit),
  found_fits (Fits shape) (edited release e).records (person_of e) (recursion_from_All (Fits shape) (edited release e).records (fit_after shape release e fit fits)),
)

fit_one : (b : Bool) (P : Change → Type 0) (change : Change) (changes : List Change) → P change → AllByRecursion P changes → AllByRecursion P (if b then changes else change ∷ changes)
fit_one true P change changes one rest = rest
fit_one false P change changes one rest = (one, rest)

changes_fit : (shape : List ℕ) (release : ReleaseValue) (edits : List Edit) → AllFit shape release.records → AllByRecursion (EditFits shape) edits → AllByRecursion (ChangeFits shape) (changes_of release edits)
changes_fit shape release [] fit fits = tt
changes_fit shape release (e ∷ es) fit fits =
    fit_one (is_of_rules e) (ChangeFits shape) (change_of release e) (changes_of (edited release e) es) (change_fits shape release e fit fits.0)
    (changes_fit shape (edited release e) es (fit_after shape release e fit fits.0) fits.1)

-- ---- the end
same_number : (release : ReleaseValue) (edits : List Edit) → (edited_all release edits).number ≡ release.number
same_number release [] = refl
same_number release (e ∷ es) = same_number (edited release e) es

same_changes : (release : ReleaseValue) (edits : List Edit) → (edited_all release edits).changes ≡ release.changes
same_changes release [] = refl
same_changes release (e ∷ es) = same_changes (edited release e) es

same_edits : (release : ReleaseValue) (edits : List Edit) → (edited_all release edits).edits ≡ release.edits
same_edits release [] = refl
same_edits release (e ∷ es) = same_edits (edited release e) es

pub some_edits : (edits : List Edit) → eqb (length edits) 0 ≡ false → 0 < length edits
some_edits edits e = let apart = eqb-false (length edits) 0 e in omega arith

none_refused : (release : ReleaseValue) (edits : List Edit) → 0 < length edits → release.number < MOST_RELEASES → release.edits + length edits ≤ MOST_CHANGES
    → first_refusal 1 release edits ≡ None → batch_refusal release edits ≡ None
none_refused release edits some number changes possible =
    let apart : length edits ≡ 0 → ⊥ = λ e. omega arith in
    rw (ne_eqb (length edits) 0 apart, lt-leb MOST_RELEASES release.number number, le-ltb MOST_CHANGES (release.edits + length edits) changes) possible

-- the last draft still has the first one's number, changes and edits
pub last_counts : (old : ReleaseValue) (edits : List Edit) (first last : Draft) (batch : BatchValue) → release_of first ≡ old → AreMade edits first last batch
    → (last.number ≡ old.number) × (last.changes ≡ old.changes) × (last.edits ≡ old.edits)
last_counts old edits first last batch is_old all =
    let last_is : release_of last ≡ edited_all old edits = all.leaves ∙ ap (λ r. edited_all r edits) is_old in (
      ap (λ (r : ReleaseValue). r.number) last_is ∙ same_number old edits,
      ap (λ (r : ReleaseValue). r.changes) last_is ∙ same_changes old edits,
      ap (λ (r : ReleaseValue). r.edits) last_is ∙ same_edits old edits,
    )

-- there are no more changes than edits
pub fewer_changes : (edits : List Edit) (first last : Draft) (batch : BatchValue) → AreMade edits first last batch → first.made ≡ 0 → last.made ≤ length edits
fewer_changes edits first last batch all none =
    let long : length batch.changes + length batch.rule_edits ≡ length edits = ap batch_length all.makes ∙ length-batch_of (release_of first) edits in
    omega (arith, all.count, none, long)

pub is_next : (old next : ReleaseValue) (edits : List Edit) (first last : Draft) (batch : BatchValue) → release_of first ≡ old → AreMade edits first last batch → first.made ≡ 0
    → 0 < length edits → length edits ≤ MOST_EDITS → old.number < MOST_RELEASES → old.edits + length edits ≤ MOST_CHANGES
    → next ≡ record (release_of last) { number = last.number + 1; changes = last.changes + last.made; edits = last.edits + length edits } → IsNext old edits next batch
is_next old next edits first last batch is_old all none some few number room is =
    let last_is : release_of last ≡ edited_all old edits = all.leaves ∙ ap (λ r. edited_all r edits) is_old in
    let counts = last_counts old edits first last batch is_old all in
    let is_batch : batch ≡ batch_of old edits = all.makes ∙ ap (λ r. batch_of r edits) is_old in
    let many : length batch.changes ≡ length (changes_of old edits) = ap (λ (b : BatchValue). length b.changes) is_batch in
    let made : last.made ≡ length (changes_of old edits) = omega (arith, all.count, none, many) in record {
      can = can_follow old edits few (none_refused old edits some number room (ap (λ r. first_refusal 1 r edits) (sym is_old) ∙ all.possible));
      release =
          is ∙ rw (counts.0, counts.1, counts.2, made)
          (ap (λ (r : ReleaseValue). record r { number = old.number + 1; changes = old.changes + length (changes_of old edits); edits = old.edits + length edits }) last_is);
      batch_is = is_batch;
    }

-- ---- what else is so of the next release and its batch
pub next_follows : (old next : ReleaseValue) (edits : List Edit) (batch : BatchValue) → IsNext old edits next batch → Follows old batch
next_follows old next edits batch is = record { edits = edits; can = is.can; theirs = is.batch_is }

pub next_leads : (old next : ReleaseValue) (edits : List Edit) (batch : BatchValue) → IsSound old → IsNext old edits next batch → next ≡ after_batch old batch
next_leads old next edits batch sound is =
    is.release ∙ sym (batches_lead_on old edits sound is.can.possible) ∙ ap (after_batch old) (sym is.batch_is)

pub next_fits : (shape : List ℕ) (old next : ReleaseValue) (edits : List Edit) (batch : BatchValue) → AllFit shape old.records → All (EditFits shape) edits → IsNext old edits next batch → AllFit shape next.records
next_fits shape old next edits batch fit fits is =
    let records : next.records ≡ (edited_all old edits).records = ap (λ (r : ReleaseValue). r.records) is.release in
    subst (AllFit shape) (sym records) (stay_fitting shape old edits fit (recursion_from_All (EditFits shape) edits fits))

pub batch_fits : (shape : List ℕ) (old next : ReleaseValue) (edits : List Edit) (batch : BatchValue) → AllFit shape old.records → All (EditFits shape) edits → IsNext old edits next batch
    → All (ChangeFits shape) batch.changes
batch_fits shape old next edits batch fit fits is =
    subst (λ (b : BatchValue). All (ChangeFits shape) b.changes) (sym is.batch_is)
    (All-from_recursion (ChangeFits shape) (changes_of old edits) (changes_fit shape old edits fit (recursion_from_All (EditFits shape) edits fits)))
