-- A journal's file is recovered or refused, and in one way.
use Rattle.std.proofs.Common.{◌≡◌, ◌<◌, ◌+◌, ◌∙◌, ◌⊎◌, inl, inr, sym, ap, refl, subst, ℕ, Bool, true, false, List, [], ◌∷◌, ◌++◌, length, take, drop, map, Option, None, Some, arith, length-append}
use Rattle.std.specs.List.{AllByRecursion}
use Rattle.std.proofs.lemmas.Bool.{cases_order}
use Rattle.std.proofs.lemmas.List.{append-nil, length-map}
use Rattle.tb_journal.specs.Opening.{IsForeign, header, opened_file}
use Rattle.tb_journal.specs.Reading.{IsBad}
use Rattle.tb_journal.specs.Records.{HasGate, IsShut, end_of, is_whole, payload_at, stands_for}
use Rattle.tb_journal.proofs.Beginning.{opened-long}
use Rattle.tb_journal.proofs.Beyond.{ends-open, stands-next, stands-no-more, whole-length, whole-lies}
use Rattle.tb_model.specs.Releases.{ReleaseValue}
use Rattle.tb_model.specs.Setups.{SetupValue}
use Rattle.tb_release.specs.Batches.{CanFollow, batch_of, batch_refusal}
use Rattle.tb_release.specs.Chains.{after_batch, release_after}
use Rattle.tb_release.specs.declared.edits.Edit.{Edit}
use Rattle.tb_release.specs.declared.fault.EditFaultKind.{EditFaultKind}
use Rattle.tb_release.proofs.Chained.{can_follow_unless_refused}
use Rattle.tb_spelling.specs.Payloads.{IsPayload}
use Rattle.tb_spelling.specs.Spelling.{spelled}
use Rattle.tb_spelling.proofs.Edits.{one_only}
use Rattle.tb_keep.specs.Chains.{batches_of}
use Rattle.tb_keep.specs.JournalLaws.{IsRecoveredOrRefused}
use Rattle.tb_keep.specs.JournalRuns.{AreRecovered, ComesAfter, IsJournalFault}
use Rattle.tb_keep.specs.Playing.{CanAllFollow, DoesNotFollow, Fit, HasRecord, IsNextRecord}
use Rattle.tb_keep.specs.declared.recovery.JournalFault.{JournalFault}
use Rattle.tb_keep.specs.declared.recovery.JournalFault.TheVariants as journal_fault
use Rattle.tb_keep.proofs.Recovering.{has-record}

-- ---- lists of batches by their payloads

first-and-rest : (p q : List ℕ) (ps qs : List (List ℕ)) → p ∷ ps ≡ q ∷ qs → (p ≡ q) × (ps ≡ qs)
first-and-rest p q ps qs same = (cc, cc)

-- what stands behind as many others
same-next : (some others : List (List ℕ)) (p q : List ℕ) (ps qs : List (List ℕ)) → length some ≡ length others → some ++ p ∷ ps ≡ others ++ q ∷ qs → p ≡ q
same-next [] [] p q ps qs count same = (first-and-rest p q ps qs same).0
same-next [] (o ∷ others) p q ps qs count same = absurd (omega (arith, count))
same-next (s ∷ some) [] p q ps qs count same = absurd (omega (arith, count))
same-next (s ∷ some) (o ∷ others) p q ps qs count same = same-next some others p q ps qs (omega (arith, count)) (first-and-rest s o (some ++ p ∷ ps) (others ++ q ∷ qs) same).1

-- two of one payload are one
one-batch : (some other : List Edit) → HasRecord some → HasRecord other → spelled some ≡ spelled other → some ≡ other
one-batch some other first second same = one_only (spelled some) some other first.payload (subst (λ (l : List ℕ). IsPayload l other) (sym same) second.payload)

one-list : (some others : List (List Edit)) → AllByRecursion HasRecord some → AllByRecursion HasRecord others → map spelled some ≡ map spelled others → some ≡ others
one-list [] [] first second same = refl
one-list [] (o ∷ others) first second same = absurd cc
one-list (s ∷ some) [] first second same = absurd cc
one-list (s ∷ some) (o ∷ others) first second same =
    let both = first-and-rest (spelled s) (spelled o) (map spelled some) (map spelled others) same in
    let here = one-batch s o first.0 second.0 both.0 in
    let more = one-list some others first.1 second.1 both.1 in
    ap (λ (b : List Edit). b ∷ some) here ∙ ap (λ (bs : List (List Edit)). o ∷ bs) more

-- a payload of edits that fit and can follow a release
abbrev IsGood : SetupValue → ReleaseValue → List ℕ → Type 0
IsGood setup release p = (edits : List Edit) × (p ≡ spelled edits) × HasRecord edits × Fit setup edits × CanFollow release edits

-- among batches that can all follow it is so of the payload behind each first part
next-good : (setup : SetupValue) (release : ReleaseValue) (before all : List (List Edit)) (p : List ℕ) (more rest : List (List ℕ)) → AllByRecursion HasRecord before → AllByRecursion HasRecord all → CanAllFollow setup release all
    → map spelled all ++ rest ≡ map spelled before ++ p ∷ more → length before < length all → IsGood setup (release_after release (batches_of release before)) p
next-good setup release before [] p more rest each others follow same short = absurd (omega (arith, short))
next-good setup release [] (a ∷ all) p more rest each others (fit, can, follow) same short =
    (a, sym (first-and-rest (spelled a) p (map spelled all ++ rest) more same).0, others.0, fit, can)
next-good setup release (b ∷ before) (a ∷ all) p more rest each others (fit, can, follow) same short =
    let both = first-and-rest (spelled a) (spelled b) (map spelled all ++ rest) (map spelled before ++ p ∷ more) same in
    let is : a ≡ b = one-batch a b others.0 each.0 both.0 in
    next-good setup (after_batch release (batch_of release b)) before all p more rest each.1 others.1
    (subst (λ (x : List Edit). CanAllFollow setup (after_batch release (batch_of release x)) all) is follow) both.1 (omega (arith, short))

-- edits aren't refused and not
refused-and-not : (refusal : Option (EditFaultKind × ℕ)) (kind : EditFaultKind) (edit : ℕ) → refusal ≡ None → refusal ≡ Some (kind, edit) → ⊥
refused-and-not refusal kind edit none some = cc

-- ---- where a file's batches stop

module _ (setup : SetupValue) (base : ReleaseValue) (file : List ℕ) where
  -- a file stops behind these batches: it stands for no more, and no shut gate is behind them; or its next payload is no good one
  abbrev IsStop : List (List Edit) → Type 0
  IsStop batches =
      ((stands_for file ≡ map spelled batches) × (IsShut (end_of file) → ⊥))
      ⊎ ((p : List ℕ) × (more : List (List ℕ)) × (stands_for file ≡ map spelled batches ++ p ∷ more) × (IsGood setup (release_after base (batches_of base batches)) p → ⊥))

  -- no more batches stand there that can all follow
  no-further : (before all : List (List Edit)) (rest : List (List ℕ)) → AllByRecursion HasRecord before → IsStop before → AllByRecursion HasRecord all → CanAllFollow setup base all
      → stands_for file ≡ map spelled all ++ rest → length before < length all → ⊥
  no-further before all rest each (inl (same, ajar)) others follow stands more =
      omega (arith, more, ap length (sym stands ∙ same), length-append (map spelled all) rest, length-map all spelled, length-map before spelled)
  no-further before all rest each (inr (p, further, same, bad)) others follow stands more =
      bad (next-good setup base before all p further rest each others follow (sym stands ∙ same) more)

  -- what it stands for there
  stands-so : (batches : List (List Edit)) → IsStop batches → (rest : List (List ℕ)) × (stands_for file ≡ map spelled batches ++ rest)
  stands-so batches (inl (same, ajar)) = ([], same ∙ sym (append-nil (map spelled batches)))
  stands-so batches (inr (p, further, same, bad)) = (p ∷ further, same)

  module _ (some other : List (List Edit)) (first : IsStop some) (second : IsStop other) (each : AllByRecursion HasRecord some) (others : AllByRecursion HasRecord other)
      (follow : CanAllFollow setup base some) (follows : CanAllFollow setup base other) where
    -- so it stops behind one number of them
    one-count : length some ≡ length other
    one-count = elim (cases_order (length some) (length other)) [
      | inl same ↦ same
      | inr (inl less) ↦ let (rest, stands) = stands-so other second in absurd (no-further some other rest each first others follows stands less)
      | inr (inr more) ↦ let (rest, stands) = stands-so some first in absurd (no-further other some rest others second each follow stands more)
    ]

  -- ---- the two ways
  module _ (batches : List (List Edit)) (place r : ℕ) (comes : ComesAfter setup base batches file place r) where
    abbrev bytes : List ℕ
    bytes = drop place file

    abbrev release : ReleaseValue
    release = release_after base (batches_of base batches)

    gate : HasGate file place
    gate = comes.behind.gate

    -- a whole record that is none has the payload of no record
    unread : IsBad bytes → is_whole bytes ≡ true → (edits : List Edit) → payload_at bytes ≡ spelled edits → HasRecord edits → ⊥
    unread bad whole edits is there = elim bad.bad [
      | inl short ↦ absurd (omega (arith, short, whole-lies bytes whole))
      | inr (inl long) ↦ absurd (omega (arith, long, whole-length bytes whole, ap length is, there.short))
      | inr (inr none) ↦ none edits (subst (λ (l : List ℕ). IsPayload l edits) (sym is) there.payload)
    ]

    stands-whole : is_whole bytes ≡ true → (more : List (List ℕ)) × (stands_for file ≡ map spelled batches ++ payload_at bytes ∷ more)
    stands-whole whole =
        let (more, stands) = stands-next file place gate whole in
        (more, stands ∙ ap (λ (ps : List (List ℕ)). ps ++ payload_at bytes ∷ more) comes.behind.before)

    bad-stops : IsBad bytes → IsStop batches
    bad-stops bad = from (is_whole bytes) refl
      where
        from : (whole : Bool) → is_whole bytes ≡ whole → IsStop batches
        from true whole =
            let (more, stands) = stands-whole whole in
            inr (payload_at bytes, more, stands, λ good. unread bad whole good.0 good.1 good.2)
        from false none = inl (stands-no-more file place gate none ∙ comes.behind.before, ends-open file place gate none bad.gate)

    -- the record of edits that don't follow
    module _ (edits : List Edit) (next : IsNextRecord file place edits) where
      has : HasRecord edits
      has = has-record bytes edits next.whole next.payload

      refused : DoesNotFollow setup release edits → IsGood setup release (payload_at bytes) → ⊥
      refused refusal (others, is, there, fit, can) =
          let same : others ≡ edits = one-batch others edits there has (sym is ∙ next.payload.is_spelled) in
          let now : CanFollow release edits = subst (CanFollow release) same can in
          elim refusal [
            | inl misfit ↦ misfit (subst (Fit setup) same fit)
            | inr (kind, edit, why) ↦ refused-and-not (batch_refusal release edits) kind edit ((can_follow_unless_refused release edits now.few).1 now) why
          ]

      stops : DoesNotFollow setup release edits → IsStop batches
      stops not = let (more, stands) = stands-whole next.whole.whole in inr (payload_at bytes, more, stands, refused not)

  -- a record that is none isn't one of edits behind as many batches
  bad-or-read : (some other : List (List Edit)) (place place' r q : ℕ) (edits : List Edit) → ComesAfter setup base some file place r → ComesAfter setup base other file place' q → length some ≡ length other
      → IsBad (drop place file) → IsNextRecord file place' edits → ⊥
  bad-or-read some other place place' r q edits comes comes' count bad next = from (is_whole (drop place file)) refl
    where
      read : (more : List (List ℕ)) × (stands_for file ≡ map spelled other ++ payload_at (drop place' file) ∷ more)
      read = stands-whole other place' q comes' next.whole.whole

      from : (whole : Bool) → is_whole (drop place file) ≡ whole → ⊥
      from true whole =
          let (more, stands) = stands-whole some place r comes whole in
          let counts : length (map spelled some) ≡ length (map spelled other) = omega (arith, length-map some spelled, length-map other spelled, count) in
          let same = same-next (map spelled some) (map spelled other) (payload_at (drop place file)) (payload_at (drop place' file)) more read.0 counts (sym stands ∙ read.1) in
          unread some place r comes bad whole edits (same ∙ next.payload.is_spelled) (has other place' q comes' edits next)
      from false none =
          let same = stands-no-more file place (comes.behind.gate) none ∙ comes.behind.before in
          omega (arith, ap length (sym same ∙ read.1), length-append (map spelled other) (payload_at (drop place' file) ∷ read.0), length-map some spelled, length-map other spelled, count)

-- ---- the law

module _ (setup : SetupValue) (base : ReleaseValue) (file : List ℕ) where
  -- a journal isn't foreign
  not-foreign : take 8 (opened_file file) ≡ header → IsForeign file → ⊥
  not-foreign begins (long, other) = other (ap (take 8) (sym (opened-long file long)) ∙ begins)

  -- a recovered file doesn't stop
  goes-on : (all before : List (List Edit)) → AreRecovered setup base (Some file) all → AllByRecursion HasRecord before → IsStop setup base (opened_file file) before → ⊥
  goes-on all before are each stop =
      let is = are.all file refl in
      let stands : stands_for (opened_file file) ≡ map spelled all ++ [] = is.stands ∙ sym (append-nil (map spelled all)) in
      elim stop [
        | inl (same, ajar) ↦ ajar is.shut
        | inr (p, more, same, bad) ↦
            let counts = ap length (sym is.stands ∙ same) in
            let less : length before < length all = omega (arith, counts, length-append (map spelled before) (p ∷ more), length-map before spelled, length-map all spelled) in
            no-further setup base (opened_file file) before all [] each (inr (p, more, same, bad)) (are.each file refl) are.follow stands less
      ]

  not-both : (batches : List (List Edit)) (fault : JournalFault) → AreRecovered setup base (Some file) batches → ¬ IsJournalFault setup base file fault
  not-both batches journal_fault.NotJournal are foreign = not-foreign (are.all file refl).begins foreign
  not-both batches (journal_fault.BadRecord r) are (before, place, comes, bad) =
      goes-on batches before are comes.behind.each (bad-stops setup base (opened_file file) before place r comes bad)
  not-both batches (journal_fault.DoesNotFollow r) are (before, place, edits, comes, next, not) =
      goes-on batches before are comes.behind.each (stops setup base (opened_file file) before place r comes edits next not)

  one-fault : (some other : JournalFault) → IsJournalFault setup base file some → IsJournalFault setup base file other → some ≡ other
  one-fault journal_fault.NotJournal journal_fault.NotJournal first second = refl
  one-fault journal_fault.NotJournal (journal_fault.BadRecord q) first (bs, place, comes, bad) = absurd (not-foreign comes.begins first)
  one-fault journal_fault.NotJournal (journal_fault.DoesNotFollow q) first (bs, place, edits, comes, next, not) = absurd (not-foreign comes.begins first)
  one-fault (journal_fault.BadRecord r) journal_fault.NotJournal (bs, place, comes, bad) second = absurd (not-foreign comes.begins second)
  one-fault (journal_fault.DoesNotFollow r) journal_fault.NotJournal (bs, place, edits, comes, next, not) second = absurd (not-foreign comes.begins second)
  one-fault (journal_fault.BadRecord r) (journal_fault.BadRecord q) (bs, place, comes, bad) (cs, place', comes', bad') =
      let count = one-count setup base (opened_file file) bs cs (bad-stops setup base (opened_file file) bs place r comes bad) (bad-stops setup base (opened_file file) cs place' q comes' bad') comes.behind.each comes'.behind.each comes.follow comes'.follow in
      ap (λ (n : ℕ). journal_fault.BadRecord n) (omega (arith, count, comes.number, comes'.number))
  one-fault (journal_fault.DoesNotFollow r) (journal_fault.DoesNotFollow q) (bs, place, edits, comes, next, not) (cs, place', edits', comes', next', not') =
      let count = one-count setup base (opened_file file) bs cs (stops setup base (opened_file file) bs place r comes edits next not) (stops setup base (opened_file file) cs place' q comes' edits' next' not') comes.behind.each comes'.behind.each comes.follow comes'.follow in
      ap (λ (n : ℕ). journal_fault.DoesNotFollow n) (omega (arith, count, comes.number, comes'.number))
  one-fault (journal_fault.BadRecord r) (journal_fault.DoesNotFollow q) (bs, place, comes, bad) (cs, place', edits, comes', next, not) =
      let count = one-count setup base (opened_file file) bs cs (bad-stops setup base (opened_file file) bs place r comes bad) (stops setup base (opened_file file) cs place' q comes' edits next not) comes.behind.each comes'.behind.each comes.follow comes'.follow in
      absurd (bad-or-read setup base (opened_file file) bs cs place place' r q edits comes comes' count bad next)
  one-fault (journal_fault.DoesNotFollow r) (journal_fault.BadRecord q) (bs, place, edits, comes, next, not) (cs, place', comes', bad) =
      let count = one-count setup base (opened_file file) cs bs (bad-stops setup base (opened_file file) cs place' q comes' bad) (stops setup base (opened_file file) bs place r comes edits next not) comes'.behind.each comes.behind.each comes'.follow comes.follow in
      absurd (bad-or-read setup base (opened_file file) cs bs place' place q r edits comes' comes count bad next)

  one-recovered : (some others : List (List Edit)) → AreRecovered setup base (Some file) some → AreRecovered setup base (Some file) others → some ≡ others
  one-recovered some others first second =
      one-list some others (first.each file refl) (second.each file refl) (sym (first.all file refl).stands ∙ (second.all file refl).stands)

pub recovered_or_refused : IsRecoveredOrRefused
recovered_or_refused setup base file = record { not_both = not-both setup base file; one_fault = one-fault setup base file; one_list = one-recovered setup base file }
