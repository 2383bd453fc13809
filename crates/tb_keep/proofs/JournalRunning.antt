-- A journal that was opened and played, and the lines that are answered then.
use Rattle.std.proofs.Common.{◌≡◌, ◌≤◌, ◌+◌, ◌∙◌, sym, ap, refl, subst, ℕ, Bool, true, false, List, [], ◌++◌, length, drop, Option, None, Some, inl, inr, ⊎_elim, arith}
use Rattle.std.specs.Prelude.{is_none}
use Rattle.tb_ahead.specs.Keepers.{IsAt, Reaches}
use Rattle.tb_ahead.specs.Keeping.{KeptState}
use Rattle.tb_ahead.specs.Publishing.{StateValue, after_seeing}
use Rattle.tb_ahead.specs.Puts.{FileStands, Since}
use Rattle.tb_board.specs.Custodians.{CustodianValue}
use Rattle.tb_board.specs.Holders.{release_seen}
use Rattle.tb_board.specs.Starts.{StartValue}
use Rattle.tb_disk.specs.Images.{Leads, Only, WhereTold}
use Rattle.tb_disk.specs.Moments.{KeepsPast, LeavesOnly}
use Rattle.tb_disk.proofs.Telling.{forward, told-of}
use Rattle.tb_journal.specs.Opening.{IsForeign, IsOpened, IsOurs, StandsAsOne, opened_file}
use Rattle.tb_journal.specs.Reading.{IsBad}
use Rattle.tb_journal.specs.States.{JournalState}
use Rattle.tb_journal.specs.Stops.{IsOn}
use Rattle.tb_journal.proofs.Beginning.{opened-long}
use Rattle.tb_journal.proofs.Keeping.{ends-on}
use Rattle.tb_journal_file.specs.Files.{AreLeft, AreLeftSince, EachStandsBetween, EachStandsFor, IsFileOf, all_of}
use Rattle.tb_journal_file.proofs.Putting.{left_from_now}
use Rattle.tb_journal_file.proofs.Recovering.{none-read, opened-begins}
use Rattle.tb_lines.specs.Outputs.{Charged, charged}
use Rattle.tb_model.specs.Releases.{ReleaseValue}
use Rattle.tb_model.specs.Setups.{SetupValue}
use Rattle.tb_release.specs.Batches.{BatchValue}
use Rattle.tb_release.specs.Chains.{release_after}
use Rattle.tb_release.specs.declared.edits.Edit.{Edit}
use Rattle.tb_script.specs.Scripts.{ScriptLine}
use Rattle.tb_script.specs.declared.run.RunEnd.{RunEnd}
use Rattle.tb_script.specs.declared.run.RunEnd.TheVariants as run_end
use Rattle.tb_session.specs.Parties.{seen_by, state_of}
use Rattle.tb_session.specs.declared.party.Party.{Party}
use Rattle.tb_session.specs.declared.party.Party.TheVariants as party
use Rattle.tb_keep.specs.Chains.{batches_of}
use Rattle.tb_keep.specs.JournalRuns.{AreKeptFrom, AreRecovered, ComesAfter, IsJournalFault, IsJournalRun, JournalRun, after_playing, seen_of}
use Rattle.tb_keep.specs.KeptRuns.{IsKeptRun}
use Rattle.tb_keep.specs.Recoveries.{HasRecovered}
use Rattle.tb_keep.specs.Seen.{IsAsItWas, JournalSeen, StandsAsBeforeUntil}
use Rattle.tb_keep.specs.Playing.{ArePublished, CanAllFollow, DoesNotFollow, HasPlayed, IsNextRecord, LiesBehind}
use Rattle.tb_keep.proofs.KeptRunning.{run_counts, run_since}
use Rattle.tb_keep.specs.declared.recovery.JournalFault.TheVariants as journal_fault
use Rattle.tb_keep.specs.declared.journal_run.KeepEnd.TheVariants as keep_end
use Rattle.tb_keep.specs.declared.playing.Played.TheVariants as played

-- release 0 of a custodian's chain
abbrev base_of : CustodianValue → ReleaseValue
base_of custodian = custodian.writer.start.base

-- ---- what is left of the file where no line was answered

-- one that was only read
pub left-opened : (before opened now : Option (List ℕ)) → Leads before opened IsOpened → now ≡ opened → (images : List ℕ → Type 0) (journal : JournalState) → WhereTold now (λ file. IsOn file images journal)
    → WhereTold before (λ file. Only (opened_file file) images)
left-opened before opened now leads same images journal on = λ file told.
    let (next, there, is) = forward before opened IsOpened leads file told in
    subst (λ (f : List ℕ). Only f images) is.is (on next (same ∙ there)).durable

-- one of another kind
pub left-foreign : (content : Option (List ℕ)) (images : List ℕ → Type 0) → WhereTold content IsForeign → WhereTold content (λ file. Only file images) → WhereTold content (λ file. Only (opened_file file) images)
left-foreign content images foreign durable = λ file told. subst (λ (f : List ℕ). Only f images) (sym (opened-long file (foreign file told).0)) (durable file told)

-- what stops since the beginning left, where the file was opened, and where it was then read
module _ {D : Type 0} (content : D → Option (List ℕ)) (may_leave : D → List ℕ → Type 0) (moment : D → ℕ) (left_since : D → ℕ → List ℕ → Type 0) (old : D) where
  abbrev AllStandAsBefore : D → Type 0
  AllStandAsBefore new = WhereTold (content old) (λ _. (image : List ℕ) → left_since new (moment old) image → StandsAsOne (may_leave old) image)

  abbrev Opens : D → Type 0
  Opens new = WhereTold (content old) (λ _. LeavesOnly moment left_since old new (StandsAsOne (may_leave old)))

  pub stood-opening : (new : D) → Opens new → AllStandAsBefore new
  stood-opening new leaves = λ file told. (leaves file told).each

  pub stood-reading : (counts : (disk : D) (t : ℕ) (image : List ℕ) → t ≤ moment disk → may_leave disk image → left_since disk t image)
      → (opened new : D) → Opens opened → LeavesOnly moment left_since opened new (may_leave opened) → AllStandAsBefore new
  stood-reading counts opened new leaves quiet = λ file told image left.
      let first = leaves file told in
      ⊎_elim (first.each image) (λ now. first.each image (counts opened (moment old) image first.later now)) (quiet.before (moment old) image first.later left)

-- ---- what was published of the file, by what it had before it was opened
module _ (setup : SetupValue) (before opened : Option (List ℕ)) (leads : Leads before opened IsOpened) (first last : CustodianValue) (none : first.writer.list ≡ []) where
  at-base : release_seen first.writer ≡ base_of first
  at-base = ap (release_after (base_of first)) none

  -- they are the custodian's chain
  pub chain-is : (h : HasPlayed setup opened first last played.All) → last.writer.list ≡ batches_of (base_of first) h.batches
  chain-is h =
      h.published.chain
      ∙ ap (λ (l : List BatchValue). l ++ batches_of (release_seen first.writer) h.batches) none
      ∙ ap (λ (r : ReleaseValue). batches_of r h.batches) at-base

  -- at the end it is a file of them
  module _ (h : HasPlayed setup opened first last played.All) (ours : WhereTold before IsOurs) (content : Option (List ℕ)) (images : List ℕ → Type 0) (journal : JournalState) (same : content ≡ opened)
      (on : WhereTold content (λ file. IsOn file images journal)) (ended : journal.at_end ≡ true) where
    file-is : WhereTold content (IsFileOf h.batches)
    file-is file now =
        let was = sym same ∙ now in
        let ends = ends-on file images journal ended (on file now) in
        record { begins = (none-read before opened leads ours file was).begins; stands = h.ends file was; shut = ends.shut }

    -- and so is each that a stop then may leave
    pub stands-for-all : ((image : List ℕ) → images image → is_none content ≡ false) → EachStandsFor images h.batches None
    stands-for-all told = λ image left.
        let (file, now) = told-of content (told image left) in
        subst (IsFileOf h.batches) (sym ((on file now).durable image left)) (file-is file now)

    -- by what it had before it was opened
    pub recovered : AreRecovered setup (base_of first) before h.batches
    recovered = record {
      all = λ file told. let (next, now, is) = forward before opened IsOpened leads file told in subst (IsFileOf h.batches) is.is (file-is next (same ∙ now));
      each = λ file told. let (next, now, is) = forward before opened IsOpened leads file told in (h.published.behind next now).each;
      follow = subst (λ (r : ReleaseValue). CanAllFollow setup r h.batches) at-base h.published.follow;
    }

  -- the batches before a fault
  comes-after : (batches : List (List Edit)) (place r : ℕ) → ArePublished setup opened place batches first last → r ≡ length batches + 1
      → (file next : List ℕ) → IsOurs file → opened ≡ Some next → IsOpened file next → ComesAfter setup (base_of first) batches (opened_file file) place r
  comes-after batches place r published number file next ours now is = record {
    begins = opened-begins file ours;
    behind = subst (λ (f : List ℕ). LiesBehind f place batches) is.is (published.behind next now);
    follow = subst (λ (b : ReleaseValue). CanAllFollow setup b batches) at-base published.follow;
    number = number;
  }

  pub bad-record : WhereTold before IsOurs → (r : ℕ) → HasPlayed setup opened first last (played.BadRecord r) → WhereTold before (λ file. IsJournalFault setup (base_of first) file (journal_fault.BadRecord r))
  bad-record ours r h = λ file told.
      let (next, now, is) = forward before opened IsOpened leads file told in
      (h.batches, h.place, comes-after h.batches h.place r h.published h.ends.0 file next (ours file told) now is, subst (λ (f : List ℕ). IsBad (drop h.place f)) is.is (h.ends.1 next now))

  pub does-not-follow : WhereTold before IsOurs → (r : ℕ) → HasPlayed setup opened first last (played.DoesNotFollow r) → WhereTold before (λ file. IsJournalFault setup (base_of first) file (journal_fault.DoesNotFollow r))
  does-not-follow ours r h = λ file told.
      let (next, now, is) = forward before opened IsOpened leads file told in (
        h.batches,
        h.place,
        h.ends.1,
        comes-after h.batches h.place r h.published h.ends.0 file next (ours file told) now is,
        subst (λ (f : List ℕ). IsNextRecord f h.place h.ends.1) is.is (h.ends.3 next now),
        subst (λ (b : ReleaseValue). DoesNotFollow setup (release_after b (batches_of b h.batches)) h.ends.1) at-base h.ends.2,
      )

-- ---- the lines, from where a custodian stands that published some batches
module _ {D : Type 0} (content : D → Option (List ℕ)) (may_leave : D → List ℕ → Type 0) (moment : D → ℕ) (left_since : D → ℕ → List ℕ → Type 0) (faults : D → ℕ)
    (old now new : D) (only : (image : List ℕ) → left_since old (moment old) image → may_leave old image) (same : new ≡ now) (had : Option (List ℕ)) (setup : SetupValue) (lines : List ScriptLine) (end : RunEnd) (custodian : CustodianValue)
    (one : Party) (is : one ≡ party.Custodian custodian []) (live later : Bool) (lives : live ≡ true) (state : StateValue) (before after : ℕ) (a b : Option (List ℕ))
    (reaches : Reaches (IsAt (AreLeft (content old) (may_leave old) (moment old) (left_since old)) live (faults old) (state_of one)) (IsAt (AreLeft (content now) (may_leave now) (moment now) (left_since now)) later (faults now) state)
    (λ first last. IsKeptRun setup (seen_by one).start.base lines end (charged first before) (charged last after) a b)) where
  pub lines-kept : (batches : List (List Edit)) → custodian.writer.list ≡ batches_of (base_of custodian) batches → EachStandsFor (may_leave old) batches None
      → AreKeptFrom (after_playing (base_of custodian) batches (moment old) (faults old)) setup (base_of custodian) lines end
      (record { content = had; content_after = content new; moment = moment old; could_leave = may_leave old; may_leave = may_leave new; left_since = left_since new; faults = faults old; faults_after = faults new; steps = before; steps_after = after; taken = a; taken_after = b })
  lines-kept batches chain stands =
      let first = after_playing (base_of custodian) batches (moment old) (faults old) in
      let stood : first.state ≡ state_of one = ap after_seeing (sym chain) ∙ ap state_of (sym is) in
      let left = left_from_now (content old) (may_leave old) (moment old) (left_since old) only batches None stands in
      let (last, at, run) = reaches first (record { same = stood; count = refl; lives = sym lives; stands = left }) in
      let watched = run_since setup (seen_by one).start.base (charged first before) (charged last after) lines end a b run in
      let stands_now = subst (λ (d : D). AreLeft (content d) (may_leave d) (moment d) (left_since d) last.since last.batches last.further) (sym same) at.stands in
      record {
        last = last;
        run = subst (λ (p : Party). IsKeptRun setup (seen_by p).start.base lines end (charged first before) (charged last after) a b) is run;
        left = stands_now.now;
        ever = λ file told. subst (λ (s : Since). EachStandsBetween (left_since new) s (all_of last.batches last.further)) watched (stands_now.ever file told).each;
        counted = at.count ∙ ap faults (sym same);
      }

-- ---- the run, where all of the file's batches were published
by-end : (setup : SetupValue) (base : ReleaseValue) (lines : List ScriptLine) (batches : List (List Edit)) (first_moment first_faults : ℕ) (saw : JournalRun) (end : RunEnd) → (end ≡ run_end.Memory → IsAsItWas (seen_of saw)) → AreRecovered setup base saw.content batches → saw.faults ≤ first_faults
    → StandsAsBeforeUntil first_moment (seen_of saw)
    → AreKeptFrom (after_playing base batches first_moment first_faults) setup base lines end saw → IsJournalRun setup base lines (keep_end.Ran end) saw
by-end setup base lines batches first_moment first_faults saw run_end.Done left are since until kept = record { batches = batches; recovered = are; first_moment = first_moment; first_faults = first_faults; since = since; until = until; kept = kept }
by-end setup base lines batches first_moment first_faults saw run_end.WriteFault left are since until kept = record { batches = batches; recovered = are; first_moment = first_moment; first_faults = first_faults; since = since; until = until; kept = kept }
by-end setup base lines batches first_moment first_faults saw run_end.Memory left are since until kept = ((kept.run.0, ap (λ (c : Charged KeptState). c.steps) kept.run.1), left refl)

-- what is seen of a disk from one moment to another
module _ {D : Type 0} (content : D → Option (List ℕ)) (may_leave : D → List ℕ → Type 0) (moment : D → ℕ) (left_since : D → ℕ → List ℕ → Type 0) (faults : D → ℕ) where
  abbrev pub seen : D → D → JournalSeen
  seen old new = record {
    content = content old;
    content_after = content new;
    moment = moment old;
    could_leave = may_leave old;
    may_leave = may_leave new;
    left_since = left_since new;
    faults = faults old;
    faults_after = faults new;
  }

  -- a custodian that published all
  module _ (setup : SetupValue) (first last : CustodianValue) (none : first.writer.list ≡ []) (before opened played_by : D) (leads : Leads (content before) (content opened) IsOpened) (ours : WhereTold (content before) IsOurs)
      (h : HasPlayed setup (content opened) first last played.All) (journal : JournalState) (same : content played_by ≡ content opened) (told : (image : List ℕ) → may_leave played_by image → is_none (content played_by) ≡ false)
      (on : WhereTold (content played_by) (λ file. IsOn file (may_leave played_by) journal)) (ended : journal.at_end ≡ true)
      (stood : AllStandAsBefore content may_leave moment left_since before played_by) where
    pub all-recovered : HasRecovered setup (base_of first) (seen before played_by) last
    all-recovered = record {
      batches = h.batches;
      recovered = recovered setup (content before) (content opened) leads first last none h ours (content played_by) (may_leave played_by) journal same on ended;
      start = ap (λ (s : StartValue). s.base) h.published.start;
      chain = chain-is setup (content before) (content opened) leads first last none h;
      left = stands-for-all setup (content before) (content opened) leads first last none h ours (content played_by) (may_leave played_by) journal same on ended told;
      same = record { now = left-opened (content before) (content opened) (content played_by) leads same (may_leave played_by) journal on; ever = stood };
    }

  -- and the lines that are answered from there
  module _ (setup : SetupValue) (base : ReleaseValue) (custodian : CustodianValue) (before played_by new : D) (r : HasRecovered setup base (seen before played_by) custodian)
      (lines : List ScriptLine) (end : RunEnd) (untouched : end ≡ run_end.Memory → new ≡ played_by) (steps steps_after : ℕ) (taken taken_after : Option (List ℕ))
      (runs : (batches : List (List Edit)) → custodian.writer.list ≡ batches_of (base_of custodian) batches → EachStandsFor (may_leave played_by) batches None
      → AreKeptFrom (after_playing (base_of custodian) batches (moment played_by) (faults played_by)) setup (base_of custodian) lines end
      (record { content = content played_by; content_after = content new; moment = moment played_by; could_leave = may_leave played_by; may_leave = may_leave new; left_since = left_since new; faults = faults played_by; faults_after = faults new; steps = steps; steps_after = steps_after; taken = taken; taken_after = taken_after })) where
    abbrev seen_since : D → JournalRun
    seen_since old = record {
      content = content old;
      content_after = content new;
      moment = moment old;
      could_leave = may_leave old;
      may_leave = may_leave new;
      left_since = left_since new;
      faults = faults old;
      faults_after = faults new;
      steps = steps;
      steps_after = steps_after;
      taken = taken;
      taken_after = taken_after;
    }

    -- from where it stands that published them
    kept : AreKeptFrom (after_playing base r.batches (moment played_by) (faults played_by)) setup base lines end (seen_since played_by)
    kept =
        let chain = r.chain ∙ sym (ap (λ (b : ReleaseValue). batches_of b r.batches) r.start) in
        subst (λ (b : ReleaseValue). AreKeptFrom (after_playing b r.batches (moment played_by) (faults played_by)) setup b lines end (seen_since played_by)) r.start (runs r.batches chain r.left)

    pub all-ran : faults before ≤ faults played_by → moment before ≤ moment played_by → KeepsPast moment left_since played_by new → IsJournalRun setup base lines (keep_end.Ran end) (seen_since before)
    all-ran since began past =
        by-end setup base lines r.batches (moment played_by) (faults played_by) (seen_since before) end
        (λ is. record {
          now = subst (λ (d : D). WhereTold (content before) (λ file. Only (opened_file file) (may_leave d))) (sym (untouched is)) r.same.now;
          ever = subst (λ (d : D). AllStandAsBefore content may_leave moment left_since before d) (sym (untouched is)) r.same.ever;
        })
        r.recovered since
        (record {
          is_later = began;
          each = λ file told image left. ⊎_elim (λ was. inl (r.same.ever file told image was)) (λ since. inr since) (past.nothing_else (moment before) image began left);
        })
        (record { last = kept.last; run = kept.run; left = kept.left; ever = kept.ever; counted = kept.counted })

    -- the disk's count didn't fall
    pub all-counted : faults played_by ≤ faults new
    all-counted =
        let counts = run_counts setup base (charged (after_playing base r.batches (moment played_by) (faults played_by)) steps) (charged kept.last steps_after) lines end taken taken_after kept.run in
        omega (arith, counts, kept.counted)
