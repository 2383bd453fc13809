-- What one batch more makes of the batches that were published so far, and where playing ends.
use Rattle.std.proofs.Common.{◌≡◌, ◌≤◌, ◌+◌, ◌∙◌, sym, ap, refl, subst, ℕ, zero, suc, Bool, true, List, [], ◌∷◌, ◌++◌, length, map, take, drop, Option, Some, None, arith, append_assoc, length-append, length-take}
use Rattle.std.specs.List.{AllByRecursion}
use Rattle.std.proofs.lemmas.List.{append-nil, drop_at, map-append, take_at}
use Rattle.std.proofs.lemmas.List.Sums.{fold-append}
use Rattle.tb_board.specs.Custodians.{CustodianValue, IsWhole}
use Rattle.tb_board.specs.Holders.{release_seen}
use Rattle.tb_board.specs.Starts.{StartValue}
use Rattle.tb_disk.specs.Images.{WhereTold}
use Rattle.tb_disk.specs.Quiet.{IsQuiet}
use Rattle.tb_disk.proofs.Quietly.{quiet-none, quiet-then}
use Rattle.tb_front.specs.Holders.{Name}
use Rattle.tb_journal.specs.Reading.{IsNextBatch, IsRecord}
use Rattle.tb_journal.specs.Records.{HasGate, length_at, payload_at, payloads, payloads_before, stands_for}
use Rattle.tb_journal.specs.States.{JournalState, opened}
use Rattle.tb_journal.specs.Stops.{IsOn}
use Rattle.tb_model.specs.Releases.{ReleaseValue}
use Rattle.tb_model.specs.Schemas.{shape_of}
use Rattle.tb_model.specs.Setups.{SetupValue}
use Rattle.tb_release.specs.Batches.{BatchValue, CanFollow, batch_of}
use Rattle.tb_release.specs.Chains.{after_batch, release_after}
use Rattle.tb_release.specs.declared.edits.Edit.{Edit}
use Rattle.tb_release.specs.declared.limits.TheConstants.{MOST_RELEASES}
use Rattle.tb_session.specs.Parties.{IsCustodianOf}
use Rattle.tb_spelling.specs.Payloads.{IsPayload}
use Rattle.tb_spelling.specs.Spelling.{spelled}
use Rattle.tb_keep.specs.Chains.{batches_of}
use Rattle.tb_keep.specs.Playing.{ArePublished, CanAllFollow, DoesNotFollow, Fit, HasPlayed, HasRecord, IsFollowed, PlaysNext, LiesBehind}
use Rattle.tb_keep.specs.declared.playing.Followed.TheVariants as followed
use Rattle.tb_keep.specs.declared.playing.Played.{Played}
use Rattle.tb_keep.specs.declared.playing.Played.TheVariants as played
use Rattle.tb_keep.proofs.Chains.{batches_of-more}

-- ---- a batch more

follow-more : (setup : SetupValue) (release : ReleaseValue) (bs : List (List Edit)) (edits : List Edit) → CanAllFollow setup release bs → Fit setup edits → CanFollow (release_after release (batches_of release bs)) edits → CanAllFollow setup release (bs ++ edits ∷ [])
follow-more setup release [] edits all fit can = (fit, can, tt)
follow-more setup release (b ∷ bs) edits (first, follows, others) fit can = (first, follows, follow-more setup (after_batch release (batch_of release b)) bs edits others fit can)

each-more : (bs : List (List Edit)) (edits : List Edit) → AllByRecursion HasRecord bs → HasRecord edits → AllByRecursion HasRecord (bs ++ edits ∷ [])
each-more [] edits each one = (one, tt)
each-more (b ∷ bs) edits each one = (each.0, each-more bs edits each.1 one)

length-batches_of : (release : ReleaseValue) (bs : List (List Edit)) → length (batches_of release bs) ≡ length bs
length-batches_of release [] = refl
length-batches_of release (b ∷ bs) = let more = length-batches_of (after_batch release (batch_of release b)) bs in omega (arith, more)

-- edits whose record stands in front
pub has-record : (bytes : List ℕ) (edits : List Edit) → IsRecord bytes → IsPayload (payload_at bytes) edits → HasRecord edits
has-record bytes edits there payload = record {
  payload = subst (λ (l : List ℕ). IsPayload l edits) payload.is_spelled payload;
  short = omega (arith, ap length payload.is_spelled, length-take (length_at bytes) (drop 5 bytes), there.short);
}

-- a gate behind the record of edits
behind-more : (file : List ℕ) (from to : JournalState) (bs : List (List Edit)) (edits : List Edit) → LiesBehind file from.place bs → IsNextBatch file from to edits → HasGate file to.place → LiesBehind file to.place (bs ++ edits ∷ [])
behind-more file from to bs edits so_far next gate = record {
  gate = gate;
  before = next.before ∙ ap (λ (l : List (List ℕ)). l ++ payload_at (drop from.place file) ∷ []) so_far.before ∙ ap (λ (l : List ℕ). map spelled bs ++ l ∷ []) next.payload.is_spelled ∙ sym (map-append spelled bs (edits ∷ []));
  each = each-more bs edits so_far.each (has-record (drop from.place file) edits next.record_there next.payload);
}

-- no record stands before the first gate
none-of : (n : ℕ) → payloads n (0 ∷ []) ≡ []
none-of zero = refl
none-of (suc n) = refl

none-before : (file : List ℕ) → HasGate file 8 → payloads_before 8 file ≡ []
none-before file gate =
    ap (λ (l : List ℕ). stands_for (l ++ 0 ∷ [])) (ap (take 8) gate.split ∙ take_at gate.head _ 8 gate.long)
    ∙ ap (payloads (length (gate.head ++ 0 ∷ []))) (drop_at gate.head (0 ∷ []) 8 gate.long) ∙ none-of (length (gate.head ++ 0 ∷ []))

module _ (setup : SetupValue) (content : Option (List ℕ)) (first : CustodianValue) where
  abbrev base : ReleaseValue
  base = release_seen first.writer

  -- before the first
  pub none-published : (place : ℕ) → place ≡ 8 → WhereTold content (λ file. HasGate file place) → ArePublished setup content place [] first first
  none-published place at gates = record {
    behind = λ file told. record {
      gate = gates file told;
      before = ap (λ (p : ℕ). payloads_before p file) at ∙ none-before file (subst (λ (p : ℕ). HasGate file p) at (gates file told));
      each = tt;
    };
    follow = tt;
    start = refl;
    chain = sym (append-nil first.writer.list);
  }

  -- where those so far lead
  pub release-so-far : (place : ℕ) (bs : List (List Edit)) (now : CustodianValue) → ArePublished setup content place bs first now → release_seen now.writer ≡ release_after base (batches_of base bs)
  release-so-far place bs now so_far =
      ap (λ (s : StartValue). release_after s.base now.writer.list) so_far.start
      ∙ ap (release_after first.writer.start.base) so_far.chain
      ∙ fold-append after_batch first.writer.start.base first.writer.list (batches_of base bs)

  pub published-more : (from to : JournalState) (bs : List (List Edit)) (edits : List Edit) (old new : CustodianValue) → ArePublished setup content from.place bs first old → IsWhole old → IsFollowed setup old edits followed.Published new
      → WhereTold content (λ file. IsNextBatch file from to edits) → WhereTold content (λ file. HasGate file to.place) → ArePublished setup content to.place (bs ++ edits ∷ []) first new
  published-more from to bs edits old new so_far whole (fit, can, is, few) next gates =
      let here = release-so-far from.place bs old so_far in record {
        behind = λ file told. behind-more file from to bs edits (so_far.behind file told) (next file told) (gates file told);
        follow = follow-more setup base bs edits so_far.follow fit (subst (λ (r : ReleaseValue). CanFollow r edits) here can);
        start = ap (λ (c : CustodianValue). c.writer.start) is ∙ so_far.start;
        chain = ap (λ (c : CustodianValue). c.writer.list) is
            ∙ ap (λ (r : ReleaseValue). old.writer.list ++ batch_of r edits ∷ []) (whole.current ∙ here)
            ∙ ap (λ (l : List BatchValue). l ++ batch_of (release_after base (batches_of base bs)) edits ∷ []) so_far.chain
            ∙ append_assoc first.writer.list (batches_of base bs) (batch_of (release_after base (batches_of base bs)) edits ∷ [])
            ∙ ap (λ (l : List BatchValue). first.writer.list ++ l) (sym (batches_of-more base bs edits));
      }

  -- there are no more of them than releases
  pub few-published : (place : ℕ) (bs : List (List Edit)) (now : CustodianValue) → ArePublished setup content place bs first now → length now.writer.list ≤ MOST_RELEASES → length bs ≤ MOST_RELEASES
  few-published place bs now so_far few = omega (arith, few, ap length so_far.chain, length-append first.writer.list (batches_of base bs), length-batches_of base bs)

  still : (place : ℕ) (bs : List (List Edit)) (old new : CustodianValue) → new ≡ old → ArePublished setup content place bs first old → ArePublished setup content place bs first new
  still place bs old new same so_far = subst (λ (c : CustodianValue). ArePublished setup content place bs first c) (sym same) so_far

  -- playing ends behind those so far
  pub ends-there : (n : ℕ) (from to : JournalState) (bs : List (List Edit)) (old new : CustodianValue) (result : Played) → ArePublished setup content from.place bs first old → from.read ≡ length bs → n ≡ length bs + 1
      → PlaysNext setup content n from to old new (Some result) → HasPlayed setup content first new result
  ends-there n from to bs old new played.All so_far counted number (same, ends, after) = record {
    batches = bs;
    place = from.place;
    published = still from.place bs old new same so_far;
    ends = λ file told. (ends file told).stands ∙ (so_far.behind file told).before;
  }
  ends-there n from to bs old new (played.BadRecord r) so_far counted number (same, is, bad) = record {
    batches = bs;
    place = from.place;
    published = still from.place bs old new same so_far;
    ends = (is ∙ ap (λ (k : ℕ). k + 1) counted, bad);
  }
  ends-there n from to bs old new (played.DoesNotFollow r) so_far counted number (same, is, edits, refused, next) = record {
    batches = bs;
    place = from.place;
    published = still from.place bs old new same so_far;
    ends = (
      is ∙ number,
      edits,
      subst (λ (release : ReleaseValue). DoesNotFollow setup release edits) (release-so-far from.place bs old so_far) refused,
      λ file told. record { whole = (next file told).record_there; payload = (next file told).payload },
    );
  }
  ends-there n from to bs old new played.DiskFault so_far counted number same = record { batches = bs; place = from.place; published = still from.place bs old new same so_far; ends = tt }
  ends-there n from to bs old new played.Memory so_far counted number same = record { batches = bs; place = from.place; published = still from.place bs old new same so_far; ends = tt }

-- ---- the loop

module _ {D : Type 0} (content : D → Option (List ℕ)) (may_leave : D → List ℕ → Type 0) (moment : D → ℕ) (left_since : D → ℕ → List ℕ → Type 0) (faults : D → ℕ) (attached : D → Bool) where
  -- so many records of a journal were read, and their batches published
  pub record SoFar (name : Name) (setup : SetupValue) (first now : CustodianValue) (before disk : D) (journal : JournalState) (read : ℕ) : Type 0 where
    pub own : IsCustodianOf name (shape_of setup.schema) now []
    pub batches : List (List Edit)
    pub published : ArePublished setup (content before) journal.place batches first now
    pub counted : length batches ≡ read
    pub read_so : journal.read ≡ read
    pub few : read ≤ MOST_RELEASES
    pub live : journal.live ≡ true
    pub still_attached : attached disk ≡ true
    pub quiet : IsQuiet content may_leave moment left_since before disk
    pub on : WhereTold (content disk) (λ file. IsOn file (may_leave disk) journal)
    pub count : faults before ≤ faults disk

  module _ (name : Name) (setup : SetupValue) (first : CustodianValue) (before : D) where
    -- before the first
    pub none-read : (journal : JournalState) → IsCustodianOf name (shape_of setup.schema) first [] → attached before ≡ true → journal ≡ opened → WhereTold (content before) (λ file. IsOn file (may_leave before) journal)
        → ((disk : D) (t : ℕ) (image : List ℕ) → t ≤ moment disk → may_leave disk image → left_since disk t image)
        → ((image : List ℕ) → left_since before (moment before) image → may_leave before image) → SoFar name setup first first before before journal 0
    none-read journal own is_attached fresh on counts only = record {
      own = own;
      batches = [];
      published = none-published setup (content before) first journal.place (ap (λ (j : JournalState). j.place) fresh) (λ file told. (on file told).gate);
      counted = refl;
      read_so = ap (λ (j : JournalState). j.read) fresh;
      few = omega arith;
      live = ap (λ (j : JournalState). j.live) fresh;
      still_attached = is_attached;
      quiet = quiet-none content may_leave moment left_since before counts only;
      on = on;
      count = omega arith;
    }

    module _ (old new : CustodianValue) (disk after : D) (from to : JournalState) (read : ℕ) (so_far : SoFar name setup first old before disk from read) where
      -- one more
      pub one-read : (n : ℕ) → PlaysNext setup (content disk) n from to old new None → IsCustodianOf name (shape_of setup.schema) new [] → attached after ≡ true → WhereTold (content after) (λ file. IsOn file (may_leave after) to)
          → IsQuiet content may_leave moment left_since disk after → faults disk ≤ faults after → SoFar name setup first new before after to (read + 1)
      one-read n (edits, followed, next, reads, lives, ends) own is_attached on quiet counts =
          let all_quiet = quiet-then content may_leave moment left_since before disk after so_far.quiet quiet in
          let next_there : WhereTold (content before) (λ file. IsNextBatch file from to edits) = λ file told. next file (so_far.quiet.same ∙ told) in
          let published = published-more setup (content before) first from to so_far.batches edits old new so_far.published so_far.own.whole followed next_there (λ file told. (on file (all_quiet.same ∙ told)).gate) in
          let few = few-published setup (content before) first to.place (so_far.batches ++ edits ∷ []) new published followed.3 in
          let long = length-append so_far.batches (edits ∷ []) in record {
            own = own;
            batches = so_far.batches ++ edits ∷ [];
            published = published;
            counted = omega (arith, long, so_far.counted);
            read_so = omega (arith, reads, so_far.read_so);
            few = omega (arith, few, long, so_far.counted);
            live = lives ∙ so_far.live;
            still_attached = is_attached;
            quiet = all_quiet;
            on = on;
            count = omega (arith, counts, so_far.count);
          }

      -- or playing ends
      pub ends-played : (n : ℕ) (result : Played) → n ≡ read + 1 → PlaysNext setup (content disk) n from to old new (Some result) → HasPlayed setup (content before) first new result
      ends-played n result number next =
          ends-there setup (content before) first n from to so_far.batches old new result so_far.published (so_far.read_so ∙ sym so_far.counted) (omega (arith, number, so_far.counted))
          (subst (λ (told : Option (List ℕ)). PlaysNext setup told n from to old new (Some result)) so_far.quiet.same next)

      -- at its end the journal is live
      pub ends-live : (n : ℕ) (result : Played) → PlaysNext setup (content disk) n from to old new (Some result) → result ≡ played.All → (to.live ≡ true) × (to.at_end ≡ true)
      ends-live n played.All (same, ends, is) h = (ap (λ (j : JournalState). j.live) is ∙ so_far.live, ap (λ (j : JournalState). j.at_end) is)
      ends-live n (played.BadRecord r) next h = absurd cc
      ends-live n (played.DoesNotFollow r) next h = absurd cc
      ends-live n played.DiskFault next h = absurd cc
      ends-live n played.Memory next h = absurd cc
