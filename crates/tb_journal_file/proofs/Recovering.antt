-- What reading a journal from its first record on finds.
use Rattle.std.proofs.Common.{◌≡◌, ◌∙◌, sym, ap, subst, refl, ℕ, Bool, true, false, List, [], ◌∷◌, ◌++◌, length, take, drop, Option}
use Rattle.std.specs.Prelude.{is_none, nat_le, if◌then◌else◌}
use Rattle.std.proofs.lemmas.Bool.{leb-false}
use Rattle.tb_disk.specs.Images.{Leads, WhereTold}
use Rattle.tb_disk.proofs.Telling.{back, told-of}
use Rattle.tb_journal.specs.Opening.{header, IsOpened, IsOurs, opened_file}
use Rattle.tb_journal.specs.Reading.{Tells}
use Rattle.tb_journal.specs.Records.{payload_at, payloads_before}
use Rattle.tb_journal.specs.States.{AfterNext, JournalState, opened}
use Rattle.tb_journal.specs.Stops.{IsOn}
use Rattle.tb_journal.specs.declared.recovered.Recovered.{Recovered}
use Rattle.tb_journal.specs.declared.recovered.Recovered.TheVariants.{Batch, BadRecord, DiskFault, End, Memory}
use Rattle.tb_journal.proofs.Keeping.{ends-on}
use Rattle.tb_journal_file.specs.Files.{CanPut, IsFileOf, payloads_of}
use Rattle.tb_journal_file.specs.Recovery.{AreRead, ReadOn}
use Rattle.tb_journal_file.proofs.Putting.{payloads-more}
use Rattle.tb_release.specs.declared.edits.Edit.{Edit}

-- an opened file begins with a journal's first bytes
pub opened-begins : (file : List ℕ) → IsOurs file → take 8 (opened_file file) ≡ header
opened-begins file ours = from (nat_le (length file) 9) refl
  where
    from : (b : Bool) → nat_le (length file) 9 ≡ b → take 8 (if b then header ++ 0 ∷ [] else file) ≡ header
    from true is = refl
    from false is = ours (leb-false (length file) 9 is)

-- once a journal was opened, no batch was read
pub none-read : (old new : Option (List ℕ)) → Leads old new IsOpened → WhereTold old IsOurs → WhereTold new (AreRead [] opened)
none-read old new leads ours file now =
    let (first, before, is) = back old new IsOpened leads file now in
    record { begins = ap (take 8) is.is ∙ opened-begins first (ours first before); before = is.before }

-- the same batches, where the place is the same
same-place : (file : List ℕ) (batches : List (List Edit)) (old new : JournalState) → new.place ≡ old.place → AreRead batches old file → AreRead batches new file
same-place file batches old new same read = record { begins = read.begins; before = ap (λ (p : ℕ). payloads_before p file) same ∙ read.before }

-- one batch more
one-more : (file : List ℕ) (batches : List (List Edit)) (old new : JournalState) (edits : List Edit) → AreRead batches old file → Tells file old new (Batch edits) → AreRead (batches ++ edits ∷ []) new file
one-more file batches old new edits read next = record {
  begins = read.begins;
  before = next.before
      ∙ ap (λ (ps : List (List ℕ)). ps ++ payload_at (drop old.place file) ∷ []) read.before
      ∙ ap (λ (p : List ℕ). payloads_of batches ++ p ∷ []) next.payload.is_spelled
      ∙ sym (payloads-more batches edits);
}

-- at the end the file stands for all that were read
all-read : (file : List ℕ) (images : List ℕ → Type 0) (batches : List (List Edit)) (old new : JournalState) → AreRead batches old file → Tells file old new End → new ≡ record old { at_end = true } → IsOn file images new → IsFileOf batches file
all-read file images batches old new read end is on =
    let ends = ends-on file images new (ap (λ (j : JournalState). j.at_end) is) on in
    record { begins = ends.begins ∙ read.begins; stands = ends.stands ∙ end.stands ∙ read.before; shut = ends.shut }

module _ (content content' : Option (List ℕ)) (images : List ℕ → Type 0) (told : (image : List ℕ) → images image → is_none content' ≡ false) (same : content' ≡ content)
    (batches : List (List Edit)) (old new : JournalState) (on : WhereTold content' (λ file. IsOn file images new)) (read : WhereTold content (AreRead batches old)) where
  -- one more was asked for
  pub read-on : (result : Recovered) → WhereTold content (λ file. Tells file old new result) → AfterNext old result new → ReadOn batches content' images new result
  read-on (Batch edits) tells after = λ file now. let was = sym same ∙ now in one-more file batches old new edits (read file was) (tells file was)
  read-on End tells after = (
    λ file now. same-place file batches old new (ap (λ (j : JournalState). j.place) after) (read file (sym same ∙ now)),
    λ image left.
        let (file, now) = told-of content' (told image left) in
        let was = sym same ∙ now in
        subst (IsFileOf batches) (sym ((on file now).durable image left)) (all-read file images batches old new (read file was) (tells file was) after (on file now)),
  )
  read-on (BadRecord r) tells after = λ file now. same-place file batches old new (ap (λ (j : JournalState). j.place) after.1) (read file (sym same ∙ now))
  read-on DiskFault tells after = λ file now. same-place file batches old new (ap (λ (j : JournalState). j.place) after) (read file (sym same ∙ now))
  read-on Memory tells after = λ file now. same-place file batches old new (ap (λ (j : JournalState). j.place) after) (read file (sym same ∙ now))

-- at the end more can be put, while the journal is live
pub ready-at-end : (attached : Bool) (content : Option (List ℕ)) (images : List ℕ → Type 0) (old new : JournalState) (result : Recovered) → result ≡ End → AfterNext old result new → attached ≡ true
    → WhereTold content (λ file. IsOn file images new) → CanPut attached content images new
ready-at-end attached content images old new result is after there on =
    let ended : new ≡ record old { at_end = true } = subst (λ (r : Recovered). AfterNext old r new) is after in
    record { attached_file = there; at_end = λ _. ap (λ (j : JournalState). j.at_end) ended; on = λ _. on }
