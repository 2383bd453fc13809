-- What is read at a gate, and what a journal makes of it.
use Rattle.std.proofs.Common.{◌≡◌, ◌≢◌, ◌≤◌, ◌<◌, ◌+◌, ◌-◌, ℕ, Bool, true, false, List, [], ◌∷◌, ◌++◌, inl, inr, min, length, take, drop, get_or, eq-eqb, sym, ◌∙◌, ap, subst, arith, add-zero, length-drop}
use Rattle.std.proofs.lemmas.Bool.{and_from, and_parts, eqb-true, lt-ltb}
use Rattle.std.proofs.lemmas.List.{drop-drop, get_or-drop, get_or_default}
use Rattle.std.specs.Prelude.{nat_lt}
use Rattle.std.specs.Int.{w32, from_be_bytes, to_be_bytes}
use Rattle.tb_disk.specs.Images.{Fewer}
use Rattle.tb_release.specs.declared.edits.Edit.{Edit}
use Rattle.tb_spelling.specs.declared.limits.TheConstants.{MOST_PAYLOAD_BYTES}
use Rattle.tb_spelling.specs.Payloads.{IsPayload}
use Rattle.tb_spelling.specs.Spelling.{spelled}
use Rattle.tb_journal.specs.Records.{length_at, payload_at, payloads_before, stands_for, HasGate}
use Rattle.tb_journal.specs.Reading.{AreBytes, IsNextBatch, IsNoRecord, IsNumber, IsRecord, Tells, TellsFound, TellsNext}
use Rattle.tb_journal.specs.States.{AfterNext, JournalState, last_place, place_after}
use Rattle.tb_journal.specs.Stops.{IsOn}
use Rattle.tb_journal.specs.Taking.{IsTaken}
use Rattle.tb_journal.specs.declared.reading.Found.{Found}
use Rattle.tb_journal.specs.declared.reading.Found.TheVariants as found
use Rattle.tb_journal.specs.declared.reading.Next.{Next}
use Rattle.tb_journal.specs.declared.reading.Next.TheVariants as next
use Rattle.tb_journal.specs.declared.reading.Number.TheVariants as number
use Rattle.tb_journal.specs.declared.recovered.Recovered.{Recovered}
use Rattle.tb_journal.specs.declared.recovered.Recovered.TheVariants.{Batch, BadRecord, End, DiskFault, Memory}
use Rattle.tb_journal.proofs.Advancing as advancing
use Rattle.tb_journal.proofs.Keeping.{place-exact}

-- ---- the bytes of a record
module _ (file : List ℕ) (place size len : ℕ) (all : size ≡ length file) (gate : get_or (drop place file) 0 0 ≡ 1) (read : IsNumber (drop (place + 1) file) (number.Is len)) where
  number-there : len ≡ length_at (drop place file)
  number-there = read.0 ∙ ap (λ (l : List ℕ). from_be_bytes w32 (take 4 l)) (sym (drop-drop 1 place file))

  left : length (drop place file) ≡ size - place
  left = omega (arith, length-drop place file, all)

  pub too-long : MOST_PAYLOAD_BYTES < len → IsNoRecord (drop place file)
  too-long more = record { gate = gate; bad = inr (omega (arith, number-there, more)) }

  pub cut-off : 6 ≤ size - place → (size - place) - 6 < len → IsNoRecord (drop place file)
  cut-off some more = record { gate = gate; bad = inl (omega (arith, number-there, left, more, some)) }

  record-there : len ≤ MOST_PAYLOAD_BYTES → 6 ≤ size - place → len ≤ (size - place) - 6 → IsRecord (drop place file)
  record-there few some within = record {
    whole = and_from _ _ (eq-eqb _ _ gate) (lt-ltb (5 + length_at (drop place file)) (length (drop place file)) (omega (arith, number-there, left, some, within)));
    short = omega (arith, number-there, few);
    four = ap (to_be_bytes w32) (sym number-there) ∙ read.1 ∙ ap (take 4) (sym (drop-drop 1 place file));
  }

  pub bytes-there : len ≤ MOST_PAYLOAD_BYTES → 6 ≤ size - place → len ≤ (size - place) - 6 → (result : Next) → AreBytes (drop (place + 5) file) len result → TellsNext (drop place file) result
  bytes-there few some within (next.Payload payload) are =
      (record-there few some within, are ∙ ap (λ (l : List ℕ). take len l) (sym (drop-drop 5 place file)) ∙ ap (λ (n : ℕ). take n (drop 5 (drop place file))) number-there)
  bytes-there few some within next.End are = absurd are
  bytes-there few some within next.Bad are = absurd are
  bytes-there few some within next.DiskFault are = tt
  bytes-there few some within next.Memory are = tt

-- ---- gates
pub gate-of : (bytes : List ℕ) → IsRecord bytes → get_or bytes 0 0 ≡ 1
gate-of bytes there = eqb-true (get_or bytes 0 0) 1 (and_parts _ (nat_lt (5 + length_at bytes) (length bytes)) there.whole).0

at-place : (file : List ℕ) (place d : ℕ) → get_or (drop place file) 0 d ≡ get_or file place d
at-place file place d = get_or-drop place file 0 d ∙ ap (λ (n : ℕ). get_or file n d) (add-zero place)

-- what begins at a gate's place
open-at : (file : List ℕ) (place : ℕ) → HasGate file place → get_or (drop place file) 0 0 ≡ 1 → get_or file place 1 ≡ 1
open-at file place gate one =
    sym (at-place file place 1) ∙ get_or_default (drop place file) 0 1 0 (subst (λ (l : List ℕ). 0 < length l) (sym (advancing.from-gate file place gate)) gate.lies) ∙ one

shut-at : (file : List ℕ) (place : ℕ) → get_or (drop place file) 0 1 ≢ 1 → get_or file place 1 ≢ 1
shut-at file place shut = subst (λ (n : ℕ). n ≢ 1) (at-place file place 1) shut

-- ---- what a journal makes of what was found
module _ (file : List ℕ) (images : List ℕ → Type 0) (old : JournalState) (on : IsOn file images old) where
  -- a batch that stands at the next gate
  module _ (edits : List Edit) (there : IsRecord (drop old.place file)) (payload : IsPayload (payload_at (drop old.place file)) edits) where
    abbrev bytes : List ℕ
    bytes = payload_at (drop old.place file)

    step : advancing.Next file old.place bytes
    step = advancing.next-gate file old.place on.gate there

    abbrev place : ℕ
    place = place_after old.place (length (spelled edits))

    exact : place ≡ old.place + (5 + length bytes)
    exact = place-exact file old.place (5 + length bytes) place on.small step.gate (ap (λ (l : List ℕ). min (old.place + (5 + length l)) last_place) (sym payload.is_spelled))

    gate-after : HasGate file place
    gate-after = subst (HasGate file) (sym exact) step.gate

    batch-told : (new : JournalState) → new.place ≡ place → IsNextBatch file old new edits
    batch-told new at =
        let beyond = advancing.stands-beyond file place gate-after in
        let same : place ≡ new.place = sym at in
        record {
          record_there = there;
          payload = payload;
          before = subst (λ (n : ℕ). payloads_before n file ≡ payloads_before old.place file ++ bytes ∷ []) (sym exact ∙ same) step.before;
          more = beyond.0;
          stands = subst (λ (n : ℕ). stands_for file ≡ payloads_before n file ++ beyond.0) same beyond.1;
        }

    batch-on : (after : List ℕ → Type 0) → Fewer images after → (read : ℕ) → IsOn file after (record { place = place; read = read; live = old.live; at_end = old.at_end })
    batch-on after fewer read = record {
      gate = gate-after;
      durable = λ image left. on.durable image (fewer image left);
      small = on.small;
      shut = λ ended. absurd (on.shut ended (open-at file old.place on.gate (gate-of (drop old.place file) there)));
    }

  stays-on : (after : List ℕ → Type 0) → Fewer images after → (live : Bool) → IsOn file after (record { place = old.place; read = old.read; live = live; at_end = old.at_end })
  stays-on after fewer live = record { gate = on.gate; durable = λ image left. on.durable image (fewer image left); small = on.small; shut = on.shut }

  ends-on : (after : List ℕ → Type 0) → Fewer images after → get_or (drop old.place file) 0 1 ≢ 1 → IsOn file after (record { place = old.place; read = old.read; live = old.live; at_end = true })
  ends-on after fewer shut = record { gate = on.gate; durable = λ image left. on.durable image (fewer image left); small = on.small; shut = λ ended. shut-at file old.place shut }

  pub tells-next : (new : JournalState) (what : Found) (result : Recovered) → TellsFound (drop old.place file) what → IsTaken what result → AfterNext old result new → Tells file old new result
  tells-next new (found.Batch edits size) result told taken after =
      subst (Tells file old new) (sym taken) (batch-told edits told.0 told.1 new (ap (λ (j : JournalState). j.place) (subst (λ (r : Recovered). AfterNext old r new) taken after)))
  tells-next new found.End result told taken after =
      subst (Tells file old new) (sym taken) (record { shut = shut-at file old.place told; stands = advancing.stands-all file old.place on.gate (shut-at file old.place told) })
  tells-next new found.Bad (Batch edits) told taken after = absurd taken
  tells-next new found.Bad End told taken after = absurd taken
  tells-next new found.Bad (BadRecord r) told taken after = told
  tells-next new found.Bad DiskFault told taken after = absurd taken
  tells-next new found.Bad Memory told taken after = absurd taken
  tells-next new found.DiskFault result told taken after = subst (Tells file old new) (sym taken) tt
  tells-next new found.Memory result told taken after = subst (Tells file old new) (sym taken) tt

  pub on-next : (after : List ℕ → Type 0) → Fewer images after → (new : JournalState) (what : Found) (result : Recovered) → TellsFound (drop old.place file) what → IsTaken what result → AfterNext old result new → IsOn file after new
  on-next after fewer new (found.Batch edits size) result told taken state =
      subst (IsOn file after) (sym (subst (λ (r : Recovered). AfterNext old r new) taken state)) (batch-on edits told.0 told.1 after fewer (old.read + 1))
  on-next after fewer new found.End result told taken state =
      subst (IsOn file after) (sym (subst (λ (r : Recovered). AfterNext old r new) taken state)) (ends-on after fewer told)
  on-next after fewer new found.Bad (Batch edits) told taken state = absurd taken
  on-next after fewer new found.Bad End told taken state = absurd taken
  on-next after fewer new found.Bad (BadRecord r) told taken state = subst (IsOn file after) (sym state.1) (stays-on after fewer false)
  on-next after fewer new found.Bad DiskFault told taken state = absurd taken
  on-next after fewer new found.Bad Memory told taken state = absurd taken
  on-next after fewer new found.DiskFault result told taken state =
      subst (IsOn file after) (sym (subst (λ (r : Recovered). AfterNext old r new) taken state)) (stays-on after fewer false)
  on-next after fewer new found.Memory result told taken state =
      subst (IsOn file after) (sym (subst (λ (r : Recovered). AfterNext old r new) taken state)) (stays-on after fewer old.live)
