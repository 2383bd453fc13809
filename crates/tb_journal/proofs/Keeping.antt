-- A journal at its end, and what one more record makes of it.
use Rattle.std.proofs.Common.{◌≡◌, ◌≢◌, ◌<◌, ◌^◌, ◌+◌, ◌-◌, ℕ, true, List, [], ◌∷◌, ◌++◌, take, length, get_or, min, refl, arith, ap, subst, sym, ◌∙◌, length-append}
use Rattle.std.proofs.lemmas.List.{take_at}
use Rattle.tb_journal.specs.Records.{behind_of, payload_behind, records_of, stands_for, HasGate}
use Rattle.tb_journal.specs.Stops.{IsOn, IsKeptOn, Ends}
use Rattle.tb_journal.specs.States.{JournalState}
use Rattle.tb_journal.specs.Through.{IsReady, IsPut}
use Rattle.tb_journal.proofs.Putting.{parts-of, ends-now}

-- a journal at its end is where a record can be written
pub ready : (file : List ℕ) (images : List ℕ → Type 0) (journal : JournalState) → journal.at_end ≡ true → IsOn file images journal → IsReady images journal.place file
ready file images journal ended on = record { shut = record { gate = on.gate; shut = on.shut ended }; durable = on.durable; small = on.small }

-- a place that lies in a file of 64 bits was not cut off
pub place-exact : (file : List ℕ) (place n sum : ℕ) → length file < 2 ^ 64 → HasGate file (place + n) → sum ≡ min (place + n) (2 ^ 64 - 1) → sum ≡ place + n
place-exact file place n sum small gate is =
    omega (arith, is, small, ap length gate.split, length-append gate.head (records_of gate.so_far ++ gate.rest), length-append (records_of gate.so_far) gate.rest, gate.long, gate.here, gate.lies)

-- after one more record the journal is on the file
pub kept : (old new : List ℕ) (images : List ℕ → Type 0) (place : ℕ) (payload behind : List ℕ) (journal : JournalState) → behind ≡ behind_of payload → IsPut images place payload old new → journal.place ≡ min (place + length behind) (2 ^ 64 - 1) → IsKeptOn images journal payload old new
kept old new images place payload behind journal same put is =
    let exact : journal.place ≡ place + length (behind_of payload) = place-exact new place (length (behind_of payload)) journal.place put.ready.small put.ready.shut.gate (is ∙ ap (λ (bs : List ℕ). min (place + length bs) (2 ^ 64 - 1)) same) in
    record {
      ends = put.ends;
      on = record {
        gate = subst (HasGate new) (sym exact) put.ready.shut.gate;
        durable = put.ready.durable;
        small = put.ready.small;
        shut = λ ended. subst (λ (p : ℕ). get_or new p 1 ≢ 1) (sym exact) put.ready.shut.shut;
      };
    }

-- the file of a journal at its end stands for some payloads, and the gate behind them is shut
pub ends-on : (file : List ℕ) (images : List ℕ → Type 0) (journal : JournalState) → journal.at_end ≡ true → IsOn file images journal → Ends (take 8 file) (stands_for file) file
ends-on file images journal ended on = ends-now file journal.place (parts-of file journal.place (ready file images journal ended on).shut)

-- the payload in what is written for it
pub payload-is : (payload : List ℕ) → payload_behind (behind_of payload) ≡ payload
payload-is payload =
    let size : length (behind_of payload) - 5 ≡ length payload = omega (arith, length-append payload (0 ∷ [])) in
    ap (λ (n : ℕ). take n (payload ++ 0 ∷ [])) size ∙ take_at payload (0 ∷ []) (length payload) refl

-- what is written for a payload, as a slice
module _ (slice bytes payload : List ℕ) (same : slice ≡ bytes) (is : bytes ≡ behind_of payload) where
  pub payload-of : payload_behind slice ≡ payload
  payload-of = ap payload_behind (same ∙ is) ∙ payload-is payload

  pub behind-so : slice ≡ behind_of (payload_behind slice)
  behind-so = same ∙ is ∙ ap behind_of (sym payload-of)
