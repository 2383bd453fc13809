-- From one gate to the next.
use Rattle.std.proofs.Common.{◌≡◌, ◌≢◌, ◌<◌, ◌≤◌, ◌+◌, ◌-◌, ℕ, Bool, true, false, eqb, List, [], ◌∷◌, ◌++◌}
use Rattle.std.proofs.Common.{length, take, drop, get_or, refl, sym, ◌∙◌, ap, subst, arith, append_assoc, length-append, length-drop, length-take, take-append-drop}
use Rattle.std.specs.Prelude.{◌&&◌, nat_lt}
use Rattle.std.specs.Int.{w32, to_be_bytes}
use Rattle.std.proofs.lemmas.Bool.{eqb-true, ltb-true}
use Rattle.std.proofs.lemmas.List.{take_at, drop_at, drop_more, drop-drop, get_or_at}
use Rattle.tb_journal.specs.Records.{length_at, payload_at, payloads, stands_for, payloads_before, record_of, records_of, HasGate}
use Rattle.tb_journal.specs.Reading.{IsRecord}
use Rattle.tb_journal.proofs.Standing.{ends-shut, few-records, first-payloads, records-append, each-append}

module _ (file : List ℕ) (place : ℕ) (gate : HasGate file place) where
  abbrev front : List ℕ
  front = gate.head ++ records_of gate.so_far

  size : length front ≡ place
  size = omega (arith, length-append gate.head (records_of gate.so_far), gate.long, gate.here)

  split : file ≡ front ++ gate.rest
  split = gate.split ∙ sym (append_assoc gate.head (records_of gate.so_far) gate.rest)

  -- what stands from the gate on
  pub from-gate : drop place file ≡ gate.rest
  from-gate = ap (drop place) split ∙ drop_at front gate.rest place size

  -- the payloads before it
  pub before-gate : payloads_before place file ≡ gate.so_far
  before-gate =
      ap (λ (l : List ℕ). stands_for (l ++ 0 ∷ [])) (ap (take place) split ∙ take_at front gate.rest place size)
      ∙ ap stands_for (append_assoc gate.head (records_of gate.so_far) (0 ∷ []))
      ∙ (ends-shut gate.head gate.so_far 0 [] gate.long gate.each (omega arith)).stands

  -- the file stands for them, and then for others
  pub stands-beyond : (more : List (List ℕ)) × (stands_for file ≡ payloads_before place file ++ more)
  stands-beyond =
      let left = length file - length gate.so_far in
      let few : length gate.so_far ≤ length file = omega (arith, few-records gate.so_far, ap length gate.split, length-append gate.head (records_of gate.so_far ++ gate.rest), length-append (records_of gate.so_far) gate.rest) in
      let behind : drop 8 file ≡ records_of gate.so_far ++ gate.rest = ap (drop 8) gate.split ∙ drop_at gate.head (records_of gate.so_far ++ gate.rest) 8 gate.long in (
        payloads left gate.rest,
        ap (payloads (length file)) behind
            ∙ first-payloads (length file) left gate.so_far gate.rest gate.each (omega (arith, few)) gate.lies
            ∙ ap (λ (ps : List (List ℕ)). ps ++ payloads left gate.rest) (sym before-gate),
      )

  -- where the gate isn't open, for no others
  pub stands-all : get_or file place 1 ≢ 1 → stands_for file ≡ payloads_before place file
  stands-all shut = from gate.rest refl
    where
      from : (rest : List ℕ) → gate.rest ≡ rest → stands_for file ≡ payloads_before place file
      from [] is = absurd (omega (arith, gate.lies, ap length is))
      from (g ∷ more) is =
          let here : file ≡ front ++ (g ∷ more) = split ∙ ap (λ (l : List ℕ). front ++ l) is in
          let closed : g ≢ 1 = subst (λ (n : ℕ). n ≢ 1) (ap (λ (l : List ℕ). get_or l place 1) here ∙ get_or_at front g more 1 place size) shut in
          ap stands_for (gate.split ∙ ap (λ (l : List ℕ). gate.head ++ (records_of gate.so_far ++ l)) is)
          ∙ (ends-shut gate.head gate.so_far g more gate.long gate.each closed).stands
          ∙ sym before-gate

both-true : (a b : Bool) → (a && b) ≡ true → (a ≡ true) × (b ≡ true)
both-true true true e = (refl, refl)
both-true true false e = absurd cc
both-true false b e = absurd cc

-- a record that stands whole in front
record-whole : (bytes : List ℕ) (n : ℕ) → get_or bytes 0 0 ≡ 1 → 5 + n < length bytes → to_be_bytes w32 n ≡ take 4 (drop 1 bytes) → bytes ≡ record_of (take n (drop 5 bytes)) ++ drop (5 + n) bytes
record-whole bytes n one long four =
    let p = take n (drop 5 bytes) in
    let n-is : length p ≡ n = omega (arith, length-take n (drop 5 bytes), length-drop 5 bytes) in
    let last : drop 5 bytes ≡ p ++ drop (5 + n) bytes = sym (take-append-drop n (drop 5 bytes)) ∙ ap (λ (l : List ℕ). p ++ l) (drop-drop n 5 bytes) in
    let rest : drop 1 bytes ≡ to_be_bytes w32 (length p) ++ (p ++ drop (5 + n) bytes) =
    sym (take-append-drop 4 (drop 1 bytes)) ∙ ap (λ (l : List ℕ). l ++ drop 4 (drop 1 bytes)) (sym four ∙ ap (to_be_bytes w32) (sym n-is))
    ∙ ap (λ (l : List ℕ). to_be_bytes w32 (length p) ++ l) (drop-drop 4 1 bytes ∙ last) in
    drop_more bytes 0 0 (omega arith) ∙ ap (λ (g : ℕ). g ∷ drop 1 bytes) one ∙ ap (λ (l : List ℕ). 1 ∷ l) rest

-- the next gate, and the payloads before it
pub record Next (file : List ℕ) (place : ℕ) (payload : List ℕ) : Type 0 where
  pub gate : HasGate file (place + (5 + length payload))
  pub before : payloads_before (place + (5 + length payload)) file ≡ payloads_before place file ++ payload ∷ []

next-of : (file : List ℕ) (place : ℕ) (gate : HasGate file place) → IsRecord gate.rest → Next file place (payload_at gate.rest)
next-of file place gate there =
    let bytes = gate.rest in
    let n = length_at bytes in
    let payload = payload_at bytes in
    let tests = both-true (eqb (get_or bytes 0 0) 1) (nat_lt (5 + n) (length bytes)) there.whole in
    let one : get_or bytes 0 0 ≡ 1 = eqb-true _ _ tests.0 in
    let long : 5 + n < length bytes = ltb-true _ _ tests.1 in
    let n-is : length payload ≡ n = omega (arith, length-take n (drop 5 bytes), length-drop 5 bytes, long) in
    let parts : bytes ≡ record_of payload ++ drop (5 + n) bytes = record-whole bytes n one long there.four in
    let all : records_of (gate.so_far ++ payload ∷ []) ++ drop (5 + n) bytes ≡ records_of gate.so_far ++ bytes = records-append gate.so_far payload (drop (5 + n) bytes) ∙ ap (λ (l : List ℕ). records_of gate.so_far ++ l) (sym parts) in
    let sum : length (records_of (gate.so_far ++ payload ∷ [])) ≡ length (records_of gate.so_far) + 5 + length payload =
    omega (arith, ap length (records-append gate.so_far payload []), length-append (records_of (gate.so_far ++ payload ∷ [])) [], length-append (records_of gate.so_far) (record_of payload ++ []), length-append (record_of payload) []) in
    let next : HasGate file (place + (5 + length payload)) =
    record {
      head = gate.head;
      so_far = gate.so_far ++ payload ∷ [];
      rest = drop (5 + n) bytes;
      long = gate.long;
      split = gate.split ∙ ap (λ (l : List ℕ). gate.head ++ l) (sym all);
      here = omega (arith, gate.here, sum);
      lies = omega (arith, length-drop (5 + n) bytes, long);
      each = each-append gate.so_far payload gate.each (omega (arith, n-is, there.short));
    } in
    record {
      gate = next;
      before = before-gate file (place + (5 + length payload)) next ∙ ap (λ (ps : List (List ℕ)). ps ++ payload ∷ []) (sym (before-gate file place gate));
    }

-- behind a record that stands whole at a gate
pub next-gate : (file : List ℕ) (place : ℕ) → HasGate file place → IsRecord (drop place file) → Next file place (payload_at (drop place file))
next-gate file place gate there =
    let at : drop place file ≡ gate.rest = from-gate file place gate in
    subst (λ (l : List ℕ). Next file place (payload_at l)) (sym at) (next-of file place gate (subst IsRecord at there))
