-- For which payloads a file stands.
use Rattle.std.proofs.Common.{◌≡◌, ◌≢◌, ◌<◌, ◌≤◌, ◌+◌, ℕ, zero, suc, Bool, true, false, List, [], ◌∷◌, ◌++◌}
use Rattle.std.proofs.Common.{length, take, drop, refl, sym, ◌∙◌, ap, subst, arith, append_assoc, length-append, zero-add, inl, inr, ◌⊎◌}
use Rattle.std.specs.Prelude.{◌&&◌, nat_lt}
use Rattle.std.specs.List.{AllByRecursion}
use Rattle.std.specs.Int.{w32, to_be_bytes}
use Rattle.std.proofs.lemmas.Bool.{cases_eq, lt-ltb, ne_eqb}
use Rattle.std.proofs.lemmas.List.{append-nil, take_at, drop_at}
use Rattle.std.proofs.lemmas.Nat.{from_be_bytes-to_be_bytes_4}
use Rattle.tb_journal.specs.Records.{length_at, is_whole, payload_at, after_record, payloads, behind_records, end_of, IsShut, record_of, records_of, HasLength}
use Rattle.tb_journal.specs.Stops.{Ends}

module _ (payload rest : List ℕ) (short : HasLength payload) where
  length-is : length_at (record_of payload ++ rest) ≡ length payload
  length-is = from_be_bytes-to_be_bytes_4 (length payload) short

  whole : 0 < length rest → is_whole (record_of payload ++ rest) ≡ true
  whole some = lt-ltb (5 + length_at (record_of payload ++ rest)) (length (record_of payload ++ rest)) (omega (arith, length-is, some, length-append payload rest))

  payload-is : payload_at (record_of payload ++ rest) ≡ payload
  payload-is = ap (λ (n : ℕ). take n (drop 5 (record_of payload ++ rest))) length-is ∙ take_at payload rest (length payload) refl

  after-is : after_record (record_of payload ++ rest) ≡ rest
  after-is = ap (λ (n : ℕ). drop (5 + n) (record_of payload ++ rest)) length-is ∙ drop_at (record_of payload) rest (5 + length payload) (omega arith)

  -- a record in front is the first
  one-payload : (n : ℕ) → 0 < length rest → payloads (suc n) (record_of payload ++ rest) ≡ payload ∷ payloads n rest
  one-payload n some = rw (whole some, payload-is, after-is) refl

  one-behind : (n : ℕ) → 0 < length rest → behind_records (suc n) (record_of payload ++ rest) ≡ behind_records n rest
  one-behind n some = rw (whole some, after-is) refl

-- no record is in front of a gate that isn't open
none-payload : (n gate : ℕ) (rest : List ℕ) → gate ≢ 1 → payloads n (gate ∷ rest) ≡ []
none-payload zero gate rest shut = refl
none-payload (suc n) gate rest shut = let no_record : is_whole (gate ∷ rest) ≡ false = ap (λ (b : Bool). b && nat_lt (5 + length_at (gate ∷ rest)) (length (gate ∷ rest))) (ne_eqb gate 1 shut) in rw no_record refl

none-behind : (n gate : ℕ) (rest : List ℕ) → gate ≢ 1 → behind_records n (gate ∷ rest) ≡ gate ∷ rest
none-behind zero gate rest shut = refl
none-behind (suc n) gate rest shut = let no_record : is_whole (gate ∷ rest) ≡ false = ap (λ (b : Bool). b && nat_lt (5 + length_at (gate ∷ rest)) (length (gate ∷ rest))) (ne_eqb gate 1 shut) in rw no_record refl

more-than-none : (ps : List (List ℕ)) (rest : List ℕ) → 0 < length rest → 0 < length (records_of ps ++ rest)
more-than-none ps rest some = omega (arith, length-append (records_of ps) rest)

-- records, and then a gate that isn't open
some-payloads : (n gate : ℕ) (ps : List (List ℕ)) (rest : List ℕ) → AllByRecursion HasLength ps → length ps ≤ n → gate ≢ 1 → payloads n (records_of ps ++ (gate ∷ rest)) ≡ ps
some-payloads n gate [] rest each le shut = none-payload n gate rest shut
some-payloads zero gate (p ∷ ps) rest each le shut = absurd (omega arith)
some-payloads (suc n) gate (p ∷ ps) rest each le shut =
    ap (payloads (suc n)) (append_assoc (record_of p) (records_of ps) (gate ∷ rest))
    ∙ one-payload p (records_of ps ++ (gate ∷ rest)) each.0 n (more-than-none ps (gate ∷ rest) (omega arith))
    ∙ ap (λ (qs : List (List ℕ)). p ∷ qs) (some-payloads n gate ps rest each.1 (omega arith) shut)

-- records in front of anything that begins with a gate
pub first-payloads : (m n : ℕ) (ps : List (List ℕ)) (rest : List ℕ) → AllByRecursion HasLength ps → m ≡ length ps + n → 0 < length rest → payloads m (records_of ps ++ rest) ≡ ps ++ payloads n rest
first-payloads m n [] rest each is some = ap (λ (k : ℕ). payloads k rest) (is ∙ zero-add n)
first-payloads zero n (p ∷ ps) rest each is some = absurd (omega (arith, is))
first-payloads (suc m) n (p ∷ ps) rest each is some =
    ap (payloads (suc m)) (append_assoc (record_of p) (records_of ps) rest)
    ∙ one-payload p (records_of ps ++ rest) each.0 m (more-than-none ps rest some)
    ∙ ap (λ (qs : List (List ℕ)). p ∷ qs) (first-payloads m n ps rest each.1 (omega (arith, is)) some)

-- and what stands behind them
pub first-behind : (m n : ℕ) (ps : List (List ℕ)) (rest : List ℕ) → AllByRecursion HasLength ps → m ≡ length ps + n → 0 < length rest → behind_records m (records_of ps ++ rest) ≡ behind_records n rest
first-behind m n [] rest each is some = ap (λ (k : ℕ). behind_records k rest) (is ∙ zero-add n)
first-behind zero n (p ∷ ps) rest each is some = absurd (omega (arith, is))
first-behind (suc m) n (p ∷ ps) rest each is some =
    ap (behind_records (suc m)) (append_assoc (record_of p) (records_of ps) rest)
    ∙ one-behind p (records_of ps ++ rest) each.0 m (more-than-none ps rest some)
    ∙ first-behind m n ps rest each.1 (omega (arith, is)) some

some-behind : (n gate : ℕ) (ps : List (List ℕ)) (rest : List ℕ) → AllByRecursion HasLength ps → length ps ≤ n → gate ≢ 1 → behind_records n (records_of ps ++ (gate ∷ rest)) ≡ gate ∷ rest
some-behind n gate [] rest each le shut = none-behind n gate rest shut
some-behind zero gate (p ∷ ps) rest each le shut = absurd (omega arith)
some-behind (suc n) gate (p ∷ ps) rest each le shut =
    ap (behind_records (suc n)) (append_assoc (record_of p) (records_of ps) (gate ∷ rest))
    ∙ one-behind p (records_of ps ++ (gate ∷ rest)) each.0 n (more-than-none ps (gate ∷ rest) (omega arith))
    ∙ some-behind n gate ps rest each.1 (omega arith) shut

-- a file has at least as many bytes as records
pub few-records : (ps : List (List ℕ)) → length ps ≤ length (records_of ps)
few-records [] = omega arith
few-records (p ∷ ps) = omega (arith, few-records ps, length-append (record_of p) (records_of ps))

-- eight bytes, records, and then a gate that isn't open: the file stands for their payloads
pub ends-shut : (head : List ℕ) (ps : List (List ℕ)) (gate : ℕ) (rest : List ℕ) → length head ≡ 8 → AllByRecursion HasLength ps → gate ≢ 1 → Ends head ps (head ++ (records_of ps ++ (gate ∷ rest)))
ends-shut head ps gate rest long each shut =
    let file = head ++ (records_of ps ++ (gate ∷ rest)) in
    let behind : drop 8 file ≡ records_of ps ++ (gate ∷ rest) = drop_at head (records_of ps ++ (gate ∷ rest)) 8 long in
    let le : length ps ≤ length file = omega (arith, few-records ps, length-append head (records_of ps ++ (gate ∷ rest)), length-append (records_of ps) (gate ∷ rest)) in
    let at_end : end_of file ≡ gate ∷ rest = ap (behind_records (length file)) behind ∙ some-behind (length file) gate ps rest each le shut in
    record {
      begins = take_at head (records_of ps ++ (gate ∷ rest)) 8 long;
      stands = ap (payloads (length file)) behind ∙ some-payloads (length file) gate ps rest each le shut;
      shut = subst IsShut (sym at_end) shut;
    }

pub records-append : (ps : List (List ℕ)) (p rest : List ℕ) → records_of (ps ++ p ∷ []) ++ rest ≡ records_of ps ++ (record_of p ++ rest)
records-append [] p rest = ap (λ (l : List ℕ). l ++ rest) (append-nil (record_of p))
records-append (q ∷ ps) p rest =
    append_assoc (record_of q) (records_of (ps ++ p ∷ [])) rest
    ∙ ap (λ (l : List ℕ). record_of q ++ l) (records-append ps p rest)
    ∙ sym (append_assoc (record_of q) (records_of ps) (record_of p ++ rest))

pub each-append : (ps : List (List ℕ)) (p : List ℕ) → AllByRecursion HasLength ps → HasLength p → AllByRecursion HasLength (ps ++ p ∷ [])
each-append [] p each one = (one, tt)
each-append (q ∷ ps) p each one = (each.0, each-append ps p each.1 one)

-- one payload more, or not
abbrev pub Either : List ℕ → List (List ℕ) → List ℕ → List ℕ → Type 0
Either head ps p file = Ends head ps file ⊎ Ends head (ps ++ p ∷ []) file

-- behind any gate a whole record and a gate that isn't open: with that payload or without
pub ends-either : (head : List ℕ) (ps : List (List ℕ)) (gate : ℕ) (p rest : List ℕ) → length head ≡ 8 → AllByRecursion HasLength ps → HasLength p
    → Either head ps p (head ++ (records_of ps ++ (gate ∷ to_be_bytes w32 (length p) ++ p ++ 0 ∷ rest)))
ends-either head ps gate p rest long each one = elim (cases_eq gate 1) [
  | inl is_open ↦
      let same : head ++ (records_of (ps ++ p ∷ []) ++ (0 ∷ rest)) ≡ head ++ (records_of ps ++ (gate ∷ to_be_bytes w32 (length p) ++ p ++ 0 ∷ rest)) =
      ap (λ (l : List ℕ). head ++ l) (records-append ps p (0 ∷ rest)) ∙ ap (λ (g : ℕ). head ++ (records_of ps ++ (g ∷ to_be_bytes w32 (length p) ++ p ++ 0 ∷ rest))) (sym is_open) in
      inr (subst (Ends head (ps ++ p ∷ [])) same (ends-shut head (ps ++ p ∷ []) 0 rest long (each-append ps p each one) (omega arith)))
  | inr shut ↦ inl (ends-shut head ps gate (to_be_bytes w32 (length p) ++ p ++ 0 ∷ rest) long each shut)
]
