-- The two writes of one payload: first what stands behind the gate, and then the gate.
use Rattle.std.proofs.Common.{◌≡◌, ◌≢◌, ◌<◌, ◌≤◌, ◌+◌, ℕ, List, [], ◌∷◌, ◌++◌}
use Rattle.std.proofs.Common.{length, take, drop, get_or, refl, sym, ◌∙◌, ap, subst, arith, append_assoc, length-append, take-append-drop}
use Rattle.std.specs.List.{AllByRecursion}
use Rattle.std.specs.Int.{w32, to_be_bytes}
use Rattle.std.proofs.lemmas.List.{take_at, drop_at, drop_more, drop-drop, get_or_at}
use Rattle.tb_disk.specs.Images.{IsWritten, Torn}
use Rattle.tb_journal.specs.Records.{records_of, record_of, behind_of, HasLength, ShutAt, stands_for}
use Rattle.tb_journal.specs.Stops.{Ends}
use Rattle.tb_journal.proofs.Standing.{Either, ends-shut, ends-either, records-append, each-append}

-- a file with a part in front of a gate
module _ (front : List ℕ) (place : ℕ) (long : length front ≡ place) where
  -- the gate stays where something is written behind it
  pub gate-stays : (gate n : ℕ) (rest image : List ℕ) → Torn (place + 1) n (front ++ (gate ∷ rest)) image → image ≡ front ++ (gate ∷ drop (place + 1) image)
  gate-stays gate n rest image torn =
      let first : take (place + 1) (front ++ (gate ∷ rest)) ≡ front ++ gate ∷ [] =
      ap (take (place + 1)) (sym (append_assoc front (gate ∷ []) rest)) ∙ take_at (front ++ gate ∷ []) rest (place + 1) (omega (arith, length-append front (gate ∷ []), long)) in
      sym (take-append-drop (place + 1) image)
      ∙ ap (λ (l : List ℕ). l ++ drop (place + 1) image) (torn.before ∙ first)
      ∙ append_assoc front (gate ∷ []) (drop (place + 1) image)

  end-of-gate : (gate : ℕ) (rest : List ℕ) → drop (place + 1) (front ++ (gate ∷ rest)) ≡ rest
  end-of-gate gate rest = ap (drop (place + 1)) (sym (append_assoc front (gate ∷ []) rest)) ∙ drop_at (front ++ gate ∷ []) rest (place + 1) (omega (arith, length-append front (gate ∷ []), long))

  to-gate : (gate : ℕ) (rest : List ℕ) → take (place + 1) (front ++ (gate ∷ rest)) ≡ front ++ gate ∷ []
  to-gate gate rest = ap (take (place + 1)) (sym (append_assoc front (gate ∷ []) rest)) ∙ take_at (front ++ gate ∷ []) rest (place + 1) (omega (arith, length-append front (gate ∷ []), long))

  -- what is written behind it
  pub behind-gate : (gate : ℕ) (bytes rest image : List ℕ) → IsWritten (place + 1) bytes (front ++ (gate ∷ rest)) image → image ≡ front ++ (gate ∷ bytes ++ drop (length bytes) rest)
  behind-gate gate bytes rest image written =
      let left : drop (place + 1 + length bytes) (front ++ (gate ∷ rest)) ≡ drop (length bytes) rest =
      sym (drop-drop (length bytes) (place + 1) (front ++ (gate ∷ rest))) ∙ ap (drop (length bytes)) (end-of-gate gate rest) in
      written.holds
      ∙ ap (λ (l : List ℕ). l ++ bytes ++ drop (place + 1 + length bytes) (front ++ (gate ∷ rest))) (to-gate gate rest)
      ∙ ap (λ (l : List ℕ). (front ++ gate ∷ []) ++ bytes ++ l) left
      ∙ append_assoc (front ++ gate ∷ []) bytes (drop (length bytes) rest)
      ∙ append_assoc front (gate ∷ []) (bytes ++ drop (length bytes) rest)

  -- whatever comes of the gate, the rest stays where it alone is written
  pub rest-stays : (gate : ℕ) (rest image : List ℕ) → Torn place 1 (front ++ (gate ∷ rest)) image → image ≡ front ++ (get_or image place 0 ∷ rest)
  rest-stays gate rest image torn =
      let first : take place image ≡ front = torn.before ∙ take_at front (gate ∷ rest) place long in
      let second : drop place image ≡ get_or image place 0 ∷ rest =
      drop_more image place 0 (omega (arith, torn.no_shorter, length-append front (gate ∷ rest), long)) ∙ ap (λ (l : List ℕ). get_or image place 0 ∷ l) (torn.behind ∙ end-of-gate gate rest) in
      sym (take-append-drop place image) ∙ ap (λ (l : List ℕ). l ++ drop place image) first ∙ ap (λ (l : List ℕ). front ++ l) second

  pub gate-written : (gate other : ℕ) (rest image : List ℕ) → IsWritten place (other ∷ []) (front ++ (gate ∷ rest)) image → image ≡ front ++ (other ∷ rest)
  gate-written gate other rest image written =
      written.holds
      ∙ ap (λ (l : List ℕ). l ++ (other ∷ []) ++ drop (place + 1) (front ++ (gate ∷ rest))) (take_at front (gate ∷ rest) place long)
      ∙ ap (λ (l : List ℕ). front ++ (other ∷ []) ++ l) (end-of-gate gate rest)
      ∙ append_assoc front (other ∷ []) rest

-- a file's end, in parts: the front up to the gate, the gate and what stands behind it
pub record Parts (file : List ℕ) (place : ℕ) : Type 0 where
  pub head : List ℕ
  pub so_far : List (List ℕ)
  pub gate : ℕ
  pub more : List ℕ
  pub long : length head ≡ 8
  pub each : AllByRecursion HasLength so_far
  pub split : file ≡ (head ++ records_of so_far) ++ (gate ∷ more)
  pub here : length (head ++ records_of so_far) ≡ place
  pub shut : gate ≢ 1

some-rest : (rest : List ℕ) → 0 < length rest → (g : ℕ) × (more : List ℕ) × (rest ≡ g ∷ more)
some-rest [] lies = absurd (omega arith)
some-rest (g ∷ more) lies = (g, more, refl)

pub parts-of : (file : List ℕ) (place : ℕ) → ShutAt file place → Parts file place
parts-of file place at =
    let h = at.gate in
    let rest = some-rest h.rest h.lies in
    let here : length (h.head ++ records_of h.so_far) ≡ place = omega (arith, length-append h.head (records_of h.so_far), h.long, h.here) in
    let split : file ≡ (h.head ++ records_of h.so_far) ++ (rest.0 ∷ rest.1) = h.split ∙ ap (λ (l : List ℕ). h.head ++ (records_of h.so_far ++ l)) rest.2 ∙ sym (append_assoc h.head (records_of h.so_far) (rest.0 ∷ rest.1)) in
    record {
      head = h.head;
      so_far = h.so_far;
      gate = rest.0;
      more = rest.1;
      long = h.long;
      each = h.each;
      split = split;
      here = here;
      shut = subst (λ (g : ℕ). g ≢ 1) (ap (λ (l : List ℕ). get_or l place 1) split ∙ get_or_at (h.head ++ records_of h.so_far) rest.0 rest.1 1 place here) at.shut;
    }

module _ (file : List ℕ) (place : ℕ) (parts : Parts file place) where
  abbrev front : List ℕ
  front = parts.head ++ records_of parts.so_far

  ends : (gate : ℕ) (rest image : List ℕ) → gate ≢ 1 → image ≡ front ++ (gate ∷ rest) → Ends parts.head parts.so_far image
  ends gate rest image shut is = subst (Ends parts.head parts.so_far) (sym (is ∙ append_assoc parts.head (records_of parts.so_far) (gate ∷ rest))) (ends-shut parts.head parts.so_far gate rest parts.long parts.each shut)

  -- the file as it is stands for the payloads so far
  pub stands-now : stands_for file ≡ parts.so_far
  stands-now = (ends parts.gate parts.more file parts.shut parts.split).stands

  -- it begins with its head
  pub begins-now : take 8 file ≡ parts.head
  begins-now = (ends parts.gate parts.more file parts.shut parts.split).begins

  -- and the gate behind them is shut
  pub ends-now : Ends (take 8 file) (stands_for file) file
  ends-now = record { begins = refl; stands = refl; shut = (ends parts.gate parts.more file parts.shut parts.split).shut }

  -- and so does whatever a stop leaves in the first write
  pub first-stop : (n : ℕ) (image : List ℕ) → Torn (place + 1) n file image → Ends parts.head parts.so_far image
  first-stop n image torn = ends parts.gate (drop (place + 1) image) image parts.shut
      (gate-stays front place parts.here parts.gate n parts.more image (subst (λ (f : List ℕ). Torn (place + 1) n f image) parts.split torn))

  module _ (payload : List ℕ) (one : HasLength payload) (next : List ℕ) (written : IsWritten (place + 1) (behind_of payload) file next) where
    abbrev more : List ℕ
    more = drop (length (behind_of payload)) parts.more

    next-is : next ≡ front ++ (parts.gate ∷ behind_of payload ++ more)
    next-is = behind-gate front place parts.here parts.gate (behind_of payload) parts.more next (subst (λ (f : List ℕ). IsWritten (place + 1) (behind_of payload) f next) parts.split written)

    either : (gate : ℕ) (image : List ℕ) → image ≡ front ++ (gate ∷ behind_of payload ++ more) → Either parts.head parts.so_far payload image
    either gate image is =
        let regrouped : (gate ∷ behind_of payload) ++ more ≡ gate ∷ to_be_bytes w32 (length payload) ++ payload ++ 0 ∷ more = append_assoc (gate ∷ to_be_bytes w32 (length payload) ++ payload) (0 ∷ []) more in
        subst (Either parts.head parts.so_far payload) (sym (is ∙ append_assoc parts.head (records_of parts.so_far) ((gate ∷ behind_of payload) ++ more) ∙ ap (λ (l : List ℕ). parts.head ++ (records_of parts.so_far ++ l)) regrouped))
        (ends-either parts.head parts.so_far gate payload more parts.long parts.each one)

    -- a stop in the second write leaves the new payload or not
    pub second-stop : (image : List ℕ) → Torn place 1 next image → Either parts.head parts.so_far payload image
    second-stop image torn = either (get_or image place 0) image
        (rest-stays front place parts.here parts.gate (behind_of payload ++ more) image (subst (λ (f : List ℕ). Torn place 1 f image) next-is torn))

    -- the gate's place lies in what was written
    pub gate-lies : place ≤ length next
    gate-lies = omega (arith, ap length next-is, length-append front (parts.gate ∷ behind_of payload ++ more), parts.here)

    -- after it the new payload is there, and the gate behind it is shut
    pub both-done : (last : List ℕ) → IsWritten place (1 ∷ []) next last → ShutAt last (place + length (behind_of payload)) × Ends parts.head (parts.so_far ++ payload ∷ []) last
    both-done last opened =
        let is : last ≡ front ++ (1 ∷ behind_of payload ++ more) = gate-written front place parts.here parts.gate 1 (behind_of payload ++ more) last (subst (λ (f : List ℕ). IsWritten place (1 ∷ []) f last) next-is opened) in
        let regrouped : (1 ∷ behind_of payload) ++ more ≡ record_of payload ++ (0 ∷ more) = append_assoc (record_of payload) (0 ∷ []) more in
        let split : last ≡ parts.head ++ (records_of (parts.so_far ++ payload ∷ []) ++ (0 ∷ more)) =
        is ∙ append_assoc parts.head (records_of parts.so_far) ((1 ∷ behind_of payload) ++ more)
        ∙ ap (λ (l : List ℕ). parts.head ++ (records_of parts.so_far ++ l)) regrouped
        ∙ ap (λ (l : List ℕ). parts.head ++ l) (sym (records-append parts.so_far payload (0 ∷ more))) in
        let each = each-append parts.so_far payload parts.each one in
        let size : length (records_of (parts.so_far ++ payload ∷ [])) ≡ length (records_of parts.so_far) + length (record_of payload) =
        omega (arith, ap length (records-append parts.so_far payload []), length-append (records_of (parts.so_far ++ payload ∷ [])) [], length-append (records_of parts.so_far) (record_of payload ++ []), length-append (record_of payload) []) in
        let here : place + length (behind_of payload) ≡ 8 + length (records_of (parts.so_far ++ payload ∷ [])) =
        omega (arith, parts.here, length-append parts.head (records_of parts.so_far), parts.long, size, length-append payload (0 ∷ [])) in
        let fronts : length (parts.head ++ records_of (parts.so_far ++ payload ∷ [])) ≡ place + length (behind_of payload) = omega (arith, length-append parts.head (records_of (parts.so_far ++ payload ∷ [])), parts.long, here) in
        let is_shut : get_or last (place + length (behind_of payload)) 1 ≡ 0 = ap (λ (l : List ℕ). get_or l (place + length (behind_of payload)) 1) (split ∙ sym (append_assoc parts.head (records_of (parts.so_far ++ payload ∷ [])) (0 ∷ more))) ∙ get_or_at (parts.head ++ records_of (parts.so_far ++ payload ∷ [])) 0 more 1 (place + length (behind_of payload)) fronts in (
          record {
            gate = record { head = parts.head; so_far = parts.so_far ++ payload ∷ []; rest = 0 ∷ more; long = parts.long; split = split; here = here; lies = omega arith; each = each };
            shut = λ one. omega (arith, one, is_shut);
          },
          subst (Ends parts.head (parts.so_far ++ payload ∷ [])) (sym split) (ends-shut parts.head (parts.so_far ++ payload ∷ []) 0 more parts.long each (omega arith)),
        )
