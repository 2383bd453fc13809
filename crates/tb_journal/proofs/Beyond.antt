-- What a file stands for beyond a gate: first the payload of the record that is there, or no more where none lies in the file.
use Rattle.std.proofs.Common.{◌≡◌, ◌<◌, ◌+◌, ◌-◌, ℕ, suc, true, false, List, [], ◌∷◌, ◌++◌, length, drop, get_or, refl, sym, ◌∙◌, ap, subst, arith, eqb, length-append, length-drop, length-take}
use Rattle.std.specs.Prelude.{nat_lt}
use Rattle.std.proofs.lemmas.Bool.{and_parts, ltb-true}
use Rattle.std.proofs.lemmas.List.{append-nil, drop_at}
use Rattle.tb_journal.specs.Records.{HasGate, IsShut, after_record, behind_records, end_of, is_whole, length_at, payload_at, payloads, payloads_before, records_of, stands_for}
use Rattle.tb_journal.proofs.Advancing.{before-gate, from-gate}
use Rattle.tb_journal.proofs.Standing.{few-records, first-behind, first-payloads}

-- a payload that lies in the file is as long as its record says
module _ (bytes : List ℕ) (whole : is_whole bytes ≡ true) where
  pub whole-lies : 5 + length_at bytes < length bytes
  whole-lies = ltb-true _ _ (and_parts (eqb (get_or bytes 0 0) 1) (nat_lt (5 + length_at bytes) (length bytes)) whole).1

  pub whole-length : length (payload_at bytes) ≡ length_at bytes
  whole-length = omega (arith, length-take (length_at bytes) (drop 5 bytes), length-drop 5 bytes, whole-lies)

-- an open gate isn't shut
open-not-shut : (bytes : List ℕ) → IsShut bytes → get_or bytes 0 0 ≡ 1 → ⊥
open-not-shut [] shut one = shut
open-not-shut (gate ∷ rest) shut one = shut one

module _ (file : List ℕ) (place : ℕ) (gate : HasGate file place) where
  abbrev beyond : ℕ
  beyond = length file - length gate.so_far - 1

  count : length file ≡ length gate.so_far + suc beyond
  count = omega (arith, few-records gate.so_far, ap length gate.split, length-append gate.head (records_of gate.so_far ++ gate.rest), length-append (records_of gate.so_far) gate.rest, gate.lies)

  behind : drop 8 file ≡ records_of gate.so_far ++ gate.rest
  behind = ap (drop 8) gate.split ∙ drop_at gate.head (records_of gate.so_far ++ gate.rest) 8 gate.long

  all : stands_for file ≡ gate.so_far ++ payloads (suc beyond) gate.rest
  all = ap (payloads (length file)) behind ∙ first-payloads (length file) (suc beyond) gate.so_far gate.rest gate.each count gate.lies

  -- where a record lies in the file, it stands for its payload next
  pub stands-next : is_whole (drop place file) ≡ true → (more : List (List ℕ)) × (stands_for file ≡ payloads_before place file ++ payload_at (drop place file) ∷ more)
  stands-next whole =
      let at = from-gate file place gate in
      let there : is_whole gate.rest ≡ true = ap is_whole (sym at) ∙ whole in
      let first : payloads (suc beyond) gate.rest ≡ payload_at gate.rest ∷ payloads beyond (after_record gate.rest) = rw there refl in (
        payloads beyond (after_record gate.rest),
        all
            ∙ ap (λ (ps : List (List ℕ)). gate.so_far ++ ps) first
            ∙ ap (λ (ps : List (List ℕ)). ps ++ payload_at gate.rest ∷ payloads beyond (after_record gate.rest)) (sym (before-gate file place gate))
            ∙ ap (λ (bytes : List ℕ). payloads_before place file ++ payload_at bytes ∷ payloads beyond (after_record gate.rest)) (sym at),
      )

  -- where none does, for no more, and that is where it ends
  module _ (none : is_whole (drop place file) ≡ false) where
    no_record : is_whole gate.rest ≡ false
    no_record = ap is_whole (sym (from-gate file place gate)) ∙ none

    pub stands-no-more : stands_for file ≡ payloads_before place file
    stands-no-more =
        let last : payloads (suc beyond) gate.rest ≡ [] = rw no_record refl in
        all ∙ ap (λ (ps : List (List ℕ)). gate.so_far ++ ps) last ∙ append-nil gate.so_far ∙ sym (before-gate file place gate)

    end-is : end_of file ≡ drop place file
    end-is =
        let last : behind_records (suc beyond) gate.rest ≡ gate.rest = rw no_record refl in
        ap (behind_records (length file)) behind ∙ first-behind (length file) (suc beyond) gate.so_far gate.rest gate.each count gate.lies ∙ last ∙ sym (from-gate file place gate)

    -- so an open gate is left at its end
    pub ends-open : get_or (drop place file) 0 0 ≡ 1 → IsShut (end_of file) → ⊥
    ends-open one shut = open-not-shut (drop place file) (subst IsShut end-is shut) one
