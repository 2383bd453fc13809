-- Two writes of which each is on the disk before the next: what stands behind a gate, and the gate.
use Rattle.std.proofs.Common.{◌≡◌, ◌≤◌, ◌^◌, ◌+◌, ℕ, List, [], ◌∷◌, ◌++◌, inl}
use Rattle.std.proofs.Common.{length, take, min, ◌-◌, sym, ap, subst, arith, length-append}
use Rattle.tb_disk.specs.Images.{IsWritten, Torn}
use Rattle.tb_journal.specs.Records.{behind_of, records_of, HasLength, stands_for}
use Rattle.tb_journal.specs.Stops.{Ends, EndsWithOrWithout}
use Rattle.tb_journal.specs.Through.{IsThrough, IsReady, IsPut}
use Rattle.tb_journal.proofs.Standing.{Either}
use Rattle.tb_journal.proofs.Putting.{Parts, parts-of, begins-now, stands-now, first-stop, second-stop, gate-lies, both-done}

module _ (file : List ℕ) (place : ℕ) (payload behind : List ℕ) (at : ℕ) (images : List ℕ → Type 0) (ready : IsReady images place file) (one : HasLength payload) (same : behind ≡ behind_of payload) (sum : at ≡ min (place + 1) (2 ^ 64 - 1)) where
  abbrev parts : Parts file place
  parts = parts-of file place ready.shut

  -- the gate's place is below the file's end, so no sum was cut off
  exact : at ≡ place + 1
  exact = omega (arith, sum, ready.small, ap length parts.split, length-append (parts.head ++ records_of parts.so_far) (parts.gate ∷ parts.more), parts.here)

  so-far : parts.so_far ≡ stands_for file
  so-far = sym (stands-now file place parts)

  head : parts.head ≡ take 8 file
  head = sym (begins-now file place parts)

  -- of the parts, and so of the file
  of-file : (F : List ℕ → List (List ℕ) → Type 0) → F parts.head parts.so_far → F (take 8 file) (stands_for file)
  of-file F here = subst (λ (h : List ℕ). F h (stands_for file)) head (subst (F parts.head) so-far here)

  pub first-leaves : (image : List ℕ) → Torn at (length behind) file image → EndsWithOrWithout file payload image
  first-leaves image torn =
      of-file (λ h ps. Either h ps payload image)
      (inl (first-stop file place parts (length behind) image (subst (λ (n : ℕ). Torn n (length behind) file image) exact torn)))

  module _ (next : List ℕ) (after : List ℕ → Type 0) (first : IsThrough after at behind file next) where
    written : IsWritten (place + 1) (behind_of payload) file next
    written = subst (λ (bs : List ℕ). IsWritten (place + 1) bs file next) same (subst (λ (n : ℕ). IsWritten n behind file next) exact first.written)

    pub second-within : place ≤ length next
    second-within = gate-lies file place parts payload one next written

    pub second-leaves : (image : List ℕ) → Torn place 1 next image → EndsWithOrWithout file payload image
    second-leaves image torn = of-file (λ h ps. Either h ps payload image) (second-stop file place parts payload one next written image torn)

    pub puts : (last : List ℕ) (end : List ℕ → Type 0) → IsThrough end place (1 ∷ []) next last → IsPut end place payload file last
    puts last end second =
        let both = both-done file place parts payload one next written last second.written in
        record {
          ends = of-file (λ h ps. Ends h (ps ++ payload ∷ []) last) both.1;
          ready = record { shut = both.0; durable = second.durable; small = second.written.small };
        }
