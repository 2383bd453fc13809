-- What one more write leaves.
use Rattle.std.proofs.Common.{◌≡◌, ℕ, List, [], ◌∷◌, ◌++◌, map, refl, sym, ◌∙◌, ap, subst}
use Rattle.std.proofs.lemmas.List.{map-append}
use Rattle.tb_disk.specs.Images.{IsWritten}
use Rattle.tb_mem_disk.specs.Writes.{after_writes, overwritten}

pub one-more : (bytes : List ℕ) (writes : List (ℕ × List ℕ)) (write : ℕ × List ℕ) → after_writes bytes (writes ++ write ∷ []) ≡ overwritten write (after_writes bytes writes)
one-more bytes [] write = refl
one-more bytes (w ∷ writes) write = one-more (overwritten w bytes) writes write

-- and so where the writes are seen as values
module _ {A : Type 0} (seen : A → ℕ × List ℕ) (first : List ℕ) (old mid new : List A) (w : A) (at : ℕ) (copy bytes before after : List ℕ) (same : mid ≡ old) (more : new ≡ mid ++ w ∷ []) (one : seen w ≡ (at, copy)) (is : copy ≡ bytes)
    (was : before ≡ after_writes first (map seen old)) (written : IsWritten at bytes before after) where
  pub seen-more : after ≡ after_writes first (map seen new)
  seen-more =
      written.holds
      ∙ ap (overwritten (at, bytes)) was
      ∙ ap (λ (b : List ℕ). overwritten (at, b) (after_writes first (map seen old))) (sym is)
      ∙ ap (λ (v : ℕ × List ℕ). overwritten v (after_writes first (map seen old))) (sym one)
      ∙ sym (one-more first (map seen old) (seen w))
      ∙ ap (after_writes first) (sym (map-append seen old (w ∷ [])))
      ∙ ap (λ (l : List A). after_writes first (map seen l)) (sym (more ∙ ap (λ (l : List A). l ++ w ∷ []) same))

  pub seen-written : (told : List ℕ) → before ≡ told → IsWritten at bytes told (after_writes first (map seen new))
  seen-written told told-is = subst (λ (l : List ℕ). IsWritten at bytes l (after_writes first (map seen new))) told-is (subst (IsWritten at bytes before) seen-more written)
