-- Reading so many fields one after the other, as a loop does.
use Rattle.std.proofs.Common.{◌≡◌, ℕ, suc, ◌-◌, ◌+◌, ◌≤◌, ◌<◌, List, [], ◌∷◌, ◌++◌, Option, Some, None, refl, sym, ap, ◌∙◌, append_assoc, arith}
use Rattle.std.proofs.lemmas.List.{append-nil}
use Rattle.tb_spelling.specs.declared.fault.PayloadFault.{PayloadFault}
use Rattle.tb_spelling.specs.declared.fault.PayloadFault.TheVariants.{Bad, Memory}
use Rattle.tb_spelling.specs.Fields.{Reader, then_read, many_at, Fails}

module _ {A : Type 0} (one : Reader A) where
  -- what was read before, and what is still read
  abbrev pub with_front : List A → Option (List A × List ℕ) → Option (List A × List ℕ)
  with_front front read = then_read read (λ xs rest. Some (front ++ xs, rest))

  regroup : (front : List A) (x : A) (read : Option (List A × List ℕ)) → with_front front (then_read read (λ xs end. Some (x ∷ xs, end))) ≡ with_front (front ++ x ∷ []) read
  regroup front x None = refl
  regroup front x (Some y) = ap (λ (xs : List A). Some (xs, y.1)) (sym (append_assoc front (x ∷ []) y.0))

  module _ (front : List A) (count i : ℕ) (bytes : List ℕ) (total : Option (List A × List ℕ)) (so_far : with_front front (many_at one (count - i) bytes) ≡ total) where
    pub one_more : (x : A) (after : List ℕ) → i < count → one bytes ≡ Some (x, after) → with_front (front ++ x ∷ []) (many_at one (count - (i + 1)) after) ≡ total
    one_more x after lt h =
        let k : count - i ≡ suc (count - (i + 1)) = omega arith in
        let this : with_front front (many_at one (count - i) bytes) ≡ with_front (front ++ x ∷ []) (many_at one (count - (i + 1)) after) = rw (k, h) (regroup front x (many_at one (count - (i + 1)) after)) in
        sym this ∙ so_far

    pub fails : (e : PayloadFault) → i < count → Fails e (one bytes) → Fails e total
    fails Bad lt h =
        let k : count - i ≡ suc (count - (i + 1)) = omega arith in
        let this : with_front front (many_at one (count - i) bytes) ≡ None = rw (k, h) refl in
        sym so_far ∙ this
    fails Memory lt h = tt

    pub all_read : count ≤ i → total ≡ Some (front, bytes)
    all_read le =
        let k : count - i ≡ 0 = omega arith in
        let this : with_front front (many_at one (count - i) bytes) ≡ Some (front, bytes) = rw k (ap (λ (xs : List A). Some (xs, bytes)) (append-nil front)) in
        sym so_far ∙ this
