-- How the past of what stops may have left is kept from call to call.
use Rattle.std.proofs.Common.{◌≡◌, ◌≤◌, sym, subst, inl, inr, ⊎_elim, ℕ, List, arith}
use Rattle.tb_disk.specs.Moments.{Elapses, KeepsPast}

module _ {D : Type 0} (may_leave : D → List ℕ → Type 0) (moment : D → ℕ) (left_since : D → ℕ → List ℕ → Type 0)
    (counts : (disk : D) (t : ℕ) (image : List ℕ) → t ≤ moment disk → may_leave disk image → left_since disk t image)
    (old : D) (only : (image : List ℕ) → left_since old (moment old) image → may_leave old image) where
  -- before the first call
  pub past-none : KeepsPast moment left_since old old
  past-none = record {
    later = omega arith;
    nothing_else = λ t image le left. inl left;
    keeps = λ t image le left. left;
    longer = λ t image le left. counts old t image le (only image left);
  }

  -- one call
  pub past-call : (new : D) → Elapses (moment old) (moment new) (left_since old) (left_since new) (may_leave new) → KeepsPast moment left_since old new
  past-call new time = record {
    later = time.later;
    nothing_else = λ t image le left. ⊎_elim (λ past. inl past) (λ now. inr (counts new (moment old) image time.later now)) (time.nothing_else t image le left);
    keeps = time.keeps;
    longer = λ t image le left. ⊎_elim
        (λ past. time.keeps t image le (counts old t image le (only image past)))
        (λ now. counts new t image (omega (arith, le, time.later)) now)
        (time.nothing_else (moment old) image (omega arith) left);
  }

module _ {D : Type 0} (moment : D → ℕ) (left_since : D → ℕ → List ℕ → Type 0) where
  -- some calls, and some more
  pub past-then : (old mid new : D) → KeepsPast moment left_since old mid → KeepsPast moment left_since mid new → KeepsPast moment left_since old new
  past-then old mid new first second = record {
    later = omega (arith, first.later, second.later);
    nothing_else = λ t image le left. ⊎_elim
        (λ was. ⊎_elim (λ past. inl past) (λ since. inr (second.keeps (moment old) image first.later since)) (first.nothing_else t image le was))
        (λ since. inr (second.longer (moment old) image first.later since))
        (second.nothing_else t image (omega (arith, le, first.later)) left);
    keeps = λ t image le left. second.keeps t image (omega (arith, le, first.later)) (first.keeps t image le left);
    longer = λ t image le left. ⊎_elim
        (λ was. second.keeps t image (omega (arith, le, first.later)) (first.longer t image le was))
        (λ since. second.longer t image (omega (arith, le, first.later)) since)
        (second.nothing_else (moment old) image first.later left);
  }

  -- what is the same disk keeps the same
  pub past-as : (old now new : D) → new ≡ now → KeepsPast moment left_since old now → KeepsPast moment left_since old new
  past-as old now new same past = subst (λ (disk : D). KeepsPast moment left_since old disk) (sym same) past
