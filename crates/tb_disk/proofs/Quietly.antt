-- Quiet calls, one after another.
use Rattle.std.proofs.Common.{◌≡◌, ◌≤◌, ℕ, List, Option, refl, ◌∙◌}
use Rattle.tb_disk.specs.Images.{Fewer}
use Rattle.tb_disk.specs.Moments.{Elapses, LeavesOnly}
use Rattle.tb_disk.specs.Quiet.{IsQuiet}
use Rattle.tb_disk.proofs.Going.{starts, goes_on, joins, weaker}
use Rattle.tb_disk.proofs.Past.{past-call, past-none, past-then}

module _ {D : Type 0} (content : D → Option (List ℕ)) (may_leave : D → List ℕ → Type 0) (moment : D → ℕ) (left_since : D → ℕ → List ℕ → Type 0) where
  -- before the first call
  pub quiet-none : (old : D) → ((disk : D) (t : ℕ) (image : List ℕ) → t ≤ moment disk → may_leave disk image → left_since disk t image) → ((image : List ℕ) → left_since old (moment old) image → may_leave old image) → IsQuiet content may_leave moment left_since old old
  quiet-none old counts only = record {
    same = refl;
    stop = λ image left. left;
    any_moment = starts moment left_since old (may_leave old) only;
    past = past-none may_leave moment left_since counts old only;
  }

  -- one call
  pub quiet-call : (old new : D) → ((disk : D) (t : ℕ) (image : List ℕ) → t ≤ moment disk → may_leave disk image → left_since disk t image) → ((image : List ℕ) → left_since old (moment old) image → may_leave old image) → content new ≡ content old → Fewer (may_leave old) (may_leave new) → Elapses (moment old) (moment new) (left_since old) (left_since new) (may_leave new) → IsQuiet content may_leave moment left_since old new
  quiet-call old new counts only same stop time = record {
    same = same;
    stop = stop;
    any_moment = goes_on moment left_since old old new (may_leave old) (may_leave new) (starts moment left_since old (may_leave old) only) time stop;
    past = past-call may_leave moment left_since counts old only new time;
  }

  -- some calls, and some more
  pub quiet-then : (old mid new : D) → IsQuiet content may_leave moment left_since old mid → IsQuiet content may_leave moment left_since mid new → IsQuiet content may_leave moment left_since old new
  quiet-then old mid new first second = record {
    same = second.same ∙ first.same;
    stop = λ image left. first.stop image (second.stop image left);
    any_moment = joins moment left_since old mid new (may_leave old) first.any_moment (weaker moment left_since mid new (may_leave mid) (may_leave old) second.any_moment first.stop);
    past = past-then moment left_since old mid new first.past second.past;
  }
