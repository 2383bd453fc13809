-- What the opening of a journal finds, and what a stop in it leaves.
use Rattle.std.proofs.Common.{◌≡◌, ◌≤◌, ◌<◌, ◌+◌, ◌==◌, ℕ, zero, suc, Bool, true, false, List, [], ◌∷◌, ◌++◌, Option}
use Rattle.std.proofs.Common.{length, take, drop, get_or, refl, sym, ◌∙◌, ap, subst, arith, inl, inr, length-append, length-drop, length-take, take-append-drop}
use Rattle.std.specs.Prelude.{◌&&◌, nat_le, if◌then◌else◌}
use Rattle.std.proofs.lemmas.Bool.{le-leb, le-ltb, leb-true, lt-leb}
use Rattle.std.proofs.lemmas.List.{drop_all, length-take-le}
use Rattle.tb_disk.specs.Images.{Fewer, Only, Torn, WhereTold}
use Rattle.tb_disk.specs.Moments.{LeavesOnly}
use Rattle.tb_disk.specs.Quiet.{IsQuiet}
use Rattle.tb_disk.proofs.Going.{joins, weaker}
use Rattle.tb_disk.proofs.Past.{past-then}
use Rattle.tb_disk.proofs.Telling.{Leads-first}
use Rattle.tb_journal.specs.declared.opening.JournalOpen.{JournalOpen}
use Rattle.tb_journal.specs.declared.opening.JournalOpen.TheVariants.{DiskFault}
use Rattle.tb_journal.specs.Records.{length_at, is_whole, payloads, payloads_before, stands_for}
use Rattle.tb_journal.specs.Opening.{header, Begins, IsFew, IsLong, IsBegun, IsOpened, StandsAsOne, opened_file}
use Rattle.tb_journal.specs.Through.{IsThrough}

and-false : (b : Bool) → (b && false) ≡ false
and-false true = refl
and-false false = refl

short-none : (n : ℕ) (bytes : List ℕ) → length bytes ≤ 5 → payloads n bytes ≡ []
short-none zero bytes short = refl
short-none (suc n) bytes short =
    let no_record : is_whole bytes ≡ false =
    ap (λ (b : Bool). (get_or bytes 0 0 == 1) && b) (le-ltb (5 + length_at bytes) (length bytes) (omega arith)) ∙ and-false (get_or bytes 0 0 == 1) in
    rw no_record refl

-- a file of at most nine bytes stands for no payload
pub few-stands : (file : List ℕ) → IsFew file → stands_for file ≡ []
few-stands file few = short-none (length file) (drop 8 file) (omega (arith, length-drop 8 file, few))

pub few-torn : (file image : List ℕ) → IsFew file → Torn 0 9 file image → IsFew image
few-torn file image few torn = omega (arith, torn.no_longer, few)

-- no payload stands before the first gate
none-before : (file : List ℕ) → payloads_before 8 file ≡ []
none-before file = few-stands (take 8 file ++ 0 ∷ []) (omega (arith, length-append (take 8 file) (0 ∷ []), length-take 8 file))

if-few : (file : List ℕ) → IsFew file → (x y : List ℕ) → x ≡ (if nat_le (length file) 9 then x else y)
if-few file few x y = ap (λ (b : Bool). if b then x else y) (sym (le-leb (length file) 9 few))

if-long : (file : List ℕ) → 9 < length file → (x y : List ℕ) → y ≡ (if nat_le (length file) 9 then x else y)
if-long file long x y = ap (λ (b : Bool). if b then x else y) (sym (lt-leb (length file) 9 long))

-- the file that is written anew
pub anew : (file next : List ℕ) (images : List ℕ → Type 0) → IsFew file → IsThrough images 0 (84 ∷ 66 ∷ 74 ∷ 79 ∷ 85 ∷ 82 ∷ 78 ∷ 49 ∷ 0 ∷ []) file next → IsBegun images file next
anew file next images few through =
    let is : next ≡ 84 ∷ 66 ∷ 74 ∷ 79 ∷ 85 ∷ 82 ∷ 78 ∷ 49 ∷ 0 ∷ [] =
    through.written.holds ∙ ap (λ (l : List ℕ). 84 ∷ 66 ∷ 74 ∷ 79 ∷ 85 ∷ 82 ∷ 78 ∷ 49 ∷ 0 ∷ l) (drop_all 9 file few) in
    record {
      as_opened = record {
        is = is ∙ if-few file few (header ++ 0 ∷ []) file;
        stands = few-stands next (omega (arith, ap length is)) ∙ sym (few-stands file few);
        before = none-before next;
      };
      on = record {
        gate = record { head = header; so_far = []; rest = 0 ∷ []; long = refl; split = is; here = refl; lies = omega arith; each = tt };
        durable = through.durable;
        small = through.written.small;
        shut = λ ended. absurd cc;
      };
    }

-- a longer file as it is
pub looked : (file : List ℕ) (images : List ℕ → Type 0) → IsLong file → Only file images → IsBegun images file file
looked file images long only = record {
  as_opened = record { is = if-long file long.0 (header ++ 0 ∷ []) file; stands = refl; before = none-before file };
  on = record {
    gate = record { head = take 8 file; so_far = []; rest = drop 8 file; long = length-take-le 8 file (omega (arith, long.0)); split = sym (take-append-drop 8 file); here = refl; lies = omega (arith, length-drop 8 file, long.0); each = tt };
    durable = only;
    small = long.1;
    shut = λ ended. absurd cc;
  };
}

pub as-one-now : (images : List ℕ → Type 0) (image : List ℕ) → images image → StandsAsOne images image
as-one-now images image here = record { first = image; left = here; same = inl refl; stands = refl }

pub as-one-fewer : (old new : List ℕ → Type 0) → Fewer old new → (image : List ℕ) → StandsAsOne new image → StandsAsOne old image
as-one-fewer old new fewer image one = record { first = one.first; left = fewer one.first one.left; same = one.same; stands = one.stands }

pub as-one-few : (images : List ℕ → Type 0) (file image : List ℕ) → images file → IsFew file → IsFew image → StandsAsOne images image
as-one-few images file image here few short = record { first = file; left = here; same = inr (few, short); stands = few-stands image short ∙ sym (few-stands file few) }

-- a longer file stays as it is when it is opened
pub opened-long : (file : List ℕ) → 9 < length file → opened_file file ≡ file
opened-long file long = sym (if-long file long (header ++ 0 ∷ []) file)

-- a file that was opened is one that a stop before could have left, or neither has more than nine bytes
pub as-one-opened : (images : List ℕ → Type 0) (file new : List ℕ) → images file → IsOpened file new → StandsAsOne images new
as-one-opened images file new here is = from (nat_le (length file) 9) refl
  where
    from : (few : Bool) → nat_le (length file) 9 ≡ few → StandsAsOne images new
    from true few =
        let short : new ≡ header ++ 0 ∷ [] = is.is ∙ ap (λ (b : Bool). if b then header ++ 0 ∷ [] else file) few in
        as-one-few images file new here (leb-true (length file) 9 few) (omega (arith, ap length short))
    from false long = subst (StandsAsOne images) (sym (is.is ∙ ap (λ (b : Bool). if b then header ++ 0 ∷ [] else file) long)) (as-one-now images file here)

module _ {D : Type 0} (content : D → Option (List ℕ)) (may_leave : D → List ℕ → Type 0) (moment : D → ℕ) (left_since : D → ℕ → List ℕ → Type 0) where
  -- what a stop in calls that change nothing leaves
  pub stop-quiet : (old new : D) → IsQuiet content may_leave moment left_since old new → WhereTold (content old) (λ _. LeavesOnly moment left_since old new (StandsAsOne (may_leave old)))
  stop-quiet old new quiet = λ file told. weaker moment left_since old new (may_leave old) (StandsAsOne (may_leave old)) quiet.any_moment (as-one-now (may_leave old))

  -- calls that change nothing, and then the beginning
  pub begins-after : (old mid new : D) (result : JournalOpen) → IsQuiet content may_leave moment left_since old mid → Begins content may_leave moment left_since mid new result → Begins content may_leave moment left_since old new result
  begins-after old mid new result quiet rest = record {
    opens = λ is. Leads-first _ _ _ _ quiet.same (rest.opens is);
    ours = λ is file told. rest.ours is file (quiet.same ∙ told);
    foreign = λ is file told. rest.foreign is file (quiet.same ∙ told);
    untouched = λ is. rest.untouched is ∙ quiet.same;
    durable = λ is file told. rest.durable is file (quiet.same ∙ told);
    any_moment = λ file told.
        joins moment left_since old mid new (StandsAsOne (may_leave old)) (stop-quiet old mid quiet file told)
        (weaker moment left_since mid new (StandsAsOne (may_leave mid)) (StandsAsOne (may_leave old)) (rest.any_moment file (quiet.same ∙ told)) (as-one-fewer (may_leave old) (may_leave mid) quiet.stop));
    past = past-then moment left_since old mid new quiet.past rest.past;
  }

  -- such calls, of which the last failed
  pub begins-not : (old new : D) (result : JournalOpen) → result ≡ DiskFault → IsQuiet content may_leave moment left_since old new → Begins content may_leave moment left_since old new result
  begins-not old new result failed quiet = record {
    opens = λ is. absurd (cc (is, failed));
    ours = λ is file told. absurd (cc (is, failed));
    foreign = λ is file told. absurd (cc (is, failed));
    untouched = λ is. absurd (cc (is, failed));
    durable = λ is file told. absurd (cc (is, failed));
    any_moment = stop-quiet old new quiet;
    past = quiet.past;
  }
