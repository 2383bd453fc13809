-- A text that goes to a sink piece by piece, behind bytes that wait.
use Rattle.std.proofs.Common.{◌≡◌, ℕ, ◌+◌, ◌≤◌, List, [], ◌∷◌, ◌++◌, Option, Some, Result, Ok, Err, length, get_or, refl, ap, sym, ◌∙◌, subst, append_assoc, append-nil, arith}
use Rattle.std.specs.Prelude.{All, OnErr}
use Rattle.tb_io.specs.Faults.{HasRisen}
use Rattle.tb_io.specs.Taken.{IsWritten, Took, TookPart}
use Rattle.tb_io.specs.declared.answers.Wrote.{Wrote}
use Rattle.tb_io.specs.declared.answers.Wrote.TheVariants as wrote
use Rattle.tb_io.proofs.FaultLemmas.{HasRisen-earlier}
use Rattle.tb_io.proofs.TakenLemmas.{Took-nothing, Took-append, TookPart-append, TookPart-longer}
use Rattle.tb_text.specs.Passing.{IsOn, IsCut, HasRoom}

-- what was taken, what waits and a rest are the whole text
pub record IsBefore (faults faults' : ℕ) (taken taken' : Option (List ℕ)) (waiting rest text : List ℕ) : Type 0 where
  pub count : faults ≤ faults'
  pub passed : List ℕ
  pub took : Took taken taken' passed
  pub same : (passed ++ waiting) ++ rest ≡ text

-- nothing was taken yet
pub begins : (f : ℕ) (t : Option (List ℕ)) (w rest text : List ℕ) → w ++ rest ≡ text → IsBefore f f t t w rest text
begins f t w rest text e = record { count = omega arith; passed = []; took = Took-nothing t; same = e }

-- no rest is left
pub ends : {f f' : ℕ} {t t' : Option (List ℕ)} {w rest text : List ℕ} → rest ≡ [] → IsBefore f f' t t' w rest text → IsOn f f' t t' w text
ends {w} none h = record {
  count = h.count;
  passed = h.passed;
  took = h.took;
  same = sym (append-nil (h.passed ++ w)) ∙ ap (λ r. (h.passed ++ w) ++ r) (sym none) ∙ h.same;
}

-- one more piece
pub goes : {f f1 f2 : ℕ} {t t1 t2 : Option (List ℕ)} {w1 w2 : List ℕ} (piece : List ℕ) {rest after text : List ℕ} → ((x : List ℕ) → x ++ rest ≡ text → (x ++ piece) ++ after ≡ text)
    → IsBefore f f1 t t1 w1 rest text → IsOn f1 f2 t1 t2 w2 (w1 ++ piece) → IsBefore f f2 t t2 w2 after text
goes {t} {t1} {t2} {w1} {w2} piece {after} step h k = record {
  count = omega (arith, h.count, k.count);
  passed = h.passed ++ k.passed;
  took = Took-append t t1 t2 h.passed k.passed h.took k.took;
  same =
      ap (λ x. x ++ after) (append_assoc h.passed k.passed w2 ∙ ap (λ x. h.passed ++ x) k.same ∙ sym (append_assoc h.passed w1 piece))
      ∙ step (h.passed ++ w1) h.same;
}

-- the sink fails within one more piece
pub cut_off : {f f1 f2 : ℕ} {t t1 t2 : Option (List ℕ)} {w1 : List ℕ} (piece : List ℕ) {rest : List ℕ} (after : List ℕ) {text : List ℕ} → ((x : List ℕ) → x ++ rest ≡ text → (x ++ piece) ++ after ≡ text)
    → IsBefore f f1 t t1 w1 rest text → IsCut f1 f2 t1 t2 (w1 ++ piece) → IsCut f f2 t t2 text
cut_off {f} {f1} {f2} {t} {t1} {t2} {w1} piece after {text} step h k =
    let whole : TookPart t t2 (h.passed ++ (w1 ++ piece)) = TookPart-append t t1 t2 h.passed (w1 ++ piece) h.took k.part in
    let same : (h.passed ++ (w1 ++ piece)) ++ after ≡ text = ap (λ x. x ++ after) (sym (append_assoc h.passed w1 piece)) ∙ step (h.passed ++ w1) h.same in
    record {
      count = omega (arith, h.count, k.count);
      risen = HasRisen-earlier f f1 f2 h.count k.risen k.count;
      part = subst (λ (s : List ℕ). TookPart t t2 s) same (TookPart-longer t t2 (h.passed ++ (w1 ++ piece)) after whole);
    }

-- the sink fails before one more piece
pub cut_longer : {f f' : ℕ} {t t' : Option (List ℕ)} {text : List ℕ} (more : List ℕ) → IsCut f f' t t' text → IsCut f f' t t' (text ++ more)
cut_longer {t} {t'} {text} more h = record { count = h.count; risen = h.risen; part = TookPart-longer t t' text more h.part }

-- one more piece waits
pub waits : {f f' : ℕ} {t t' : Option (List ℕ)} {w w' text : List ℕ} (more : List ℕ) → w' ≡ w ++ more → IsOn f f' t t' w text → IsOn f f' t t' w' (text ++ more)
waits {w} more e h = record {
  count = h.count;
  passed = h.passed;
  took = h.took;
  same = ap (λ x. h.passed ++ x) e ∙ sym (append_assoc h.passed w more) ∙ ap (λ x. x ++ more) h.same;
}

-- all that there is waits
pub all_waits : (f : ℕ) (t : Option (List ℕ)) (w : List ℕ) → IsOn f f t t w w
all_waits f t w = record { count = omega arith; passed = []; took = Took-nothing t; same = refl }

-- what waits was handed on
pub handed_on : {f f' : ℕ} {t t' : Option (List ℕ)} {w bytes text : List ℕ} → w ≡ [] → bytes ≡ text → f ≤ f' → Took t t' bytes → IsOn f f' t t' w text
handed_on {bytes} none same count took = record { count = count; passed = bytes; took = took; same = ap (λ x. bytes ++ x) none ∙ append-nil bytes ∙ same }

-- the sink fails as it is handed on
pub cut_there : {f f' : ℕ} {t t' : Option (List ℕ)} {bytes text : List ℕ} → bytes ≡ text → f ≤ f' → HasRisen f f' → TookPart t t' bytes → IsCut f f' t t' text
cut_there {t} {t'} same count risen part = record { count = count; risen = risen; part = subst (λ (s : List ℕ). TookPart t t' s) same part }

-- and then one more piece
pub handed_past : {f f1 f2 : ℕ} {t t1 t2 : Option (List ℕ)} {w w' text more : List ℕ} → w ≡ [] → w' ≡ w → IsOn f f1 t t1 w text → IsWritten wrote.All f1 f2 t1 t2 more
    → IsOn f f2 t t2 w' (text ++ more)
handed_past {t} {t1} {t2} {text} {more} none stays h k =
    let before : h.passed ≡ text = sym (append-nil h.passed) ∙ ap (λ x. h.passed ++ x) (sym none) ∙ h.same in
    record {
      count = omega (arith, h.count, k.count);
      passed = h.passed ++ more;
      took = Took-append t t1 t2 h.passed more h.took (k.all refl);
      same = ap (λ x. (h.passed ++ more) ++ x) (stays ∙ none) ∙ append-nil (h.passed ++ more) ∙ ap (λ x. x ++ more) before;
    }

-- the sink fails in a write after others
pub failed_past : {f f1 f2 : ℕ} {t t1 t2 : Option (List ℕ)} {w text more : List ℕ} → w ≡ [] → IsOn f f1 t t1 w text → IsWritten wrote.Failed f1 f2 t1 t2 more → IsCut f f2 t t2 (text ++ more)
failed_past {f} {f1} {f2} {t} {t1} {t2} {text} {more} none h k =
    let before : h.passed ≡ text = sym (append-nil h.passed) ∙ ap (λ x. h.passed ++ x) (sym none) ∙ h.same in
    record {
      count = omega (arith, h.count, k.count);
      risen = HasRisen-earlier f f1 f2 h.count (k.failed refl) k.count;
      part = subst (λ (s : List ℕ). TookPart t t2 (s ++ more)) before (TookPart-append t t1 t2 h.passed more h.took (k.part refl));
    }

-- the last write
pub last_write : {w : Wrote} {f f1 f2 : ℕ} {t t1 t2 : Option (List ℕ)} {waiting text : List ℕ} (more : List ℕ) → IsOn f f1 t t1 waiting text → IsWritten w f1 f2 t1 t2 (waiting ++ more)
    → IsWritten w f f2 t t2 (text ++ more)
last_write {f} {f1} {f2} {t} {t1} {t2} {waiting} {text} more h k =
    let same : h.passed ++ (waiting ++ more) ≡ text ++ more = sym (append_assoc h.passed waiting more) ∙ ap (λ x. x ++ more) h.same in
    record {
      count = omega (arith, h.count, k.count);
      failed = λ e. HasRisen-earlier f f1 f2 h.count (k.failed e) k.count;
      all = λ e. subst (λ (s : List ℕ). Took t t2 s) same (Took-append t t1 t2 h.passed (waiting ++ more) h.took (k.all e));
      part = λ e. subst (λ (s : List ℕ). TookPart t t2 s) same (TookPart-append t t1 t2 h.passed (waiting ++ more) h.took (k.part e));
    }

-- no write comes after one that failed
pub cut_write : {f f' : ℕ} {t t' : Option (List ℕ)} {text : List ℕ} (more : List ℕ) → IsCut f f' t t' text → IsWritten wrote.Failed f f' t t' (text ++ more)
cut_write {t} {t'} {text} more h = record { count = h.count; failed = λ _. h.risen; all = λ e. cc; part = λ _. TookPart-longer t t' text more h.part }

-- what an empty sink took and tells, and what waits, are the whole text
pub kept_whole : {f f' : ℕ} {kept kept' w text : List ℕ} → kept ≡ [] → IsOn f f' (Some kept) (Some kept') w text → kept' ++ w ≡ text
kept_whole {w} none h = ap (λ x. x ++ w) (h.took ∙ ap (λ x. x ++ h.passed) none) ∙ h.same

-- there is room for what stands already
pub room_now : (used room : ℕ) (dimensions : List (List (List ℕ))) → HasRoom used room dimensions → used + 16 ≤ room
room_now used room [] h = h
room_now used room (fields ∷ rest) h = h.0

room_more : (used a b : ℕ) (dimensions : List (List (List ℕ))) → a ≤ b → HasRoom used a dimensions → HasRoom used b dimensions
room_more used a b [] le h = omega (arith, le, h)
room_more used a b (fields ∷ rest) le h =
    (omega (arith, le, h.0), λ k d below. room_more (used + length (get_or fields k d)) a b rest le (h.1 k d below))

-- room for the longest field of one more dimension
pub room_before : (fields : List (List ℕ)) (rest : List (List (List ℕ))) (most behind : ℕ) → All (λ field. length field ≤ most) fields → ((used : ℕ) → HasRoom used (used + behind) rest)
    → (used : ℕ) → HasRoom used (used + (most + behind)) (fields ∷ rest)
room_before fields rest most behind longs h used =
    let now : used + 16 ≤ used + behind = room_now used (used + behind) rest (h used) in
    (omega (arith, now), λ k d below. room_more (used + length (get_or fields k d)) (used + length (get_or fields k d) + behind) (used + (most + behind)) rest (omega (arith, longs k d below)) (h (used + length (get_or fields k d))))

-- what is so, is so on an error
pub on_err : {A E : Type 0} (r : Result A E) (P : Type 0) → P → OnErr r P
on_err (Ok x) P p = tt
on_err (Err e) P p = p

-- the same text, put together in another way
pub on_as : {f f' : ℕ} {t t' : Option (List ℕ)} {w text other : List ℕ} → text ≡ other → IsOn f f' t t' w text → IsOn f f' t t' w other
on_as {f} {f'} {t} {t'} {w} e h = subst (λ (s : List ℕ). IsOn f f' t t' w s) e h

pub cut_as : {f f' : ℕ} {t t' : Option (List ℕ)} {text other : List ℕ} → text ≡ other → IsCut f f' t t' text → IsCut f f' t t' other
cut_as {f} {f'} {t} {t'} e h = subst (λ (s : List ℕ). IsCut f f' t t' s) e h

-- nothing is added
pub nothing_added : (f : ℕ) (t : Option (List ℕ)) (w more : List ℕ) → more ≡ [] → IsOn f f t t w (w ++ more)
nothing_added f t w more none = record { count = omega arith; passed = []; took = Took-nothing t; same = sym (ap (λ x. w ++ x) none ∙ append-nil w) }

-- two writes, one after the other
pub two_writes : {w : Wrote} {f f1 f2 : ℕ} {t t1 t2 : Option (List ℕ)} {bytes text more : List ℕ} → bytes ≡ text → f ≤ f1 → Took t t1 bytes → IsWritten w f1 f2 t1 t2 more
    → IsWritten w f f2 t t2 (text ++ more)
two_writes {f} {f1} {f2} {t} {t1} {t2} {bytes} {more} same count took k = record {
  count = omega (arith, count, k.count);
  failed = λ e. HasRisen-earlier f f1 f2 count (k.failed e) k.count;
  all = λ e. subst (λ (s : List ℕ). Took t t2 (s ++ more)) same (Took-append t t1 t2 bytes more took (k.all e));
  part = λ e. subst (λ (s : List ℕ). TookPart t t2 (s ++ more)) same (TookPart-append t t1 t2 bytes more took (k.part e));
}

-- the first of two fails
pub failed_first : {f f' : ℕ} {t t' : Option (List ℕ)} {bytes text : List ℕ} (more : List ℕ) → bytes ≡ text → f ≤ f' → HasRisen f f' → TookPart t t' bytes → IsWritten wrote.Failed f f' t t' (text ++ more)
failed_first {t} {t'} {text} more same count risen part = record {
  count = count;
  failed = λ _. risen;
  all = λ e. cc;
  part = λ _. TookPart-longer t t' text more (subst (λ (s : List ℕ). TookPart t t' s) same part);
}
