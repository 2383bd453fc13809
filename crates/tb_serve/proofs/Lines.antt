-- The lines of the report.
use Rattle.std.proofs.Common.{◌≡◌, ◌∙◌, sym, ap, ℕ, zero, suc, ◌+◌, ◌<◌, ◌≤◌, List, [], ◌∷◌, ◌++◌, length, take, get_or, refl, arith}
use Rattle.std.specs.List.{concat}
use Rattle.std.specs.Prelude.{Option}
use Rattle.std.proofs.Math.Seq.{take-length}
use Rattle.tb_io.specs.Taken.{IsWritten, Took}
use Rattle.tb_io.specs.declared.answers.Wrote.{Wrote}
use Rattle.tb_io.specs.declared.answers.Wrote.TheVariants as wrote
use Rattle.tb_io.proofs.TakenLemmas.{Took-append, TookPart-append, TookPart-longer}
use Rattle.tb_io.proofs.Taking.{Took-more, Took-same, TookPart-more}
use Rattle.tb_io.proofs.Written.{all_written, cut_written}
use Rattle.tb_serve.specs.Ports.{PortValue}
use Rattle.tb_serve.specs.Reports.{served_at, worker_line, worker_lines}

lines_length : (j : ℕ) (ports : List PortValue) → length (worker_lines j ports) ≡ length ports
lines_length j [] = refl
lines_length j (port ∷ ports) = ap suc (lines_length (j + 1) ports)

line_from : (j : ℕ) (ports : List PortValue) (i : ℕ) (d : PortValue) → i < length ports
    → get_or (worker_lines j ports) i [] ≡ worker_line (j + i) (get_or ports i d).served
line_from j [] i d lt = absurd (omega arith)
line_from j (port ∷ ports) zero d lt = let e : j ≡ j + 0 = omega arith in ap (λ n. worker_line n port.served) e
line_from j (port ∷ ports) (suc i) d lt =
    let e : (j + 1) + i ≡ j + suc i = omega arith in
    line_from (j + 1) ports i d (omega arith) ∙ ap (λ n. worker_line n (get_or ports i d).served) e

line_at : (ports : List PortValue) (i served : ℕ) (d : PortValue) → i < length ports → served ≡ (get_or ports i d).served
    → get_or (worker_lines 0 ports) i [] ≡ worker_line i served
line_at ports i served d lt is = let e : 0 + i ≡ i = omega arith in line_from 0 ports i d lt ∙ ap (λ n. worker_line n
    (get_or ports i d).served) e ∙ ap (λ n. worker_line i n) (sym is)

-- the lines of the workers so far
pub record AreWritten (faults faults' : ℕ) (taken taken' : Option (List ℕ)) (ports : List PortValue) (i : ℕ) : Type 0 where
  pub count : faults ≤ faults'
  pub took : Took taken taken' (concat (take i (worker_lines 0 ports)))

-- and one more
pub line_more : {f f' f'' : ℕ} {t t' t'' : Option (List ℕ)} (ports : List PortValue) (i served : ℕ) (d : PortValue) → i < length ports
    → served ≡ (get_or ports i d).served
    → AreWritten f f' t t' ports i → IsWritten wrote.All f' f'' t' t'' (worker_line i served) → AreWritten f f'' t t'' ports (i + 1)
line_more {t} {t'} {t''} ports i served d lt is so_far one = record {
  count = omega (arith, so_far.count, one.count);
  took = Took-more t t' t'' (worker_lines 0 ports) i (worker_line i served) (omega (arith, lines_length 0 ports))
      (line_at ports i served d lt is) so_far.took (one.all refl);
}

-- or a part of it
pub line_cut : {f f' f'' : ℕ} {t t' t'' : Option (List ℕ)} (ports : List PortValue) (i served : ℕ) (d : PortValue) → i < length ports
    → served ≡ (get_or ports i d).served
    → AreWritten f f' t t' ports i → IsWritten wrote.Failed f' f'' t' t'' (worker_line i served) → IsWritten wrote.Failed f f'' t t''
    (concat (worker_lines 0 ports))
line_cut {t} {t'} {t''} ports i served d lt is so_far one =
    cut_written so_far.count one.count (one.failed refl)
    (TookPart-more t t' t'' (worker_lines 0 ports) i (worker_line i served) (omega (arith, lines_length 0 ports))
    (line_at ports i served d lt is) so_far.took (one.part refl))

take_whole : {A : Type 0} (xs : List A) (i : ℕ) → i ≡ length xs → take i xs ≡ xs
take_whole xs i e = ap (λ n. take n xs) e ∙ take-length xs

-- all of them
pub lines_whole : (f f' : ℕ) (t t' : Option (List ℕ)) (ports : List PortValue) (i : ℕ) → i ≡ length ports
    → AreWritten f f' t t' ports i → IsWritten wrote.All f f' t t' (concat (worker_lines 0 ports))
lines_whole f f' t t' ports i e so_far =
    all_written f f' t t' (concat (worker_lines 0 ports)) so_far.count (Took-same t t' _ _ (ap concat (take_whole
    (worker_lines 0 ports) i (e ∙ sym (lines_length 0 ports)))) so_far.took)

-- ---- two texts, one after the other
pub written_then : {w : Wrote} {f f' f'' : ℕ} {t t' t'' : Option (List ℕ)} {text more : List ℕ} → IsWritten wrote.All f f' t t' text
    → IsWritten w f' f'' t' t'' more → IsWritten w f f'' t t'' (text ++ more)
written_then {w = wrote.All} {f} {f''} {t} {t'} {t''} {text} {more} one other =
    all_written f f'' t t'' (text ++ more) (omega (arith, one.count, other.count)) (Took-append t t' t'' text more (one.all refl)
    (other.all refl))
written_then {w = wrote.Failed} {t} {t'} {t''} {text} {more} one other =
    cut_written one.count other.count (other.failed refl) (TookPart-append t t' t'' text more
    (one.all refl) (other.part refl))

pub cut_before : {f f' : ℕ} {t t' : Option (List ℕ)} {text : List ℕ} (more : List ℕ) → IsWritten wrote.Failed f f' t t' text
    → IsWritten wrote.Failed f f' t t' (text ++ more)
cut_before {t} {t'} {text} more h = record {
  count = h.count;
  failed = h.failed;
  all = λ e. absurd (cc
      (e));
  part = λ e. TookPart-longer t t' text more (h.part e);
}

-- ---- sessions of some ports together
-- one port more
pub served_more : (ports : List PortValue) (i : ℕ) (d : PortValue) → i < length ports → served_at (take (i + 1) ports) ≡ served_at (take i ports) + (get_or ports i d).served
served_more [] i d lt = absurd (omega arith)
served_more (port ∷ ports) zero d lt = omega arith
served_more (port ∷ ports) (suc i) d lt =
    let e : suc i + 1 ≡ suc (i + 1) = omega arith in
    let more = served_more ports i d (omega arith) in
    ap (λ n. served_at (take n (port ∷ ports))) e ∙ ap (λ n. port.served + n) more ∙ omega arith
