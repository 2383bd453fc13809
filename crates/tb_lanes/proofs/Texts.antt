-- The text of a phase, lane by lane.
use Rattle.std.proofs.Common.{◌≡◌, ◌∙◌, sym, ap, refl, ℕ, zero, suc, ◌+◌, ◌-◌, ◌<◌, true, false, List, [], ◌∷◌, ◌++◌, Option, append-nil, append_assoc, add-one, arith}
use Rattle.tb_io.specs.Taken.{IsWritten}
use Rattle.tb_io.specs.declared.answers.Wrote.TheVariants as wrote
use Rattle.tb_io.proofs.TakenLemmas.{Took-nothing}
use Rattle.tb_io.proofs.Written.{all_written, written_as}
use Rattle.tb_lanes.specs.Lanes.{has_some}
use Rattle.tb_lanes.specs.Phases.{lane_at, lane_line, lane_text, lanes_text, lines_at}
use Rattle.tb_script.specs.Scripts.{ScriptValue}
use Rattle.tb_serve.proofs.Lines.{cut_before, written_then}

-- a lane without a line says nothing
pub says_nothing : (lane : List ℕ) (lines : List (List ℕ)) (text : List ℕ) → has_some lines ≡ false → [] ≡ lane_text lane lines text
says_nothing lane [] text h = refl
says_nothing lane (line ∷ lines) text h = absurd (cc h)

-- a lane with one says its name and its text
pub says_text : (lane : List ℕ) (lines : List (List ℕ)) (text : List ℕ) → has_some lines ≡ true
    → lane_line lane ++ text ≡ lane_text lane lines text
says_text lane [] text h = absurd (cc h)
says_text lane (line ∷ lines) text h = refl

module _ (script : ScriptValue) (phase : ℕ) (texts : ℕ → List ℕ) where
  -- what the lane of a number says
  abbrev said : ℕ → List ℕ
  said n = lane_text (lane_at script n) (lines_at script phase n) (texts n)

  abbrev so_far : ℕ → List ℕ
  so_far n = lanes_text script phase texts n

  one_lane : (n : ℕ) → so_far n ++ said n ≡ so_far (n + 1)
  one_lane n = ap (λ (k : ℕ). so_far k) (sym (add-one n))

  -- what all lanes say is what the first say, and more
  rest_after : (n m : ℕ) → (rest : List ℕ) × (so_far n ++ rest ≡ so_far (n + m))
  rest_after n zero = let same : n ≡ n + 0 = omega arith in ([], append-nil (so_far n) ∙ ap (λ (k : ℕ). so_far k) same)
  rest_after n (suc m) =
      let (rest, is) = rest_after n m in
      let there : suc (n + m) ≡ n + suc m = omega arith in (
        rest ++ said (n + m),
        sym (append_assoc (so_far n) rest (said (n + m))) ∙ ap (λ (t : List ℕ). t ++ said (n + m)) is ∙ ap (λ (k : ℕ). so_far k) there,
      )

  whole_after : (n len : ℕ) → n < len → (rest : List ℕ) × ((so_far n ++ said n) ++ rest ≡ so_far len)
  whole_after n len lt =
      let (rest, is) = rest_after (n + 1) (len - (n + 1)) in
      let all : n + 1 + (len - (n + 1)) ≡ len = omega (arith, lt) in
      (rest, ap (λ (t : List ℕ). t ++ rest) (one_lane n) ∙ is ∙ ap (λ (k : ℕ). so_far k) all)

  -- one lane more was written
  pub lane_written : {f between f' : ℕ} {t u v : Option (List ℕ)} (n : ℕ) → IsWritten wrote.All f between t u (so_far n)
      → IsWritten wrote.All between f' u v (said n) → IsWritten wrote.All f f' t v (so_far (n + 1))
  lane_written n before now =
      written_as (one_lane n)
      (written_then before now)

  -- the writing of one failed
  pub lane_cut : {f between f' : ℕ} {t u v : Option (List ℕ)} (n len : ℕ) → n < len → IsWritten wrote.All f between t u (so_far n)
      → IsWritten wrote.Failed between f' u v (said n) → IsWritten wrote.Failed f f' t v (so_far len)
  lane_cut n len lt before now =
      let (rest, is) = whole_after n len lt in
      written_as is
      (cut_before rest (written_then before now))

  -- no lane yet
  pub none_written : (f : ℕ) (t : Option (List ℕ)) → IsWritten wrote.All f f t t (so_far 0)
  none_written f t = all_written f f t t [] (omega arith) (Took-nothing t)

  -- all lanes
  pub all_lanes_written : (f f' : ℕ) (t u : Option (List ℕ)) (n len : ℕ) → n ≡ len → IsWritten wrote.All f f' t u (so_far n)
      → IsWritten wrote.All f f' t u (so_far len)
  all_lanes_written f f' t u n len same h = written_as (ap (λ (k : ℕ). so_far k) same) h
