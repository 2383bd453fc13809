-- The lines of a lane in a phase, among more and more lines of a script.
use Rattle.std.proofs.Common.{◌≡◌, ◌≢◌, ◌∙◌, sym, ap, subst, refl, ℕ, suc, ◌+◌, ◌<◌, ◌≤◌, true, List, [], ◌∷◌, ◌++◌, length, map, take, drop, get_or, append-nil, arith, inl, inr}
use Rattle.std.specs.Prelude.{◌==◌, bytes_eq, filter}
use Rattle.std.proofs.lemmas.Bool.{cases_Bool, eq-eqb}
use Rattle.std.proofs.lemmas.Bool.Decides.{eqb_tells}
use Rattle.std.proofs.lemmas.List.{get_or-drop, get_or-take, get_or_default, length-drop, length-take, map-append, take-append-drop, take_more}
use Rattle.std.proofs.lemmas.List.Elements.{filter-append}
use Rattle.std.proofs.lemmas.Slice.Eq.{bytes_eq-Decides}
use Rattle.tb_lanes.specs.Phases.{is_in, lines_in}
use Rattle.tb_script.specs.Scripts.{ScriptLine, ScriptValue, nth_line, no_line}

module _ (p : ℕ) (lane : List ℕ) where
  lines_append : (xs ys : List ScriptLine) → lines_in p lane (xs ++ ys) ≡ lines_in p lane xs ++ lines_in p lane ys
  lines_append xs ys =
      ap (map (λ (one : ScriptLine). one.line)) (filter-append (is_in p lane) xs ys)
      ∙ map-append (λ (one : ScriptLine). one.line) (filter (is_in p lane) xs) (filter (is_in p lane) ys)

  -- one line alone
  one_in : (one : ScriptLine) → one.phase ≡ p → one.lane ≡ lane → lines_in p lane (one ∷ []) ≡ one.line ∷ []
  one_in one phase name =
      let t : (one.phase == p) ≡ true = eq-eqb one.phase p phase in
      let u : bytes_eq one.lane lane ≡ true = (bytes_eq-Decides one.lane lane).1 name in
      rw (t, u) refl

  one_of_other_phase : (one : ScriptLine) → one.phase ≢ p → lines_in p lane (one ∷ []) ≡ []
  one_of_other_phase one other = elim (eqb_tells one.phase p) [
    | inl h ↦ absurd (other h.1)
    | inr h ↦ rw h.0 refl
  ]

  one_of_other_lane : (one : ScriptLine) → one.lane ≢ lane → lines_in p lane (one ∷ []) ≡ []
  one_of_other_lane one other = elim (cases_Bool (bytes_eq one.lane lane)) [
    | inl t ↦ absurd (other ((bytes_eq-Decides one.lane lane).0 t))
    | inr t ↦ elim (cases_Bool (one.phase == p)) [
      | inl u ↦ rw (u, t) refl
      | inr u ↦ rw u refl
    ]
  ]

  -- lines of other phases
  lines_none : (xs : List ScriptLine) → ((i : ℕ) (d : ScriptLine) → i < length xs → (get_or xs i d).phase ≢ p) → lines_in p lane xs ≡ []
  lines_none [] h = refl
  lines_none (x ∷ xs) h =
      lines_append (x ∷ []) xs ∙ ap (λ ls. ls ++ lines_in p lane xs) (one_of_other_phase x (h 0 x (omega arith)))
      ∙ lines_none xs (λ i d lt. h (suc i) d (omega (arith, lt)))

  none_before : (xs : List ScriptLine) (i : ℕ) → ((j : ℕ) (d : ScriptLine) → j < i → j < length xs → (get_or xs j d).phase ≢ p)
      → lines_in p lane (take i xs) ≡ []
  none_before xs i h = lines_none (take i xs) (λ j d lt.
      let below : j < i = omega (arith, lt, length-take i xs) in
      let inside : j < length xs = omega (arith, lt, length-take i xs) in
      subst (λ (x : ScriptLine). x.phase ≢ p) (sym (get_or-take i xs j d below)) (h j d below inside))

  -- one line more
  step : (xs : List ScriptLine) (i : ℕ) (d : ScriptLine) → i < length xs
      → lines_in p lane (take (i + 1) xs) ≡ lines_in p lane (take i xs) ++ lines_in p lane (get_or xs i d ∷ [])
  step xs i d lt = ap (lines_in p lane) (take_more xs i d lt) ∙ lines_append (take i xs) (get_or xs i d ∷ [])

  pub one_more : (xs : List ScriptLine) (i : ℕ) (d : ScriptLine) → i < length xs → (get_or xs i d).phase ≡ p → (get_or xs i d).lane ≡ lane
      → lines_in p lane (take (i + 1) xs) ≡ lines_in p lane (take i xs) ++ (get_or xs i d).line ∷ []
  one_more xs i d lt phase name = step xs i d lt ∙ ap (λ ls. lines_in p lane (take i xs) ++ ls) (one_in (get_or xs i d) phase name)

  pub none_more : (xs : List ScriptLine) (i : ℕ) (d : ScriptLine) → i < length xs → (get_or xs i d).lane ≢ lane
      → lines_in p lane (take (i + 1) xs) ≡ lines_in p lane (take i xs)
  none_more xs i d lt other =
      step xs i d lt ∙ ap (λ ls. lines_in p lane (take i xs) ++ ls) (one_of_other_lane (get_or xs i d) other) ∙ append-nil
      (lines_in p lane (take i xs))

  -- no line is left
  all_before : (xs : List ScriptLine) (i : ℕ) → ((j : ℕ) (d : ScriptLine) → i ≤ j → j < length xs → (get_or xs j d).phase ≢ p)
      → lines_in p lane (take i xs) ≡ lines_in p lane xs
  all_before xs i h =
      let rest : lines_in p lane (drop i xs) ≡ [] = lines_none (drop i xs) (λ j d lt.
      let at : i + j < length xs = omega (arith, lt, length-drop i xs) in
      subst (λ (x : ScriptLine). x.phase ≢ p) (sym (get_or-drop i xs j d)) (h (i + j) d (omega arith) at)) in
      sym (ap (lines_in p lane) (sym (take-append-drop i xs)) ∙ lines_append (take i xs) (drop i xs) ∙ ap
      (λ ls. lines_in p lane (take i xs) ++ ls) rest ∙ append-nil (lines_in p lane (take i xs)))

-- lines of a script
module _ (script : ScriptValue) (phase : ℕ) (lane : List ℕ) (i : ℕ) where
  -- where all so far stand in phases before it, none stands in a phase
  pub none_yet : ((j : ℕ) → j < i → (nth_line script j).phase < phase) → lines_in phase lane (take i script.lines) ≡ []
  none_yet within = none_before phase lane script.lines i (λ j d lt inside is.
      let same : (get_or script.lines j d).phase ≡ (nth_line script j).phase = ap (λ (x : ScriptLine). x.phase)
      (get_or_default script.lines j d no_line inside) in
      absurd (omega (arith, within j lt, same, is)))

  -- where all others stand after it, those so far are all
  pub all_there : ((j : ℕ) → i ≤ j → j < length script.lines → phase < (nth_line script j).phase)
      → lines_in phase lane (take i script.lines) ≡ lines_in phase lane script.lines
  all_there rest = all_before phase lane script.lines i (λ j d le inside is.
      let same : (get_or script.lines j d).phase ≡ (nth_line script j).phase = ap (λ (x : ScriptLine). x.phase)
      (get_or_default script.lines j d no_line inside) in
      absurd (omega (arith, rest j le inside, same, is)))
