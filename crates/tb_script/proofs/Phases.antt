-- The lines up to a phase, by the places of a script's parts.
use Rattle.std.proofs.Common.{◌≡◌, ◌<◌, ◌≤◌, ap, subst, sym, ℕ, List, Bool, true, false, leb, length, get_or, arith}
use Rattle.std.proofs.lemmas.Bool.{leb-false, leb-true}
use Rattle.std.proofs.lemmas.List.{get_or-map, length-map}
use Rattle.std.specs.List.Sorted.{IsPartitionPoint}
use Rattle.tb_script.specs.Parts.{lane_names, line_at, parts_value}
use Rattle.tb_script.specs.Scripts.{ScriptLine, ScriptValue, nth_line, no_line}
use Rattle.tb_script.specs.declared.parts.Parts.{Parts}
use Rattle.tb_script.specs.declared.parts.Place.{Place}

some_place : Place
some_place = record { phase = 0; lane = 0; len = 0; start = 0 }

-- a line stands in the phase of its place
phase_at : (parts : Parts) (i : ℕ) → i < length parts.places.items → (nth_line (parts_value parts) i).phase ≡ (get_or parts.places.items i some_place).phase
phase_at parts i lt = ap (λ (l : ScriptLine). l.phase) (get_or-map (line_at (lane_names parts) parts.texts.items) parts.places.items i some_place no_line lt)

module _ (parts : Parts) (script : ScriptValue) (places : List Place) (phase point : ℕ) (is : parts_value parts ≡ script) (same : places ≡ parts.places.items) (bound : point ≤ length places)
    (at : IsPartitionPoint (λ (p : Place). leb p.phase phase ≡ true) (λ (p : Place). leb p.phase phase ≡ false) places point) where
  pub up_to : (i : ℕ) → i < point → (nth_line script i).phase ≤ phase
  up_to i lt =
      let here : (get_or places i some_place).phase ≤ phase = leb-true (get_or places i some_place).phase phase (at.0 i some_place (omega arith) lt) in
      let below : i < length parts.places.items = omega (arith, lt, bound, ap (λ (ps : List Place). length ps) same) in
      let there : (get_or parts.places.items i some_place).phase ≤ phase = subst (λ (ps : List Place). (get_or ps i some_place).phase ≤ phase) same here in
      subst (λ (v : ScriptValue). (nth_line v i).phase ≤ phase) is (omega (arith, phase_at parts i below, there))

  pub later : (i : ℕ) → point ≤ i → i < length script.lines → phase < (nth_line script i).phase
  later i le lt =
      let long : length (parts_value parts).lines ≡ length parts.places.items = length-map parts.places.items (line_at (lane_names parts) parts.texts.items) in
      let below : i < length parts.places.items = omega (arith, lt, ap (λ (v : ScriptValue). length v.lines) is, long) in
      let within : i < length places = omega (arith, below, ap (λ (ps : List Place). length ps) same) in
      let here : phase < (get_or places i some_place).phase = leb-false (get_or places i some_place).phase phase (at.1 i some_place le within) in
      let there : phase < (get_or parts.places.items i some_place).phase = subst (λ (ps : List Place). phase < (get_or ps i some_place).phase) same here in
      subst (λ (v : ScriptValue). phase < (nth_line v i).phase) is (omega (arith, phase_at parts i below, there))

  pub point_few : point ≤ length script.lines
  point_few =
      let long : length (parts_value parts).lines ≡ length parts.places.items = length-map parts.places.items (line_at (lane_names parts) parts.texts.items) in
      omega (arith, bound, ap (λ (ps : List Place). length ps) same, long, ap (λ (v : ScriptValue). length v.lines) is)
