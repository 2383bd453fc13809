-- One line of a script more, which is a lane's or another's.
use Rattle.std.proofs.Common.{◌≡◌, ◌≢◌, ◌∙◌, sym, ap, ℕ, ◌+◌, ◌<◌, true, List, [], ◌∷◌, ◌++◌, length, take, get_or}
use Rattle.tb_lanes.specs.declared.lane.Lane.{Lane}
use Rattle.tb_lanes.specs.Lanes.{IsLineAnswered, Ran}
use Rattle.tb_lanes.specs.Phases.{lane_at, lines_in}
use Rattle.tb_lanes.proofs.Lanes.{ran_as, ran_more}
use Rattle.tb_lanes.proofs.LineLemmas.{none_more, one_more}
use Rattle.tb_lanes.proofs.Names.{same_lane}
use Rattle.tb_model.specs.Setups.{SetupValue}
use Rattle.tb_script.specs.Scripts.{ScriptValue, lanes_of, no_line, nth_line}
use Rattle.tb_session.specs.declared.party.Party.{Party}

module _ (setup : SetupValue) (script : ScriptValue) (phase n i : ℕ) (first : Party) where
  -- the lane's lines among the first so many
  abbrev mine : ℕ → List (List ℕ)
  mine k = lines_in phase (lane_at script n) (take k script.lines)

  -- it is the lane's, and was answered
  pub line_of_lane : {G : Type 0} (line : List ℕ) (k : ℕ) (old new : Lane G) → i < length script.lines → (nth_line script i).phase ≡ phase
      → get_or (lanes_of script.lines) k [] ≡ (nth_line script i).lane → k ≡ n
      → line ≡ (nth_line script i).line → Ran setup (mine i) first old.sink old.spoke old.party → IsLineAnswered setup line old new
      → new.spoke ≡ true
      → Ran setup (mine (i + 1)) first new.sink new.spoke new.party
  line_of_lane line k old new lt here name same is ran answered said =
      let named : (nth_line script i).lane ≡ lane_at script n = sym name ∙ ap (λ (j : ℕ). lane_at script j) same in
      let more : mine (i + 1) ≡ mine i ++ line ∷ [] = one_more phase (lane_at script n) script.lines i no_line lt here named ∙ ap
      (λ (l : List ℕ). mine i ++ l ∷ []) (sym is) in
      ran_more setup (mine i) (mine (i + 1)) line first old.party new.party old.sink new.sink old.spoke new.spoke answered.reply more ran
      answered.step answered.took said

  -- it is another lane's
  pub line_of_other : {G : Type 0} (k : ℕ) (old : Lane G) → i < length script.lines → k < length (lanes_of script.lines)
      → n < length (lanes_of script.lines) → get_or (lanes_of script.lines) k [] ≡ (nth_line script i).lane → k ≢ n
      → Ran setup (mine i) first old.sink old.spoke old.party → Ran setup (mine (i + 1)) first old.sink old.spoke old.party
  line_of_other k old lt below there name other ran =
      let another : (nth_line script i).lane ≢ lane_at script n = λ same. other (same_lane script k n below there (name ∙ same)) in
      ran_as setup (mine i) (mine (i + 1)) first old.party old.sink old.spoke (sym
      (none_more phase (lane_at script n) script.lines i no_line lt another)) ran
