-- A script's parts as the definitions see them.
use Rattle.std.specs.Prelude.{◌≡◌, ◌+◌, ◌<◌, ◌≤◌, ℕ, List, [], map, drop, take, length, All}
use Rattle.std.specs.Prelude.{slice_index_or, string_bytes}
use Rattle.std.specs.List.Sorted.{IsNonDecreasingBy}
use Rattle.tb_script.specs.Scripts.{ScriptLine, ScriptValue, lanes_of}
use Rattle.tb_script.specs.declared.limits.TheConstants.{MOST_LANES}
use Rattle.tb_io.specs.declared.limits.TheConstants.{MOST_LINE_BYTES}
use Rattle.tb_script.specs.declared.parts.Parts.{Parts}
use Rattle.tb_script.specs.declared.parts.Place.{Place}

-- the line at a place, where these are the lanes' names and the lines' bytes
abbrev pub line_at : List (List ℕ) → List ℕ → Place → ScriptLine
line_at names texts place = record {
  phase = place.phase;
  lane = slice_index_or names place.lane [];
  line = take place.len (drop place.start texts);
}

-- the names of the lanes
abbrev pub lane_names : Parts → List (List ℕ)
lane_names parts = map string_bytes parts.lanes.keys

-- all lines
abbrev pub parts_value : Parts → ScriptValue
parts_value parts = record {
  lines = map (line_at (lane_names parts) parts.texts.items) parts.places.items;
  phases = parts.phases;
}

-- the place has a lane and lies within the bytes, and its line isn't too long
abbrev pub IsWithin : ℕ → ℕ → Place → Type 0
IsWithin lanes bytes place =
    (place.lane < lanes) × (place.start + place.len ≤ bytes) × (place.len ≤ MOST_LINE_BYTES)

-- What is true of the parts of every script: their names are the lines' lanes, there are not too
-- many, each place lies within, and phase comes after phase.
pub record AreKept (parts : Parts) : Type 0 where
  pub lanes : lane_names parts ≡ lanes_of (parts_value parts).lines
  pub few : length parts.lanes.keys ≤ MOST_LANES
  pub within :
      All (IsWithin (length parts.lanes.keys) (length parts.texts.items)) parts.places.items
  pub order : IsNonDecreasingBy (λ (p : Place). p.phase) parts.places.items
  pub latest : All (λ p. p.phase ≤ parts.phases) parts.places.items
