-- What one more line makes of a script's parts.
use Rattle.std.proofs.Common.{◌≡◌, ◌∙◌, ap, sym, subst, refl, ℕ, ◌<◌, ◌≤◌, get_or, ◌+◌, ◌-◌, List, [], ◌∷◌, ◌++◌, String, Global, string_bytes, length, map, take, drop, Some, arith, inl, inr, append-nil}
use Rattle.std.specs.Prelude.{All, bytes_eq, slice_get, fold}
use Rattle.std.specs.List.{list_any}
use Rattle.std.proofs.lemmas.Bool.{cases_Bool}
use Rattle.std.proofs.lemmas.List.{length-map, map-append, length-append, length-drop, get_or_append_left, take-append-le, drop-append-le}
use Rattle.std.proofs.lemmas.List.Elements.{All-head, All-push, All-tail, All-weaker}
use Rattle.std.proofs.lemmas.List.Sums.{fold-append}
use Rattle.std.proofs.lemmas.Option.{get_or_from_slice_get, slice_get_within}
use Rattle.std.proofs.lemmas.List.Sorted.{IsNonDecreasingBy-push}
use Rattle.std.proofs.Math.Seq.{drop-append_seam, take-length}
use Rattle.std.specs.List.Sorted.{IsNonDecreasingBy}
use Rattle.indexmap.specs.IndexSet.{insert_key}
use Rattle.tb_script.specs.Parts.{AreKept, IsWithin, lane_names, line_at, parts_value}
use Rattle.tb_script.specs.Scripts.{ScriptLine, ScriptValue, lanes_of}
use Rattle.tb_script.specs.declared.limits.TheConstants.{MOST_LANES}
use Rattle.tb_io.specs.declared.limits.TheConstants.{MOST_LINE_BYTES}
use Rattle.tb_script.specs.declared.parts.Parts.{Parts}
use Rattle.tb_script.specs.declared.parts.Place.{Place}

-- the names only grow
pub grown : (names : List (List ℕ)) (name : List ℕ) → (more : List (List ℕ)) × (insert_key bytes_eq names name ≡ names ++ more)
grown names name = elim (cases_Bool (list_any (bytes_eq name) names)) [
  | inl t ↦ ([], rw t (sym (append-nil names)))
  | inr t ↦ (name ∷ [], rw t refl)
]

-- what stands within stays as it is
text-stays : (texts text : List ℕ) (start len : ℕ) → start + len ≤ length texts → take len (drop start (texts ++ text)) ≡ take len (drop start texts)
text-stays texts text start len h =
    ap (take len) (drop-append-le start texts text (omega arith))
    ∙ take-append-le len (drop start texts) text (let l = length-drop start texts in omega arith)

line-stays : (names more : List (List ℕ)) (texts text : List ℕ) (p : Place) → IsWithin (length names) (length texts) p → line_at (names ++ more) (texts ++ text) p ≡ line_at names texts p
line-stays names more texts text p h =
    let lane = get_or_append_left names more [] p.lane h.0 in
    let line = text-stays texts text p.start p.len h.1 in
    λ i. record { phase = p.phase; lane = lane i; line = line i }

lines-stay : (names more : List (List ℕ)) (texts text : List ℕ) (ps : List Place) → All (IsWithin (length names) (length texts)) ps → map (line_at (names ++ more) (texts ++ text)) ps ≡ map (line_at names texts) ps
lines-stay names more texts text [] h = refl
lines-stay names more texts text (p ∷ ps) h =
    let P = IsWithin (length names) (length texts) in
    let one = line-stays names more texts text p (All-head P p ps h) in
    let rest = lines-stay names more texts text ps (All-tail P p ps h) in
    λ i. one i ∷ rest i

-- a line that was just added
module _ (names after : List (List ℕ)) (name : List ℕ) (texts text : List ℕ) (phase n : ℕ) (at : slice_get after n ≡ Some name) where
  abbrev added : Place
  added = record { phase = phase; lane = n; len = length text; start = length texts }

  line-added : line_at after (texts ++ text) added ≡ (record { phase = phase; lane = name; line = text })
  line-added =
      let lane = get_or_from_slice_get after n name [] at in
      let line : take (length text) (drop (length texts) (texts ++ text)) ≡ text = ap (take (length text)) (drop-append_seam texts text) ∙ take-length text in
      λ i. record { phase = phase; lane = lane i; line = line i }

  -- the lines with it
  pub lines-added : (ps : List Place) → All (IsWithin (length names) (length texts)) ps → after ≡ insert_key bytes_eq names name
      → map (line_at after (texts ++ text)) (ps ++ added ∷ []) ≡ map (line_at names texts) ps ++ (record { phase = phase; lane = name; line = text }) ∷ []
  lines-added ps within g =
      let (more, e) = grown names name in
      let all : after ≡ names ++ more = g ∙ e in
      let old : map (line_at after (texts ++ text)) ps ≡ map (line_at names texts) ps =
      ap (λ ns. map (line_at ns (texts ++ text)) ps) all ∙ lines-stay names more texts text ps within in
      map-append (line_at after (texts ++ text)) ps (added ∷ []) ∙ (λ i. old i ++ line-added i ∷ [])

-- the lanes of lines and one more
pub lanes-added : (lines : List ScriptLine) (l : ScriptLine) → lanes_of (lines ++ l ∷ []) ≡ insert_key bytes_eq (lanes_of lines) l.lane
lanes-added lines l =
    ap (fold (insert_key bytes_eq) []) (map-append (λ (l : ScriptLine). l.lane) lines (l ∷ []))
    ∙ fold-append (insert_key bytes_eq) [] (map (λ (l : ScriptLine). l.lane) lines) (l.lane ∷ [])

-- the parts with one more line
module _ (old new : Parts) (name text : List ℕ) (n : ℕ) (kept : AreKept old) (few : length new.lanes.keys ≤ MOST_LANES) (names : lane_names new ≡ insert_key bytes_eq (lane_names old) name) (at : slice_get (lane_names new) n ≡ Some name)
    (texts : new.texts.items ≡ old.texts.items ++ text) (short : length text ≤ MOST_LINE_BYTES) (places : new.places.items ≡ old.places.items ++ (record { phase = old.phases; lane = n; len = length text; start = length old.texts.items }) ∷ []) where
  abbrev one : Place
  one = record { phase = old.phases; lane = n; len = length text; start = length old.texts.items }

  abbrev line : ScriptLine
  line = record { phase = old.phases; lane = name; line = text }

  old-names : length (lane_names old) ≡ length old.lanes.keys
  old-names = length-map old.lanes.keys (λ (k : String Global). string_bytes k)

  new-names : length (lane_names new) ≡ length new.lanes.keys
  new-names = length-map new.lanes.keys (λ (k : String Global). string_bytes k)

  old-within : All (IsWithin (length (lane_names old)) (length old.texts.items)) old.places.items
  old-within = subst (λ m. All (IsWithin m (length old.texts.items)) old.places.items) (sym old-names) kept.within

  pub lines-more : (parts_value new).lines ≡ (parts_value old).lines ++ line ∷ []
  lines-more =
      ap (λ bytes. map (line_at (lane_names new) bytes) new.places.items) texts
      ∙ ap (λ ps. map (line_at (lane_names new) (old.texts.items ++ text)) ps) places
      ∙ lines-added (lane_names old) (lane_names new) name old.texts.items text old.phases n at old.places.items old-within names

  pub value-more : new.phases ≡ old.phases → let v : ScriptValue = record { lines = (parts_value old).lines ++ line ∷ []; phases = old.phases } in parts_value new ≡ v
  value-more phases = λ i. record { lines = lines-more i; phases = phases i }

  wider : length old.lanes.keys ≤ length new.lanes.keys
  wider =
      let (more, e) = grown (lane_names old) name in
      omega (arith, old-names, new-names, ap length (names ∙ e), length-append (lane_names old) more)

  all_bytes : length new.texts.items ≡ length old.texts.items + length text
  all_bytes = ap length texts ∙ length-append old.texts.items text

  new-within : All (IsWithin (length new.lanes.keys) (length new.texts.items)) new.places.items
  new-within =
      let P = IsWithin (length new.lanes.keys) (length new.texts.items) in
      let before : All P old.places.items =
      All-weaker (IsWithin (length old.lanes.keys) (length old.texts.items)) P (λ p h. (omega (arith, h.0, wider), omega (arith, h.1, all_bytes), h.2)) old.places.items kept.within in
      let last : P one = (omega (arith, new-names, slice_get_within (lane_names new) n name at), omega (arith, all_bytes), short) in
      subst (All P) (sym places) (All-push P old.places.items one before last)

  new-order : IsNonDecreasingBy (λ (p : Place). p.phase) new.places.items
  new-order =
      let last : (d : Place) → 0 < length old.places.items → (get_or old.places.items (length old.places.items - 1) d).phase ≤ old.phases = λ d some. kept.latest (length old.places.items - 1) d (omega (arith, some)) in
      subst (IsNonDecreasingBy (λ (p : Place). p.phase)) (sym places) (IsNonDecreasingBy-push (λ (p : Place). p.phase) old.places.items one kept.order last)

  new-latest : new.phases ≡ old.phases → All (λ (p : Place). p.phase ≤ new.phases) new.places.items
  new-latest phases =
      let P : Place → Type 0 = λ p. p.phase ≤ new.phases in
      let before : All P old.places.items = subst (λ n. All (λ (p : Place). p.phase ≤ n) old.places.items) (sym phases) kept.latest in
      let last : P one = omega (arith, phases) in
      subst (All P) (sym places) (All-push P old.places.items one before last)

  pub kept-more : new.phases ≡ old.phases → AreKept new
  kept-more phases = record {
    lanes = names ∙ ap (λ ns. insert_key bytes_eq ns name) kept.lanes ∙ sym (lanes-added (parts_value old).lines line) ∙ ap lanes_of (sym lines-more);
    few = few;
    within = new-within;
    order = new-order;
    latest = new-latest phases;
  }
