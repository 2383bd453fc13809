-- The names of a script's lanes differ.
use Rattle.std.proofs.Common.{◌≡◌, ◌≢◌, ◌∙◌, sym, ap, refl, ℕ, zero, suc, ◌+◌, ◌<◌, false, List, [], ◌∷◌, ◌++◌, length, map, get_or, arith, inl, inr}
use Rattle.std.specs.Prelude.{bytes_eq, fold}
use Rattle.std.specs.List.{list_any}
use Rattle.std.proofs.lemmas.Bool.{cases_Bool, cases_lt}
use Rattle.std.proofs.lemmas.List.{get_or_append_left, length_push}
use Rattle.std.proofs.lemmas.Slice.Eq.{bytes_eq-Decides}
use Rattle.indexmap.specs.IndexSet.{insert_key}
use Rattle.tb_lanes.specs.Phases.{lane_at}
use Rattle.tb_script.specs.Scripts.{ScriptLine, ScriptValue, lanes_of}

abbrev Differ : List (List ℕ) → Type 0
Differ names = (m n : ℕ) → m < length names → n < length names → get_or names m [] ≡ get_or names n [] → m ≡ n

-- a name that is none of some
new_name : (names : List (List ℕ)) (name : List ℕ) → list_any (bytes_eq name) names ≡ false → (n : ℕ) → n < length names
    → name ≢ get_or names n []
new_name [] name h n lt = absurd (omega (arith, lt))
new_name (x ∷ names) name h zero lt = λ same. elim (cases_Bool (bytes_eq name x)) [
  | inl t ↦ let e = rw t at h in cc
  | inr t ↦ let e = sym t ∙ (bytes_eq-Decides name x).1 same in cc
]
new_name (x ∷ names) name h (suc n) lt = λ same. elim (cases_Bool (bytes_eq name x)) [
  | inl t ↦ let e = rw t at h in cc
  | inr t ↦ new_name names name (rw t at h) n (omega (arith, lt)) same
]

last_at : (names : List (List ℕ)) (name : List ℕ) → get_or (names ++ name ∷ []) (length names) [] ≡ name
last_at [] name = refl
last_at (x ∷ names) name = last_at names name

differ_push : (names : List (List ℕ)) (name : List ℕ) → list_any (bytes_eq name) names ≡ false → Differ names → Differ (names ++ name ∷ [])
differ_push names name none differ m n ltm ltn same =
    let long : length (names ++ name ∷ []) ≡ length names + 1 = length_push names name in
    elim (cases_lt m (length names)) [
      | inl a ↦ elim (cases_lt n (length names)) [
        | inl b ↦ differ m n a b (sym (get_or_append_left names (name ∷ []) [] m a) ∙ same ∙ get_or_append_left names (name ∷ []) [] n b)
        | inr b ↦
            let is : n ≡ length names = omega (arith, ltn, long, b) in
            absurd (new_name names name none m a (sym (sym (get_or_append_left names (name ∷ []) [] m a) ∙ same ∙ ap
            (λ k. get_or (names ++ name ∷ []) k []) is ∙ last_at names name)))
      ]
      | inr a ↦
          let is : m ≡ length names = omega (arith, ltm, long, a) in
          elim (cases_lt n (length names)) [
            | inl b ↦ absurd (new_name names name none n b (sym (ap (λ k. get_or (names ++ name ∷ []) k []) is ∙ last_at names name) ∙ same
                ∙ get_or_append_left names (name ∷ []) [] n b))
            | inr b ↦ omega (arith, ltn, long, b, is)
          ]
    ]

differ_insert : (names : List (List ℕ)) (name : List ℕ) → Differ names → Differ (insert_key bytes_eq names name)
differ_insert names name differ = elim (cases_Bool (list_any (bytes_eq name) names)) [
  | inl t ↦ rw t differ
  | inr t ↦ rw t (differ_push names name t differ)
]

differ_all : (more names : List (List ℕ)) → Differ names → Differ (fold (insert_key bytes_eq) names more)
differ_all [] names differ = differ
differ_all (x ∷ more) names differ = differ_all more (insert_key bytes_eq names x) (differ_insert names x differ)

-- two lanes of one name are one
pub same_lane : (script : ScriptValue) (m n : ℕ) → m < length (lanes_of script.lines) → n < length (lanes_of script.lines)
    → lane_at script m ≡ lane_at script n → m ≡ n
same_lane script = differ_all (map (λ (l : ScriptLine). l.lane) script.lines) [] (λ m n ltm. absurd (omega (arith, ltm)))
