-- Spans stay inside a text that grows, and their parts stay the same.
use Rattle.std.proofs.Common.{◌≡◌, ℕ, suc, ◌+◌, ◌-◌, ◌≤◌, ◌<◌, inl, inr, List, [], ◌∷◌, ◌++◌, length, map, drop, get_or, refl, ap, sym, ◌∙◌, arith, length-append}
use Rattle.std.specs.Prelude.{All}
use Rattle.std.proofs.lemmas.Bool.{cases_lt}
use Rattle.std.proofs.lemmas.List.{get_or_default, map-append, take-append-le, drop-append-le, length-drop, drop_at, take_all}
use Rattle.std.proofs.lemmas.List.Elements.{All-push}
use Rattle.tb_text.specs.declared.spans.Span.{Span}
use Rattle.tb_text.specs.Spans.{part_at, IsInside, AreParts}

inside_longer : (text more : List ℕ) (span : Span) → IsInside text span → IsInside (text ++ more) span
inside_longer text more span h = record { order = h.order; within = omega (arith, h.within, length-append text more) }

part_of_longer : (text more : List ℕ) (span : Span) → IsInside text span → part_at (text ++ more) span ≡ part_at text span
part_of_longer text more span h =
    let starts : span.start ≤ length text = omega (arith, h.order, h.within) in
    let long : span.end - span.start ≤ length (drop span.start text) = omega (arith, h.order, h.within, length-drop span.start text) in
    rw (drop-append-le span.start text more starts) (take-append-le (span.end - span.start) (drop span.start text) more long)

parts_of_longer : (text more : List ℕ) (spans : List Span) → All (IsInside text) spans → map (part_at (text ++ more)) spans ≡ map (part_at text) spans
parts_of_longer text more [] h = refl
parts_of_longer text more (span ∷ spans) h =
    rw (part_of_longer text more span (h 0 span (omega arith)), parts_of_longer text more spans (λ k d below. h (suc k) d (omega (arith, below)))) refl

-- the part at the end
last_part : (text more : List ℕ) (span : Span) → span.start ≡ length text → span.end ≡ length (text ++ more) → part_at (text ++ more) span ≡ more
last_part text more span starts ends =
    let long : span.end - span.start ≡ length more = omega (arith, starts, ends, length-append text more) in
    rw (long, drop_at text more span.start (sym starts)) (take_all (length more) more (omega arith))

last_inside : (text more : List ℕ) (span : Span) → span.start ≡ length text → span.end ≡ length (text ++ more) → IsInside (text ++ more) span
last_inside text more span starts ends = record { order = omega (arith, starts, ends, length-append text more); within = omega (arith, ends) }

one_more : (text part : List ℕ) (spans : List Span) (span : Span) (parts : List (List ℕ)) → AreParts text spans parts
    → span.start ≡ length text → span.end ≡ length (text ++ part) → AreParts (text ++ part) (spans ++ span ∷ []) (parts ++ part ∷ [])
one_more text part spans span parts so_far starts ends = record {
  inside = All-push (IsInside (text ++ part)) spans span (λ k d below. inside_longer text part (get_or spans k d) (so_far.inside k d below)) (last_inside text part span starts ends);
  texts =
      map-append (part_at (text ++ part)) spans (span ∷ [])
      ∙ ap (λ t. t ++ part_at (text ++ part) span ∷ []) (parts_of_longer text part spans so_far.inside ∙ so_far.texts)
      ∙ ap (λ p. parts ++ p ∷ []) (last_part text part span starts ends);
}

-- one more part at the end
pub parts_and_one : (text new part : List ℕ) (spans after : List Span) (span : Span) (parts : List (List ℕ)) → AreParts text spans parts
    → new ≡ text ++ part → span.start ≡ length text → span.end ≡ length new → after ≡ spans ++ span ∷ [] → AreParts new after (parts ++ part ∷ [])
parts_and_one text new part spans after span parts so_far grown starts ends pushed =
    rw (grown, pushed) (one_more text part spans span parts so_far starts (ends ∙ ap length grown))

-- the longest of one more
pub most_more : (xs : List (List ℕ)) (i most next len : ℕ) → i < length xs → ((k : ℕ) (d : List ℕ) → k < i → length (get_or xs k d) ≤ most) → len ≡ length (get_or xs i []) → most ≤ next → len ≤ next
    → (k : ℕ) (d : List ℕ) → k < i + 1 → length (get_or xs k d) ≤ next
most_more xs i most next len below h long first second k d lt = elim (cases_lt k i) [
  | inl before ↦ omega (arith, h k d before, first)
  | inr past ↦
      let same : k ≡ i = omega (arith, lt, past) in
      let there : length (get_or xs k d) ≡ len = ap (λ j. length (get_or xs j d)) same ∙ ap length (get_or_default xs i d [] below) ∙ sym long in
      omega (arith, there, second)
]
