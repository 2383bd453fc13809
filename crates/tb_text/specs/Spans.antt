-- Parts of a text by the spans where they stand.
use Rattle.std.specs.Prelude.{◌≡◌, ◌≤◌, ◌-◌, ℕ, List, All, length, map, take, drop}
use Rattle.tb_text.specs.declared.spans.Span.{Span}

-- the part of a text where a span is
abbrev pub part_at : List ℕ → Span → List ℕ
part_at text span = take (span.end - span.start) (drop span.start text)

-- a span is inside a text
pub record IsInside (text : List ℕ) (span : Span) : Type 0 where
  pub order : span.start ≤ span.end
  pub within : span.end ≤ length text

-- spans are inside a text, and these are its parts there
pub record AreParts (text : List ℕ) (spans : List Span) (parts : List (List ℕ)) : Type 0 where
  pub inside : All (IsInside text) spans
  pub texts : map (part_at text) spans ≡ parts
