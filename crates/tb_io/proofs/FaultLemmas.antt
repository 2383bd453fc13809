-- Counts that rose.
use Rattle.std.proofs.Common.{◌≡◌, ℕ, ◌≤◌, inl, inr, arith}
use Rattle.tb_io.specs.Faults.{HasRisen, last_count}

-- a count that had risen has risen at any later moment
pub HasRisen-later : (a b c : ℕ) → HasRisen a b → b ≤ c → HasRisen a c
HasRisen-later a b c h le = elim h [
  | inl lt ↦ inl (omega arith)
  | inr last ↦ inr last
]

-- a count that rose from some moment on has risen since any earlier one
pub HasRisen-earlier : (a b c : ℕ) → a ≤ b → HasRisen b c → b ≤ c → HasRisen a c
HasRisen-earlier a b c le h up = elim h [
  | inl lt ↦ inl (omega arith)
  | inr last ↦ at_last a b c last up le
] where
  at_last : (a b c : ℕ) → b ≡ last_count → b ≤ c → a ≤ b → HasRisen a c
  at_last a b c last up le = grind arith

-- no count that is 0 before and after has risen
pub HasRisen-zero : HasRisen 0 0 → ⊥
HasRisen-zero h = elim h [ inl lt ↦ omega arith | inr last ↦ omega arith ]
