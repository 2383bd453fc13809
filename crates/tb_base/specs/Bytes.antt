-- The bytes of a line.
use Rattle.std.specs.Prelude.{ℕ, ◌==◌, ◌&&◌, ◌||◌, nat_le, Bool, false, if◌then◌else◌}
use Rattle.std.specs.Prelude.{List, [], ◌∷◌}

-- a tab, or from 20 to 7E in hexadecimal
unfoldable pub is_text_byte : ℕ → Bool
is_text_byte b = (b == 9) || (nat_le 0x20 b && nat_le b 0x7e)

-- a space or a tab
unfoldable pub is_blank : ℕ → Bool
is_blank b = (b == 32) || (b == 9)

-- whether the first byte is a blank
abbrev pub begins_blank : List ℕ → Bool
begins_blank [] = false
begins_blank (b ∷ bs) = is_blank b

-- what stands after the blanks in front
abbrev pub after_blanks : List ℕ → List ℕ
after_blanks [] = []
after_blanks (b ∷ bs) = if is_blank b then after_blanks bs else b ∷ bs
