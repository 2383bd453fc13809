-- How a line is cut from its front.
use Rattle.std.specs.Prelude.{◌≡◌, ◌<◌, ℕ, length, List, ◌∷◌}
use Rattle.tb_query.specs.Tokens.{cut}

-- a text is the first of a line's texts, and the bytes after it have the others
pub record IsFirst (bytes text after : List ℕ) : Type 0 where
  pub cut_there : cut bytes ≡ text ∷ cut after
  pub shorter : length after < length bytes
