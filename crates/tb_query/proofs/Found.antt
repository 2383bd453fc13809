-- What is looked up for tokens of which none is unknown.
use Rattle.std.proofs.Common.{◌≡◌, ◌<◌, ◌+◌, ℕ, cond, List, [], ◌∷◌, ◌++◌, length, map, take, drop, get_or, Option, Some, None, refl, sym, ap, ◌∙◌}
use Rattle.std.specs.Prelude.{IsSome, find, is_none, unwrap_or}
use Rattle.std.specs.List.{AllByRecursion}
use Rattle.std.specs.Option.{option_map}
use Rattle.std.proofs.lemmas.List.{drop_more, map_more, map-append}
use Rattle.tb_query.specs.declared.tokens.Token.{Token as TokenOfLine}
use Rattle.tb_query.specs.Tokens.{Token, token_number}
use Rattle.tb_query.specs.Views.{token_view, token_views}

module _ {B : Type 0} (look_up : Token → Option B) (other : B) (P : Token → B → Type 0) (found : (t : Token) (b : B) → look_up t ≡ Some b → P t b) where
  first_found : (t : Token) (ts : List Token) (v : Option B) → look_up t ≡ v
      → option_map token_number (cond (is_none v) (Some t) (find (λ u. is_none (look_up u)) ts)) ≡ None
      → P t (unwrap_or v other) × (option_map token_number (find (λ u. is_none (look_up u)) ts) ≡ None)
  first_found t ts None e h = absurd (cc)
  first_found t ts (Some b) e h = (found t b e, h)

  pub all_found : (ts : List Token) → option_map token_number (find (λ u. is_none (look_up u)) ts) ≡ None → AllByRecursion (λ t. P t (unwrap_or (look_up t) other)) ts
  all_found [] h = tt
  all_found (t ∷ ts) h = let both = first_found t ts (look_up t) refl h in (both.0, all_found ts both.1)

abbrev unknown : {B : Type 0} → (Token → Option B) → List Token → Option ℕ
unknown look_up ts = option_map token_number (find (λ u. is_none (look_up u)) ts)

module _ {B : Type 0} (look_up : Token → Option B) where
  is_found : (o : Option B) (b : B) → o ≡ Some b → IsSome o
  is_found (Some a) b e = refl
  is_found None b e = absurd (cc)

  -- the first token is found where none is unknown, and then none of the others is
  pub head_found : (t : Token) (ts : List Token) → unknown look_up (t ∷ ts) ≡ None → IsSome (look_up t) × (unknown look_up ts ≡ None)
  head_found t ts h = at (look_up t) refl h
    where
      at : (v : Option B) → look_up t ≡ v → option_map token_number (cond (is_none v) (Some t) (find (λ u. is_none (look_up u)) ts)) ≡ None
          → IsSome (look_up t) × (unknown look_up ts ≡ None)
      at None e h = absurd (cc)
      at (Some b) e h = (is_found (look_up t) b e, h)

  head_unknown : (t : Token) (ts : List Token) → look_up t ≡ None → unknown look_up (t ∷ ts) ≡ Some t.number
  head_unknown t ts none = at (look_up t) none
    where
      at : (v : Option B) → v ≡ None → option_map token_number (cond (is_none v) (Some t) (find (λ u. is_none (look_up u)) ts)) ≡ Some t.number
      at None e = refl
      at (Some b) e = absurd (cc)

  others_unknown : (t : Token) (ts : List Token) (b : B) → look_up t ≡ Some b → unknown look_up (t ∷ ts) ≡ unknown look_up ts
  others_unknown t ts b some = at (look_up t) some
    where
      at : (v : Option B) → v ≡ Some b → option_map token_number (cond (is_none v) (Some t) (find (λ u. is_none (look_up u)) ts)) ≡ unknown look_up ts
      at None e = absurd (cc)
      at (Some a) e = refl

-- a list that is gone through token by token
module _ {B : Type 0} (look_up : Token → Option B) (xs : List TokenOfLine) (i : ℕ) (d : TokenOfLine) (lt : i < length xs) where
  abbrev here : Token
  here = token_view (get_or xs i d)

  pub rest_more : (b : B) → look_up here ≡ Some b → unknown look_up (token_views (drop i xs)) ≡ unknown look_up (token_views xs)
      → unknown look_up (token_views (drop (i + 1) xs)) ≡ unknown look_up (token_views xs)
  rest_more b some rest =
      sym (others_unknown look_up here (token_views (drop (i + 1) xs)) b some)
      ∙ sym (ap (λ ys. unknown look_up (token_views ys)) (drop_more xs i d lt)) ∙ rest

  pub unknown_here : look_up here ≡ None → unknown look_up (token_views (drop i xs)) ≡ unknown look_up (token_views xs)
      → unknown look_up (token_views xs) ≡ Some here.number
  unknown_here none rest = sym rest ∙ ap (λ ys. unknown look_up (token_views ys)) (drop_more xs i d lt) ∙ head_unknown look_up here (token_views (drop (i + 1) xs)) none

  pub found_more : (other : B) (b : B) (made after : List B) → look_up here ≡ Some b → made ≡ map (λ t. unwrap_or (look_up t) other) (token_views (take i xs))
      → after ≡ made ++ b ∷ [] → after ≡ map (λ t. unwrap_or (look_up t) other) (token_views (take (i + 1) xs))
  found_more other b made after some so_far one =
      one ∙ ap (λ zs. zs ++ b ∷ []) so_far ∙ ap (λ o. map (λ t. unwrap_or (look_up t) other) (token_views (take i xs)) ++ unwrap_or o other ∷ []) (sym some)
      ∙ sym (map-append (λ t. unwrap_or (look_up t) other) (token_views (take i xs)) (here ∷ []))
      ∙ ap (map (λ t. unwrap_or (look_up t) other)) (sym (map_more token_view xs i d lt))
