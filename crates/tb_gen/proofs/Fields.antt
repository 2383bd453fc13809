-- Lines of fields, put together from the last field to the first.
use Rattle.std.proofs.Common.{◌≡◌, sym, ap, ◌∙◌, ℕ, List, [], ◌∷◌, ◌++◌, append_assoc}
use Rattle.std.specs.List.{join_with_byte}
use Rattle.tb_gen.specs.Lines.{fields_line}

-- the last field stands before the line feed
pub last_field : (end line f h : List ℕ) → end ≡ 10 ∷ [] → line ≡ f ++ end → f ≡ h → line ≡ fields_line (h ∷ [])
last_field end line f h stop put is = put ∙ ap (λ t. f ++ t) stop ∙ ap (λ t. t ++ 10 ∷ []) is

-- a field and a comma stand before a line
pub field_before : (line comma more f h g : List ℕ) (gs : List (List ℕ)) → line ≡ fields_line (g ∷ gs) → comma ≡ 44 ∷ line
    → more ≡ f ++ comma → f ≡ h → more ≡ fields_line (h ∷ g ∷ gs)
field_before line comma more f h g gs text before put is =
    put ∙ ap (λ t. f ++ t) (before ∙ ap (λ t. 44 ∷ t) text)
    ∙ ap (λ t. t ++ 44 ∷ fields_line (g ∷ gs)) is
    ∙ sym (append_assoc h (44 ∷ join_with_byte 44 (g ∷ gs)) (10 ∷ []))

-- five parts, each put before those after it
pub five_parts : (first number middle code end l1 l2 l3 l4 l5 shown chosen : List ℕ) → l1 ≡ end → l2 ≡ code ++ l1 → l3 ≡ middle ++ l2
    → l4 ≡ number ++ l3 → l5 ≡ first ++ l4 → number ≡ shown → code ≡ chosen → l5 ≡ first ++ shown ++ middle ++ chosen ++ end
five_parts first number middle code end l1 l2 l3 l4 l5 shown chosen e1 e2 e3 e4 e5 same also =
    e5
    ∙ ap (λ t. first ++ t) (e4 ∙ ap (λ t. number ++ t) (e3 ∙ ap (λ t. middle ++ t) (e2 ∙ ap (λ t. code ++ t) e1)))
    ∙ ap (λ t. first ++ (t ++ (middle ++ (code ++ end)))) same
    ∙ ap (λ t. first ++ (shown ++ (middle ++ (t ++ end)))) also
    ∙ sym (append_assoc (first ++ shown ++ middle) chosen end ∙ append_assoc (first ++ shown) middle (chosen ++ end)
    ∙ append_assoc first shown (middle ++ (chosen ++ end)))

-- parts that are added to a file, as one
pub three_parts : (file a b c : List ℕ) {f1 f2 f3 : List ℕ} → f1 ≡ file ++ a → f2 ≡ f1 ++ b → f3 ≡ f2 ++ c → f3 ≡ file ++ (a ++ b ++ c)
three_parts file a b c e1 e2 e3 =
    e3 ∙ ap (λ t. t ++ c) (e2 ∙ ap (λ t. t ++ b) e1)
    ∙ ap (λ t. t ++ c) (append_assoc file a b) ∙ append_assoc file (a ++ b) c
