-- Lines that were cut short: what was taken is a part of some replies to all of them.
use Rattle.std.proofs.Common.{◌≡◌, ◌∙◌, ap, subst, refl, ℕ, ◌+◌, ◌≤◌, List, [], ◌∷◌, ◌++◌, length, take, drop, Option, arith}
use Rattle.std.proofs.Math.Seq.{take-append-add}
use Rattle.std.proofs.lemmas.List.{take-append-drop}
use Rattle.tb_io.specs.Taken.{Took, TookPart}
use Rattle.tb_io.proofs.TakenLemmas.{TookPart-longer}
use Rattle.tb_lines.specs.Outputs.{AreReplies, Lead, ReplyValue, price_of, text_of}
use Rattle.tb_lines.proofs.Transcribing.{Lead-append, price_of-append, text_of-append, text_of-more}

-- some first part of a text, and then of a longer one
part_of : (a b : Option (List ℕ)) (xs ys : List ℕ) (part : ℕ) → Took a b (xs ++ take part ys) → TookPart a b (xs ++ ys)
part_of a b xs ys part h = (length xs + part, rw take-append-add h)

module _ {S L : Type 0} (Step : S → L → ReplyValue → S → Type 0) (some : (s : S) (x : L) → (r : ReplyValue) × (t : S) × Step s x r t) where
  -- each has some reply
  some_replies : (lines : List L) (s : S) → (rs : List ReplyValue) × (last : S) × Lead Step s lines rs last
  some_replies [] s = ([], s, refl)
  some_replies (x ∷ lines) s =
      let (r, next, h) = some s x in
      let (rs, last, others) = some_replies lines next in (r ∷ rs, last, (next, h, others))

  -- these cost no less
  pub completed : (lines : List L) (count : ℕ) (first last : S) (replies : List ReplyValue) (cut : ReplyValue) (part : ℕ) (a b : Option (List ℕ)) → Lead Step first (take (count + 1) lines) (replies ++ cut ∷ []) last
      → Took a b (text_of replies ++ take part cut.text) → (rs : List ReplyValue) × AreReplies Step first lines rs × TookPart a b (text_of rs) × (price_of (replies ++ cut ∷ []) ≤ price_of rs)
  completed lines count first last replies cut part a b lead took =
      let so_far = replies ++ cut ∷ [] in
      let (others, end, rest) = some_replies (drop (count + 1) lines) last in
      let whole = Lead-append Step (take (count + 1) lines) (drop (count + 1) lines) so_far others first last end lead rest in
      let all : Lead Step first lines (so_far ++ others) end = subst (λ ls. Lead Step first ls (so_far ++ others) end) (take-append-drop (count + 1) lines) whole in
      let texts : text_of (so_far ++ others) ≡ (text_of replies ++ cut.text) ++ text_of others = text_of-append so_far others ∙ ap (λ t. t ++ text_of others) (text_of-more replies cut) in
      (so_far ++ others, (end, all), rw texts (TookPart-longer a b (text_of replies ++ cut.text) (text_of others) (part_of a b (text_of replies) cut.text part took)), omega (arith, price_of-append so_far others))
