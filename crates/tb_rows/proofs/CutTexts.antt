-- The records of a text that is cut before a line feed.
use Rattle.std.proofs.Common.{◌≡◌, ◌≢◌, ◌∙◌, ◌⊎◌, ◌+◌, ◌<◌, ◌≤◌, ℕ, zero, suc, List, [], ◌∷◌, ◌++◌, length, take, drop, get_or, Bool, true, false, Option, Some, None, Bor, refl, sym, ap, subst, arith, inl, inr, add-one, append-nil, append_assoc, get_or-drop}
use Rattle.std.specs.Prelude.{All, ⊤, is_some, not, ◌==◌, if◌then◌else◌}
use Rattle.std.proofs.lemmas.Bool.{cases_Bool, eqb-true}
use Rattle.std.proofs.lemmas.Bool.Decides.{nat_tests}
use Rattle.std.proofs.lemmas.List.{drop_more, get_or_default, length-drop, take-append-drop}
use Rattle.std.proofs.lemmas.List.Elements.{All-head, All-tail, All-take}
use Rattle.memchr.specs.Find.{IsFirstByte, is_byte}
use Rattle.csv.specs.Machine.{Read, next_record, step, in_field, is_end, ends_at_end, fields_after, field_after, line_feed}
use Rattle.csv.specs.Reading.{default_config, is_bom, records, records_from, records_next, strip_bom}
use Rattle.csv.specs.Writing.{quote_mark}
use Rattle.csv.specs.declared.parser.State.{State}
use Rattle.csv.specs.declared.parser.State.TheVariants as st
use Rattle.tb_rows.specs.Cutting.{CutsAtLineFeeds, HasNoQuote, all_records}
use Rattle.tb_rows.specs.Formats.{Format}
use Rattle.tb_rows.specs.Records.{records_of}
use Rattle.tb_rows.specs.WholeFiles.{IsFile}
use Rattle.tb_rows.proofs.Left.{next_between, next_none, next_shorter}

-- all records of a text from within one: the fields so far and the bytes of the field at hand
unfoldable run : State → List (List ℕ) → List ℕ → List ℕ → List (List (List ℕ))
run s f g [] = if ends_at_end s then (f ++ g ∷ []) ∷ [] else []
run s f g (c ∷ rest) =
    if is_end (step default_config s c).1
    then fields_after (step default_config s c).1 f g ∷ run (step default_config s c).0 [] [] rest
    else run (step default_config s c).0 (fields_after (step default_config s c).1 f g) (field_after (step default_config s c).1 c g) rest

-- they are the next record and those after it
run-next : (xs : List ℕ) (s : State) (f : List (List ℕ)) (g : List ℕ) → run s f g xs ≡ records_next (λ t ys. run t [] [] ys) (next_record default_config s f g xs)
unfolding run next_record
run-next [] s f g = elim (cases_Bool (ends_at_end s)) [
  | inl t ↦ rw t refl
  | inr t ↦ rw t refl
]
run-next (c ∷ rest) s f g = elim (cases_Bool (is_end (step default_config s c).1)) [
  | inl t ↦ rw t refl
  | inr t ↦ rw t (run-next rest (step default_config s c).0 (fields_after (step default_config s c).1 f g) (field_after (step default_config s c).1 c g))
]

-- the records of a text are all of them
records-run : (n : ℕ) (s : State) (xs : List ℕ) → ends_at_end s ≡ false → length xs < n → records_from default_config n s xs ≡ run s [] [] xs
unfolding records_from
records-run zero s xs b h = absurd (omega arith)
records-run (suc n) s xs b h = by (λ t ys f i. records-run n t ys f i) xs (next_record default_config s [] [] xs) refl h ∙ sym (run-next xs s [] [])
  where
    by : ((t : State) (ys : List ℕ) → ends_at_end t ≡ false → length ys < n → records_from default_config n t ys ≡ run t [] [] ys)
        → (ys : List ℕ) (o : Option Read) → next_record default_config s [] [] ys ≡ o → length ys < suc n
        → records_next (records_from default_config n) o ≡ records_next (λ t zs. run t [] [] zs) o
    by more ys None e i = refl
    by more [] (Some p) e i = absurd (next_none s p b e)
    by more (c ∷ ys) (Some p) e i =
        let l = next_shorter ys c s [] [] p e in
        ap (λ r. p.0 ∷ r) (more p.1 p.2 (next_between (c ∷ ys) s [] [] p e) (omega (arith, l)))

records-all : (xs : List ℕ) → records default_config xs ≡ run st.StartRecord [] [] xs
records-all xs = records-run (length xs + 1) st.StartRecord xs refl (omega arith)

-- the machine is in no quotes and, between two records, has nothing at hand
abbrev Plain : State → List (List ℕ) → List ℕ → Type 0
Plain st.StartRecord f g = (f ≡ []) × (g ≡ [])
Plain st.AfterCr f g = (f ≡ []) × (g ≡ [])
Plain st.StartField f g = ⊤
Plain st.InField f g = ⊤
Plain st.InQuoted f g = ⊥
Plain st.AfterQuote f g = ⊥
Plain st.InEscape f g = ⊥
Plain st.InComment f g = ⊥

-- what the step of a byte that is no quote leaves
abbrev StaysPlain : State → List (List ℕ) → List ℕ → ℕ → Type 0
StaysPlain s f g c =
    ((is_end (step default_config s c).1 ≡ true) × Plain (step default_config s c).0 [] [])
    ⊎ ((is_end (step default_config s c).1 ≡ false) × Plain (step default_config s c).0 (fields_after (step default_config s c).1 f g) (field_after (step default_config s c).1 c g))

unquoted : (c : ℕ) → c ≢ quote_mark → (c == 34) ≡ false
unquoted c h = elim (cases_Bool (c == 34)) [
  | inl t ↦ absurd (h (grind (arith, nat_tests)))
  | inr t ↦ t
]

stays : (s : State) (f : List (List ℕ)) (g : List ℕ) (c : ℕ) → c ≢ quote_mark → Plain s f g → StaysPlain s f g c
stays st.StartRecord f g c q (e, k) = elim (cases_Bool (c == 13)) [
  | inl a ↦ rw a (inr (refl, (e, k)))
  | inr a ↦ elim (cases_Bool (c == 10)) [
    | inl b ↦ rw (a, b) (inr (refl, (e, k)))
    | inr b ↦ elim (cases_Bool (c == 44)) [
      | inl d ↦ rw (a, b, unquoted c q, d) (inr (refl, tt))
      | inr d ↦ rw (a, b, unquoted c q, d) (inr (refl, tt))
    ]
  ]
]
stays st.AfterCr f g c q (e, k) = elim (cases_Bool (c == 10)) [
  | inl b ↦ rw b (inr (refl, (e, k)))
  | inr b ↦ elim (cases_Bool (c == 13)) [
    | inl a ↦ rw (b, a) (inr (refl, (e, k)))
    | inr a ↦ elim (cases_Bool (c == 44)) [
      | inl d ↦ rw (b, a, unquoted c q, d) (inr (refl, tt))
      | inr d ↦ rw (b, a, unquoted c q, d) (inr (refl, tt))
    ]
  ]
]
stays st.StartField f g c q h = elim (cases_Bool (c == 44)) [
  | inl d ↦ rw (unquoted c q, d) (inr (refl, tt))
  | inr d ↦ elim (cases_Bool (c == 13)) [
    | inl a ↦ rw (unquoted c q, d, a) (inl (refl, (refl, refl)))
    | inr a ↦ elim (cases_Bool (c == 10)) [
      | inl b ↦ rw (unquoted c q, d, a, b) (inl (refl, (refl, refl)))
      | inr b ↦ rw (unquoted c q, d, a, b) (inr (refl, tt))
    ]
  ]
]
stays st.InField f g c q h = elim (cases_Bool (c == 44)) [
  | inl d ↦ rw d (inr (refl, tt))
  | inr d ↦ elim (cases_Bool (c == 13)) [
    | inl a ↦ rw (d, a) (inl (refl, (refl, refl)))
    | inr a ↦ elim (cases_Bool (c == 10)) [
      | inl b ↦ rw (d, a, b) (inl (refl, (refl, refl)))
      | inr b ↦ rw (d, a, b) (inr (refl, tt))
    ]
  ]
]
stays st.InQuoted f g c q h = absurd h
stays st.AfterQuote f g c q h = absurd h
stays st.InEscape f g c q h = absurd h
stays st.InComment f g c q h = absurd h

-- at a line feed what is at hand ends, and nothing of it is left
at-line-feed : (s : State) (f : List (List ℕ)) (g ys : List ℕ) → Plain s f g → run s f g (line_feed ∷ ys) ≡ run s f g [] ++ run st.StartRecord [] [] ys
unfolding run
at-line-feed st.StartRecord f g ys (e, k) = rw (e, k) refl
at-line-feed st.AfterCr f g ys (e, k) = rw (e, k) refl
at-line-feed st.StartField f g ys h = refl
at-line-feed st.InField f g ys h = refl
at-line-feed st.InQuoted f g ys h = absurd h
at-line-feed st.AfterQuote f g ys h = absurd h
at-line-feed st.InEscape f g ys h = absurd h
at-line-feed st.InComment f g ys h = absurd h

run-cut : (xs ys : List ℕ) (s : State) (f : List (List ℕ)) (g : List ℕ) → HasNoQuote xs → Plain s f g → run s f g (xs ++ line_feed ∷ ys) ≡ run s f g xs ++ run st.StartRecord [] [] ys
unfolding run
run-cut [] ys s f g q h = at-line-feed s f g ys h
run-cut (c ∷ xs) ys s f g q h = elim (stays s f g c (All-head (λ b. b ≢ quote_mark) c xs q) h) [
  | inl (t, k) ↦ rw t (ap (λ rs. fields_after (step default_config s c).1 f g ∷ rs) (run-cut xs ys (step default_config s c).0 [] [] (All-tail (λ b. b ≢ quote_mark) c xs q) k))
  | inr (t, k) ↦ rw t (run-cut xs ys (step default_config s c).0 (fields_after (step default_config s c).1 f g) (field_after (step default_config s c).1 c g) (All-tail (λ b. b ≢ quote_mark) c xs q) k)
]

records-cut : (xs ys : List ℕ) → HasNoQuote xs → records default_config (xs ++ line_feed ∷ ys) ≡ records default_config xs ++ records default_config (line_feed ∷ ys)
unfolding run
records-cut xs ys q =
    let whole = records-all (xs ++ line_feed ∷ ys) ∙ run-cut xs ys st.StartRecord [] [] q (refl, refl) in
    whole ∙ ap (λ rs. rs ++ run st.StartRecord [] [] ys) (sym (records-all xs)) ∙ ap (λ rs. records default_config xs ++ rs) (sym (records-all (line_feed ∷ ys)))

-- what begins with a line feed has no byte order mark
bom-line-feed : (ys : List ℕ) → strip_bom (line_feed ∷ ys) ≡ line_feed ∷ ys
unfolding strip_bom
bom-line-feed [] = refl
bom-line-feed (y ∷ []) = refl
bom-line-feed (y ∷ z ∷ ys) = refl

bom-cut : (xs ys : List ℕ) → strip_bom (xs ++ line_feed ∷ ys) ≡ strip_bom xs ++ line_feed ∷ ys
unfolding strip_bom
bom-cut [] ys = bom-line-feed ys
bom-cut (a ∷ []) [] = refl
bom-cut (a ∷ []) (y ∷ ys) = elim (cases_Bool (a == 0xEF)) [
  | inl t ↦ rw t refl
  | inr t ↦ rw t refl
]
bom-cut (a ∷ b ∷ []) ys = elim (cases_Bool (is_bom a b line_feed)) [
  | inl t ↦ absurd (grind (arith, nat_tests))
  | inr t ↦ rw t refl
]
bom-cut (a ∷ b ∷ c ∷ xs) ys = elim (cases_Bool (is_bom a b c)) [
  | inl t ↦ rw t refl
  | inr t ↦ rw t refl
]

bom-plain : (xs : List ℕ) → HasNoQuote xs → HasNoQuote (strip_bom xs)
unfolding strip_bom
bom-plain [] q = q
bom-plain (a ∷ []) q = q
bom-plain (a ∷ b ∷ []) q = q
bom-plain (a ∷ b ∷ c ∷ xs) q = elim (cases_Bool (is_bom a b c)) [
  | inl t ↦ rw t (All-tail (λ b. b ≢ quote_mark) c xs (All-tail (λ b. b ≢ quote_mark) b (c ∷ xs) (All-tail (λ b. b ≢ quote_mark) a (b ∷ c ∷ xs) q)))
  | inr t ↦ rw t q
]

pub cuts : CutsAtLineFeeds
cuts before after q =
    ap (λ bs. records default_config bs) (bom-cut before after)
    ∙ records-cut (strip_bom before) after (bom-plain before q)
    ∙ ap (λ bs. records_of before ++ records default_config bs) (sym (bom-line-feed after))

-- a search that finds no quote
pub no-quote : (text : List ℕ) → IsFirstByte (is_byte quote_mark) text None → HasNoQuote text
no-quote text none = λ k d lt same. none k (omega arith) lt (rw (get_or_default text k 0 d lt ∙ same) refl)

pub none-found : (text : List ℕ) (o : Option ℕ) (b : Bool) → IsFirstByte (is_byte quote_mark) text o → is_some o ≡ not b → b ≡ true → HasNoQuote text
none-found text None b h n t = no-quote text h
none-found text (Some k) b h n t = let e = rw t at n in cc

-- a search that finds a line feed
pub feed-found : (text hay : List ℕ) (from place : ℕ) → hay ≡ drop from text → from < length text → IsFirstByte (is_byte line_feed) hay (Some place)
    → (from ≤ from + place) × (from + place < length text) × (drop (from + place) text ≡ line_feed ∷ drop (from + place + 1) text)
feed-found text hay from place is below (nb, here) =
    let high : place < length (drop from text) = subst (λ hs. place < length hs) is nb.high in
    let within : from + place < length text = omega (arith, length-drop from text, high) in
    let byte : get_or hay place 0 ≡ line_feed = eqb-true _ _ here in
    let at : get_or text (from + place) 0 ≡ line_feed = sym (get_or-drop from text place 0) ∙ ap (λ hs. get_or hs place 0) (sym is) ∙ byte in
    (omega arith, within, drop_more text (from + place) 0 within ∙ ap (λ b. b ∷ drop (from + place + 1) text) at)

-- a text is cut before this line feed
cut-here : (text : List ℕ) (place : ℕ) → HasNoQuote text → drop place text ≡ line_feed ∷ drop (place + 1) text → records_of text ≡ records_of (take place text) ++ records_of (drop place text)
cut-here text place q is =
    let whole : take place text ++ line_feed ∷ drop (place + 1) text ≡ text = ap (λ bs. take place text ++ bs) (sym is) ∙ take-append-drop place text in
    ap (λ bs. records_of bs) (sym whole) ∙ cuts (take place text) (drop (place + 1) text) (All-take (λ b. b ≢ quote_mark) place text q)
    ∙ ap (λ bs. records_of (take place text) ++ records_of bs) (sym is)

-- one more part
pub all-push : (parts : List (Bor (List ℕ))) (part : Bor (List ℕ)) → all_records (parts ++ part ∷ []) ≡ all_records parts ++ records_of part.now
all-push [] part = append-nil (records_of part.now)
all-push (p ∷ parts) part = ap (λ rs. records_of p.now ++ rs) (all-push parts part) ∙ sym (append_assoc (records_of p.now) (all_records parts) (records_of part.now))

-- one more part, cut off what is left
pub cut-more : (parts : List (Bor (List ℕ))) (part : Bor (List ℕ)) (rest more : List ℕ) (place : ℕ) (whole : List (List (List ℕ)))
    → HasNoQuote rest → drop place rest ≡ line_feed ∷ drop (place + 1) rest → part.now ≡ take place rest → more ≡ drop place rest
    → all_records parts ++ records_of rest ≡ whole → all_records (parts ++ part ∷ []) ++ records_of more ≡ whole
cut-more parts part rest more place whole q is front back so_far =
    ap (λ rs. rs ++ records_of more) (all-push parts part) ∙ append_assoc (all_records parts) (records_of part.now) (records_of more)
    ∙ ap (λ bs. all_records parts ++ (records_of bs ++ records_of more)) front ∙ ap (λ bs. all_records parts ++ (records_of (take place rest) ++ records_of bs)) back
    ∙ ap (λ rs. all_records parts ++ rs) (sym (cut-here rest place q is)) ∙ so_far

-- a header, and the parts after it
pub file-cut : {L V W K : Type 0} (format : Format L V W K) (file front rest : List ℕ) (width : ℕ) (indices : List ℕ) (parts : List (Bor (List ℕ))) (end : ℕ)
    → HasNoQuote file → drop end file ≡ line_feed ∷ drop (end + 1) file → front ≡ take end file → rest ≡ drop end file
    → IsFile format front width indices [] → all_records parts ≡ records_of rest → IsFile format file width indices (all_records parts)
file-cut format file front rest width indices parts end q is first after (header, only, wide, c) all =
    let here : records_of file ≡ header ∷ all_records parts =
    cut-here file end q is ∙ ap (λ bs. records_of bs ++ records_of (drop end file)) (sym first) ∙ ap (λ rs. rs ++ records_of (drop end file)) only
    ∙ ap (λ bs. header ∷ records_of bs) (sym after) ∙ ap (λ rs. header ∷ rs) (sym all) in
    (header, here, wide, c)
