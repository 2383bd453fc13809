-- What a put makes of the batches for which the files stand that a stop may leave.
use Rattle.std.proofs.Common.{◌≡◌, ◌≤◌, ◌⊎◌, ◌∙◌, inl, inr, sym, ap, subst, refl, ℕ, List, [], ◌∷◌, ◌++◌, take, Option, None, Some, false, arith, append_assoc}
use Rattle.std.specs.Prelude.{is_none}
use Rattle.std.proofs.lemmas.List.{append-nil, map-append}
use mathlib.Core.List.{IsPrefix}
use Rattle.tb_ahead.specs.Puts.{Since}
use Rattle.tb_disk.specs.Images.{Leads, Only, WhereTold}
use Rattle.tb_disk.specs.Moments.{LeavesOnly}
use Rattle.tb_disk.proofs.Telling.{back, told-of}
use Rattle.tb_journal.specs.Records.{stands_for}
use Rattle.tb_journal.specs.Stops.{Ends, EndsWithOrWithout, IsKept}
use Rattle.tb_journal_file.specs.Files.{AreLeft, AreLeftSince, EachStandsFor, IsFileOf, StandsBetween, all_of, payloads_of}
use Rattle.tb_release.specs.declared.edits.Edit.{Edit}
use Rattle.tb_spelling.specs.Spelling.{spelled}

-- the payloads of one batch more
pub payloads-more : (batches : List (List Edit)) (edits : List Edit) → payloads_of (batches ++ edits ∷ []) ≡ payloads_of batches ++ spelled edits ∷ []
payloads-more batches edits = map-append spelled batches (edits ∷ [])

module _ (file image : List ℕ) (batches : List (List Edit)) (edits : List Edit) (was : IsFileOf batches file) where
  -- what stands for the same as a file of some batches is one of them
  pub as-before : Ends (take 8 file) (stands_for file) image → IsFileOf batches image
  as-before ends = record { begins = ends.begins ∙ was.begins; stands = ends.stands ∙ was.stands; shut = ends.shut }

  -- and what stands for one payload more, of one batch more
  pub with-more : Ends (take 8 file) (stands_for file ++ spelled edits ∷ []) image → IsFileOf (batches ++ edits ∷ []) image
  with-more ends = record {
    begins = ends.begins ∙ was.begins;
    stands = ends.stands ∙ ap (λ (ps : List (List ℕ)). ps ++ spelled edits ∷ []) was.stands ∙ sym (payloads-more batches edits);
    shut = ends.shut;
  }

  pub with-or-without : EndsWithOrWithout file (spelled edits) image → IsFileOf batches image ⊎ IsFileOf (batches ++ edits ∷ []) image
  with-or-without (inl ends) = inl (as-before ends)
  with-or-without (inr ends) = inr (with-more ends)

-- ---- beginnings of one list
whole : {A : Type 0} (xs : List A) → IsPrefix xs xs
whole xs = ([], append-nil xs)

begins-more : {A : Type 0} (xs ys more : List A) → IsPrefix xs ys → IsPrefix xs (ys ++ more)
begins-more xs ys more p = (p.0 ++ more, sym (append_assoc xs p.0 more) ∙ ap (λ l. l ++ more) p.1)

-- what stands between stands so where one batch more may be there
between-more : (fewest most more : List (List Edit)) (image : List ℕ) → StandsBetween fewest most image → StandsBetween fewest (most ++ more) image
between-more fewest most more image is = record { batches = is.batches; stands = is.stands; no_fewer = is.no_fewer; no_more = begins-more is.batches most more is.no_more }

-- what stands for some batches, or for one more, stands between
between : (fewest batches : List (List Edit)) (edits : List Edit) (image : List ℕ) → IsPrefix fewest batches → IsFileOf batches image ⊎ IsFileOf (batches ++ edits ∷ []) image → StandsBetween fewest (batches ++ edits ∷ []) image
between fewest batches edits image begins (inl is) = record { batches = batches; stands = is; no_fewer = begins; no_more = (edits ∷ [], refl) }
between fewest batches edits image begins (inr is) = record { batches = batches ++ edits ∷ []; stands = is; no_fewer = begins-more fewest batches (edits ∷ []) begins; no_more = whole (batches ++ edits ∷ []) }

-- what stands for some batches, or for those and a further one, stands between
between-either : (batches : List (List Edit)) (further : Option (List Edit)) (images : List ℕ → Type 0) → EachStandsFor images batches further → (image : List ℕ) → images image → StandsBetween batches (all_of batches further) image
between-either batches None images stands image left = record { batches = batches; stands = stands image left; no_fewer = whole batches; no_more = whole batches }
between-either batches (Some last) images stands image left = between batches batches last image (whole batches) (stands image left)

begins-either : (batches : List (List Edit)) (further : Option (List Edit)) → IsPrefix batches (all_of batches further)
begins-either batches None = whole batches
begins-either batches (Some last) = (last ∷ [], refl)

-- from this moment on no stop has left anything but what one now may leave
pub left_from_now : (content : Option (List ℕ)) (may_leave : List ℕ → Type 0) (moment : ℕ) (left_since : ℕ → List ℕ → Type 0) → ((image : List ℕ) → left_since moment image → may_leave image)
    → (batches : List (List Edit)) (further : Option (List Edit)) → EachStandsFor may_leave batches further → AreLeft content may_leave moment left_since (record { moment = moment; batches = batches }) batches further
left_from_now content may_leave moment left_since only batches further stands = record {
  now = stands;
  ever = λ file told. record { past = omega arith; begins = begins-either batches further; each = λ image left. between-either batches further may_leave stands image (only image left) };
}

module _ {D : Type 0} (content : D → Option (List ℕ)) (may_leave : D → List ℕ → Type 0) (old new : D)
    (reads : (file : List ℕ) → content old ≡ Some file → may_leave old file)
    (told : (image : List ℕ) → may_leave new image → is_none (content new) ≡ false) (edits : List Edit) where
  -- the batch is kept
  pub added : Leads (content old) (content new) (IsKept (spelled edits)) → WhereTold (content new) (λ file. Only file (may_leave new))
      → (batches : List (List Edit)) → EachStandsFor (may_leave old) batches None → EachStandsFor (may_leave new) (batches ++ edits ∷ []) None
  added leads durable batches stands image left =
      let (file, now) = told-of (content new) (told image left) in
      let (first, before, kept) = back (content old) (content new) (IsKept (spelled edits)) leads file now in
      subst (IsFileOf (batches ++ edits ∷ [])) (sym (durable file now image left)) (with-more first file batches edits (stands first (reads first before)) kept)

  -- it may be there or not
  pub may-be-added : (moment : D → ℕ) (left_since : D → ℕ → List ℕ → Type 0)
      → ((t : ℕ) (image : List ℕ) → t ≤ moment new → may_leave new image → left_since new t image)
      → is_none (content new) ≡ is_none (content old)
      → WhereTold (content old) (λ file. LeavesOnly moment left_since old new (EndsWithOrWithout file (spelled edits)))
      → (batches : List (List Edit)) → EachStandsFor (may_leave old) batches None → EachStandsFor (may_leave new) batches (Some edits)
  may-be-added moment left_since counts tells leaves batches stands image left =
      let (file, before) = told-of (content old) (sym tells ∙ told image left) in
      let stops = leaves file before in
      with-or-without file image batches edits (stands file (reads file before)) (stops.each image (counts (moment old) image stops.later left))

  -- what a stop may have left since some moment, once it may be there
  pub since-more : (moment : D → ℕ) (left_since : D → ℕ → List ℕ → Type 0)
      → is_none (content new) ≡ is_none (content old)
      → WhereTold (content old) (λ file. LeavesOnly moment left_since old new (EndsWithOrWithout file (spelled edits)))
      → (since : Since) (batches : List (List Edit)) → AreLeft (content old) (may_leave old) (moment old) (left_since old) since batches None
      → WhereTold (content new) (λ _. AreLeftSince (moment new) (left_since new) since (batches ++ edits ∷ []))
  since-more moment left_since tells leaves since batches was file now =
      let (first, before) = told-of (content old) (sym tells ∙ ap is_none now) in
      let stops = leaves first before in
      let ever = was.ever first before in
      record {
        past = omega (arith, ever.past, stops.later);
        begins = begins-more since.batches batches (edits ∷ []) ever.begins;
        each = λ image left. by since batches ever first (was.now first (reads first before)) image (stops.before since.moment image ever.past left);
      }
    where
      by : (since : Since) (batches : List (List Edit)) (ever : AreLeftSince (moment old) (left_since old) since batches) (first : List ℕ) (stands : IsFileOf batches first) (image : List ℕ)
          → left_since old since.moment image ⊎ EndsWithOrWithout first (spelled edits) image → StandsBetween since.batches (batches ++ edits ∷ []) image
      by since batches ever first stands image (inl left) = between-more since.batches batches (edits ∷ []) image (ever.each image left)
      by since batches ever first stands image (inr ends) = between since.batches batches edits image ever.begins (with-or-without first image batches edits stands ends)
