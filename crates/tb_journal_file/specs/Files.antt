-- The batches for which a journal's files stand.
use Rattle.std.specs.Prelude.{◌≡◌, ◌≤◌, ◌⊎◌, ◌++◌, ◌∷◌, ℕ, Bool, true, List, [], map, Option, None}
use Rattle.std.specs.Prelude.{Some}
use mathlib.Core.List.{IsPrefix}
use Rattle.tb_ahead.specs.Puts.{Since}
use Rattle.tb_disk.specs.Images.{WhereTold}
use Rattle.tb_journal.specs.Opening.{header}
use Rattle.tb_journal.specs.States.{JournalState}
use Rattle.tb_journal.specs.Stops.{Ends, IsOn}
use Rattle.tb_release.specs.declared.edits.Edit.{Edit}
use Rattle.tb_spelling.specs.Spelling.{spelled}

-- the payloads of some batches, each given as the list of its edits
abbrev pub payloads_of : List (List Edit) → List (List ℕ)
payloads_of batches = map spelled batches

-- a journal's file that stands for these batches: it begins with a journal's first bytes, and the
-- gate behind the batches lies in it and isn't open
abbrev pub IsFileOf : List (List Edit) → List ℕ → Type 0
IsFileOf batches file = Ends header (payloads_of batches) file

-- each of these files stands for these batches; or, where one further batch is given, for these, or
-- for these and that one
abbrev pub EachStandsFor : (List ℕ → Type 0) → List (List Edit) → Option (List Edit) → Type 0
EachStandsFor images batches None = (image : List ℕ) → images image → IsFileOf batches image
EachStandsFor images batches (Some last) =
    (image : List ℕ) → images image
    → IsFileOf batches image ⊎ IsFileOf (batches ++ last ∷ []) image

-- some batches, and a further one where it is given
abbrev pub all_of : List (List Edit) → Option (List Edit) → List (List Edit)
all_of batches None = batches
all_of batches (Some last) = batches ++ last ∷ []

-- a file stands for some batches, which begin with the fewest and are a beginning of the most
pub record StandsBetween (fewest most : List (List Edit)) (file : List ℕ) : Type 0 where
  pub batches : List (List Edit)
  pub stands : IsFileOf batches file
  pub no_fewer : IsPrefix fewest batches
  pub no_more : IsPrefix batches most

-- each file that a stop since the given moment may have left stands for a beginning of these
-- batches that begins with the given ones
abbrev pub EachStandsBetween : (ℕ → List ℕ → Type 0) → Since → List (List Edit) → Type 0
EachStandsBetween left_since since most =
    (image : List ℕ) → left_since since.moment image → StandsBetween since.batches most image

-- it does so, and that moment isn't later than this one
pub record AreLeftSince (moment : ℕ) (left_since : ℕ → List ℕ → Type 0) (since : Since)
    (most : List (List Edit)) : Type 0 where
  pub past : since.moment ≤ moment
  pub begins : IsPrefix since.batches most
  pub each : EachStandsBetween left_since since most

-- each file that a stop now may leave stands for these batches, or for these and the further one;
-- and what one since the given moment may have left stands for a beginning of them, where it is
-- told what a read gives
pub record AreLeft (content : Option (List ℕ)) (may_leave : List ℕ → Type 0) (moment : ℕ)
    (left_since : ℕ → List ℕ → Type 0) (since : Since) (batches : List (List Edit))
    (further : Option (List Edit)) : Type 0 where
  pub now : EachStandsFor may_leave batches further
  pub ever : WhereTold content
      (λ _. AreLeftSince moment left_since since (all_of batches further))

-- the file was attached; and while the journal is live it is at its end, and on the file, where
-- that is told
pub record CanPut (attached : Bool) (content : Option (List ℕ)) (may_leave : List ℕ → Type 0)
    (journal : JournalState) : Type 0 where
  pub attached_file : attached ≡ true
  pub at_end : journal.live ≡ true → journal.at_end ≡ true
  pub on : journal.live ≡ true → WhereTold content (λ file. IsOn file may_leave journal)
