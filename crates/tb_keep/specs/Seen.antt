-- What is seen of a journal's file from one moment to another.
use Rattle.std.specs.Prelude.{◌≤◌, ◌⊎◌, ℕ, List, Option}
use Rattle.tb_disk.specs.Images.{Only, WhereTold}
use Rattle.tb_journal.specs.Opening.{StandsAsOne, opened_file}

-- what is seen of a journal's disk: what its file had at first, and what a read gives now, where
-- they are told; the first moment, and what a stop could leave then; what one may leave now, and
-- what one since a moment may have left; and its count of faults, then and now
pub record JournalSeen : Type 1 where
  pub content : Option (List ℕ)
  pub content_after : Option (List ℕ)
  pub moment : ℕ
  pub could_leave : List ℕ → Type 0
  pub may_leave : List ℕ → Type 0
  pub left_since : ℕ → List ℕ → Type 0
  pub faults : ℕ
  pub faults_after : ℕ

-- each file that a stop since the first moment may have left stands as one that a stop could leave
-- then
abbrev pub StandsAsBefore : JournalSeen → Type 0
StandsAsBefore saw =
    WhereTold saw.content (λ _. (image : List ℕ) → saw.left_since saw.moment image
    → StandsAsOne saw.could_leave image)

-- it does so, or a stop since some later moment may have left it
pub record StandsAsBeforeUntil (later : ℕ) (saw : JournalSeen) : Type 0 where
  pub is_later : saw.moment ≤ later
  pub each : WhereTold saw.content (λ _. (image : List ℕ) → saw.left_since saw.moment image
      → StandsAsOne saw.could_leave image ⊎ saw.left_since later image)

-- each stands as one that could be left at first, and a stop now may leave the file as it was, or
-- written anew where it had at most nine bytes, and nothing else
pub record IsAsItWas (saw : JournalSeen) : Type 0 where
  pub now : WhereTold saw.content (λ file. Only (opened_file file) saw.may_leave)
  pub ever : StandsAsBefore saw
