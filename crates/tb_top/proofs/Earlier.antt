-- What is seen of a journal's file, told from an earlier moment on.
use Rattle.std.proofs.Common.{◌≤◌, ◌⊎◌, ℕ, List, inl, inr, ⊎_elim, arith}
use Rattle.tb_journal.proofs.Beginning.{as-one-fewer, as-one-now}
use Rattle.tb_keep.specs.Seen.{IsAsItWas, JournalSeen, StandsAsBefore, StandsAsBeforeUntil}

module _ (saw : JournalSeen) (faults : ℕ) (could_leave : List ℕ → Type 0) (could : (image : List ℕ) → saw.could_leave image → could_leave image)
    (moment : ℕ) (came : (image : List ℕ) → saw.left_since moment image → could_leave image ⊎ saw.left_since saw.moment image) where
  -- with what a stop could leave then
  abbrev pub earlier : JournalSeen
  earlier = record saw { moment = moment; could_leave = could_leave; faults = faults }

  pub stands-earlier : StandsAsBefore saw → StandsAsBefore earlier
  stands-earlier stands = λ file told image left.
      ⊎_elim (as-one-now could_leave image) (λ since. as-one-fewer could_leave saw.could_leave could image (stands file told image since)) (came image left)

  pub stays-earlier : IsAsItWas saw → IsAsItWas earlier
  stays-earlier was = record { now = was.now; ever = stands-earlier was.ever }

  pub until-earlier : moment ≤ saw.moment → (later : ℕ) → StandsAsBeforeUntil later saw → StandsAsBeforeUntil later earlier
  until-earlier le later until = record {
    is_later = omega (arith, le, until.is_later);
    each = λ file told image left. ⊎_elim (λ was. inl (as-one-now could_leave image was))
        (λ since. ⊎_elim (λ one. inl (as-one-fewer could_leave saw.could_leave could image one)) (λ after. inr after) (until.each file told image since)) (came image left);
  }
