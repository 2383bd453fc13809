-- From one session of a party to a visit, and what visits are in other words for their states.
use Rattle.std.proofs.Common.{◌≡◌, ap, refl, subst, sym, ℕ, List, [], ◌∷◌, Option, inl, inr}
use Rattle.tb_io.specs.Faults.{HasRisen}
use Rattle.tb_io.specs.Listeners.{Connection}
use Rattle.tb_lines.specs.Outputs.{AtPrice, Charged, Lead, ReplyValue, charged}
use Rattle.tb_lines.specs.Sessions.{IsSession}
use Rattle.tb_lines.specs.declared.session_end.SessionEnd.{SessionEnd}
use Rattle.tb_lines.specs.declared.session_end.SessionEnd.TheVariants.{Ended, Foreign, LineTooLong, TooManyLines, ReadFault, WriteFault}
use Rattle.tb_lines.proofs.OtherWords.{session_as}
use Rattle.tb_lines.proofs.Paying.{paid}
use Rattle.tb_worker.specs.Visits.{AreVisits, HasCause, IsVisit, Visit}

-- a count rose where a fault ended the session
cause_of : (came went : Connection) (end : SessionEnd) → (end ≡ ReadFault → HasRisen came.reader_faults went.reader_faults)
    → (end ≡ WriteFault → HasRisen came.writer_faults went.writer_faults) → HasCause came went end
cause_of came went Ended read write = tt
cause_of came went Foreign read write = tt
cause_of came went LineTooLong read write = tt
cause_of came went TooManyLines read write = tt
cause_of came went ReadFault read write = read refl
cause_of came went WriteFault read write = write refl

-- what a session said of replies at their prices is what is said of a visit
pub visit_of : {S : Type 0} (Step : S → List ℕ → ReplyValue → S → Type 0) (fresh : S → S) (from to : S) (steps steps' : ℕ) (came went : Connection) (end : SessionEnd)
    → (end ≡ ReadFault → HasRisen came.reader_faults went.reader_faults) → (end ≡ WriteFault → HasRisen came.writer_faults went.writer_faults)
    → IsSession (Lead (AtPrice Step)) end came.left went.left (charged (fresh from) steps) (charged to steps') came.taken went.taken
    → IsVisit (Lead Step) fresh from (record { came = came; went = went; end = end }) to
visit_of {S = S} Step fresh from to steps steps' came went end read write h =
    let first : Charged S = charged (fresh from) steps in
    let last : Charged S = charged to steps' in
    record {
      session = session_as (Lead (AtPrice Step)) (Lead Step) first last (fresh from) to (λ lines replies legal. (paid Step first lines replies last legal).0) end came.left went.left came.taken went.taken h;
      cause = cause_of came went end read write;
    }

-- the replies of a session, however it ended
pub replied : {S : Type 0} (Legal : S → List (List ℕ) → List ReplyValue → S → Type 0) (end : SessionEnd) (left now before after : Option (List ℕ)) (first last : S)
    → IsSession Legal end left now first last before after → (lines : List (List ℕ)) × (replies : List ReplyValue) × Legal first lines replies last
replied Legal Ended left now before after first last h = (_, _, h.legal)
replied Legal Foreign left now before after first last h = (_, _, h.legal)
replied Legal LineTooLong left now before after first last h = (_, _, h.legal)
replied Legal TooManyLines left now before after first last h = (_, _, h.legal)
replied Legal ReadFault left now before after first last h = (_, _, h.legal)
replied Legal WriteFault left now before after first last (inl h) = (_, _, h.legal)
replied Legal WriteFault left now before after first last (inr h) = (_, _, h.legal)

-- where a state is seen as another, as long as something is true of it that every session keeps
module _ {S T : Type 0} (One : S → List (List ℕ) → List ReplyValue → S → Type 0) (Other : T → List (List ℕ) → List ReplyValue → T → Type 0) (fresh : S → S) (begun : T → T) (seen : S → T) (Own : S → Type 0)
    (begins : (s : S) → Own s → Own (fresh s)) (begins_so : (s : S) → seen (fresh s) ≡ begun (seen s))
    (says : (s : S) (lines : List (List ℕ)) (replies : List ReplyValue) (t : S) → Own s → One s lines replies t → Own t × Other (seen s) lines replies (seen t)) where
  visit_as : (from to : S) (v : Visit) → Own from → IsVisit One fresh from v to → Own to × IsVisit Other begun (seen from) v (seen to)
  visit_as from to v own h =
      let (lines, replies, legal) = replied One v.end v.came.left v.went.left v.came.taken v.went.taken (fresh from) to h.session in
      let session : IsSession Other v.end v.came.left v.went.left (seen (fresh from)) (seen to) v.came.taken v.went.taken =
      session_as One Other (fresh from) to (seen (fresh from)) (seen to) (λ ls rs is. (says (fresh from) ls rs to (begins from own) is).1) v.end v.came.left v.went.left v.came.taken v.went.taken h.session in (
        (says (fresh from) lines replies to (begins from own) legal).0,
        record {
          session = subst (λ (t : T). IsSession Other v.end v.came.left v.went.left t (seen to) v.came.taken v.went.taken) (begins_so from) session;
          cause = h.cause;
        },
      )

  -- visits lead that state on
  pub visits_as : (from to : S) (visits : List Visit) → Own from → AreVisits One fresh from visits to → Own to × AreVisits Other begun (seen from) visits (seen to)
  visits_as from to [] own h = (subst Own (sym h) own, ap seen h)
  visits_as from to (v ∷ visits) own (next, one, others) =
      let (still, is) = visit_as from next v own one in
      let (last, rest) = visits_as next to visits still others in (last, (seen next, is, rest))
